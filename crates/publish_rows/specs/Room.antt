-- The tables that each publish adds to, in the order in which they are tested.
use Rattle.std.specs.Prelude.{◌∷◌, Bool, List, Option, Some, [], cond, nat_lt, ℕ}
use Rattle.book_rows.specs.Outcome.{row_limit}
use Rattle.book_rows.specs.declared.kinds.Table.{Table}
use Rattle.book_rows.specs.declared.kinds.Table.TheVariants as Tables

abbrev pub append_tables : List Table
append_tables = Tables.Segments ∷ Tables.Upgrades ∷ Tables.Publications ∷ Tables.Offsets ∷ []

abbrev pub insert_tables : List Table
insert_tables = Tables.Chunks ∷ Tables.Parts ∷ Tables.Segments ∷ Tables.Publications ∷ Tables.Offsets ∷ []

abbrev pub replace_tables : List Table
replace_tables = Tables.Chunks ∷ Tables.Parts ∷ Tables.Segments ∷ Tables.Pendings ∷ Tables.Publications ∷ Tables.Offsets ∷ []

abbrev pub drop_tables : List Table
drop_tables = Tables.Publications ∷ []

-- the first of the tables that an insert and a replacement begin with, by so many chunks, by whether a chunk gives too great a part next, and by so many segments
abbrev pub over_full : ℕ → Bool → ℕ → Option Table → Option Table
over_full chunks parts segments others =
    cond (nat_lt row_limit chunks) (Some Tables.Chunks) (cond parts (Some Tables.Parts) (cond (nat_lt row_limit segments) (Some Tables.Segments) others))
