-- Whether the tables have room for a root pending.
use Rattle.std.specs.Prelude.{◌+◌, ◌∷◌, ◌≡◌, Bool, List, None, Option, Some, [], cond, length, nat_lt, unwrap_or, ℕ}
use Rattle.std.specs.Option.{option_map}
use Rattle.book_rows.specs.Allocation.{chunk_of}
use Rattle.book_rows.specs.Answer.{empty_book}
use Rattle.book_rows.specs.Outcome.{no_room, part_limit, row_limit}
use Rattle.book_rows.specs.declared.answers.NewPending.{NewPending}
use Rattle.book_rows.specs.declared.kinds.Table.{Table}
use Rattle.book_rows.specs.declared.kinds.Table.TheVariants as Tables
use Rattle.book_rows.specs.declared.rows.Book.{Book}
use Rattle.book_rows.specs.declared.rows.ChunkRow.{ChunkRow}
use Rattle.book_rows.specs.declared.rows.PendingRow.{PendingRow}
use Rattle.tab_segments.specs.SegmentRows.{chunk_id}

-- the next part of the pending's chunk, where the chunk is there
abbrev pub next_part : List ChunkRow → NewPending → Option ℕ
next_part cs n = option_map (λ c. c.next) (chunk_of (chunk_id n.source n.span n.version) cs)

-- how many chunks there are after a part is given: one more where the chunk wasn't there
abbrev pub count_after : Option ℕ → ℕ → ℕ
count_after None count = count + 1
count_after (Some next) count = count

-- one more row is too many
abbrev pub is_last : ℕ → Bool
is_last count = nat_lt row_limit (count + 1)

-- the first of the tables that is too full after it, by the next part, the number of chunks, and whether one more pending is too many
abbrev pub too_full : Option ℕ → ℕ → Bool → Option Table
too_full next chunks pendings =
    cond (nat_lt row_limit (count_after next chunks)) (Some Tables.Chunks)
    (cond (nat_lt part_limit (unwrap_or next 0 + 1)) (Some Tables.Parts) (cond pendings (Some Tables.Pendings) None))

-- the same, of a pending to be added to these tables
abbrev pub no_room_for : NewPending → List ChunkRow → List PendingRow → Option Table
no_room_for n cs ps = too_full (next_part cs n) (length cs) (is_last (length ps))

-- ---- in a book

-- the tables that an allocation adds to, in the order in which they are tested
abbrev pub own_tables : List Table
own_tables = Tables.Chunks ∷ Tables.Parts ∷ Tables.Pendings ∷ []

-- the book with these chunks and pendings in the place of its own
abbrev pub with_tables : List ChunkRow → List PendingRow → Book → Book
with_tables cs ps b = record b { chunks = cs; pendings = ps }

-- none of them is too full
abbrev pub AreWithin : List ChunkRow → List PendingRow → Type 0
AreWithin cs ps = no_room own_tables (with_tables cs ps empty_book) ≡ None
