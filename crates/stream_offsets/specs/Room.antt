-- Whether the tables have room, by the numbers of their rows.
use Rattle.std.specs.Prelude.{◌+◌, Bool, List, None, Option, Some, cond, nat_lt, true, ℕ}
use Rattle.std.specs.Option.{is_none}
use Rattle.book_rows.specs.Lists.{list_links}
use Rattle.book_rows.specs.Offsets.{stored}
use Rattle.book_rows.specs.Outcome.{row_limit}
use Rattle.book_rows.specs.declared.kinds.Table.{Table}
use Rattle.book_rows.specs.declared.kinds.Table.TheVariants as Tables
use Rattle.book_rows.specs.declared.rows.OffsetRow.{OffsetRow}
use Rattle.book_rows.specs.declared.rows.Range.{Range}
use Rattle.book_rows.specs.declared.rows.Ranges.{Ranges}

-- the first table that is too full after one more publication, by whether there are too many offsets
abbrev pub no_room_by : ℕ → Bool → Option Table
no_room_by publications offsets = cond (nat_lt row_limit (publications + 1)) (Some Tables.Publications) (cond offsets (Some Tables.Offsets) None)

-- the first table that is too full after one more publication, and with so many offsets
abbrev pub no_room_for_reset : ℕ → ℕ → Option Table
no_room_for_reset publications offsets = no_room_by publications (nat_lt row_limit offsets)

-- no offset is stored of the range's partition
abbrev pub is_new : List OffsetRow → List ℕ → List ℕ → Range → Bool
is_new rows source stream r = is_none (stored rows source stream r.partition)

-- where there are ranges, their partitions ascend
abbrev pub ranges_ascend : Option Ranges → Bool
ranges_ascend None = true
ranges_ascend (Some ranges) = list_links (λ a b. nat_lt a.partition b.partition) ranges.parts
