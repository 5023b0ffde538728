-- How rows of offsets stand to one another, and to a stream.
use Rattle.std.specs.Prelude.{◌≡◌, ◌≤◌, Bool, List, length, true, ℕ}
use Rattle.std.specs.Cmp.Lexicographic.{slice_cmp}
use Rattle.std.specs.Ordering.{nat_cmp, ordering_reverse, ordering_then}
use Rattle.std.specs.declared.cmp.Ordering.{Ordering}
use Rattle.book_rows.specs.Ids.{is_less}
use Rattle.book_rows.specs.Lists.{Pairs}
use Rattle.book_rows.specs.Offsets.{key_cmp}
use Rattle.book_rows.specs.declared.rows.OffsetRow.{OffsetRow}

abbrev pub Stands : OffsetRow → OffsetRow → Type 0
Stands r s = is_less (key_cmp r s) ≡ true

-- rows ascend by source, stream and partition, so no key stands there twice
abbrev pub Ascend : List OffsetRow → Type 0
Ascend rows = Pairs Stands rows

-- the row against the rows of a stream
abbrev pub stream_cmp : List ℕ → List ℕ → OffsetRow → Ordering
stream_cmp source stream r = ordering_then (slice_cmp nat_cmp r.source source) (slice_cmp nat_cmp r.stream stream)

abbrev pub is_before : List ℕ → List ℕ → OffsetRow → Bool
is_before source stream r = is_less (stream_cmp source stream r)

abbrev pub is_after : List ℕ → List ℕ → OffsetRow → Bool
is_after source stream r = is_less (ordering_reverse (stream_cmp source stream r))

-- the rows ascend, and there are so many
pub record IsCounted (rows : List OffsetRow) (count : ℕ) : Type 0 where
  pub ascend : Ascend rows
  pub exact : count ≡ length rows
  pub few : count ≤ 4611686018427387904
