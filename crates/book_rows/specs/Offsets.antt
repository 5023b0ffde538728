-- Stored offsets: what they are compared with, and what a publication makes of them.
use Rattle.std.specs.Prelude.{◌&&◌, ◌==◌, ◌∷◌, Bool, List, None, Option, Some, [], bytes_eq, cond, filter, find, map, nat_lt, not, ℕ}
use Rattle.std.specs.Cmp.Lexicographic.{slice_cmp}
use Rattle.std.specs.Ordering.{nat_cmp, ordering_then}
use Rattle.std.specs.declared.cmp.Ordering.{Ordering}
use Rattle.book_rows.specs.Ids.{is_less}
use Rattle.book_rows.specs.Lists.{or_else}
use Rattle.book_rows.specs.declared.replies.Refusal.{Refusal}
use Rattle.book_rows.specs.declared.rows.Offset.{Offset}
use Rattle.book_rows.specs.declared.rows.OffsetRow.{OffsetRow}
use Rattle.book_rows.specs.declared.rows.Range.{Range}
use Rattle.book_rows.specs.declared.rows.Ranges.{Ranges}
use Rattle.book_rows.specs.declared.replies.Refusal.TheVariants as Refusals

-- ---- what is stored

abbrev pub is_of_stream : List ℕ → List ℕ → OffsetRow → Bool
is_of_stream source stream r = bytes_eq r.source source && bytes_eq r.stream stream

abbrev pub is_at : List ℕ → List ℕ → ℕ → OffsetRow → Bool
is_at source stream partition r = is_of_stream source stream r && (r.partition == partition)

abbrev pub offset_in : Option OffsetRow → Option ℕ
offset_in None = None
offset_in (Some r) = Some r.offset

-- the stored offset of a partition, if there is one
abbrev pub stored : List OffsetRow → List ℕ → List ℕ → ℕ → Option ℕ
stored rows source stream partition = offset_in (find (is_at source stream partition) rows)

-- ---- whether ranges go on from there

abbrev pub mismatch : Option ℕ → Range → Option Refusal
mismatch None r = None
mismatch (Some z) r = cond (z == r.start) None (Some (Refusals.OffsetMismatch r.partition z))

abbrev pub part_fault : Option ℕ → Range → Option Refusal
part_fault z r = cond (nat_lt r.end r.start) (Some (Refusals.BadRange r.partition)) (mismatch z r)

-- why the first range, in their order, that doesn't go on from what is stored doesn't
abbrev pub compare : List OffsetRow → List ℕ → List ℕ → List Range → Option Refusal
compare rows source stream [] = None
compare rows source stream (r ∷ rs) = or_else (part_fault (stored rows source stream r.partition) r) (compare rows source stream rs)

-- ---- what a publication makes of them

-- the row of the same key is replaced, or else the row stands before the first that is later
abbrev pub set_by : (OffsetRow → Bool) → (OffsetRow → Bool) → OffsetRow → List OffsetRow → List OffsetRow
set_by same later row [] = row ∷ []
set_by same later row (r ∷ rs) = cond (same r) (row ∷ rs) (cond (later r) (row ∷ r ∷ rs) (r ∷ set_by same later row rs))

-- rows stand by source, stream and partition
abbrev pub key_cmp : OffsetRow → OffsetRow → Ordering
key_cmp a b = ordering_then (slice_cmp nat_cmp a.source b.source) (ordering_then (slice_cmp nat_cmp a.stream b.stream) (nat_cmp a.partition b.partition))

abbrev pub is_same_key : OffsetRow → OffsetRow → Bool
is_same_key row r = is_at row.source row.stream row.partition r

abbrev pub set_row : OffsetRow → List OffsetRow → List OffsetRow
set_row row rows = set_by (is_same_key row) (λ r. is_less (key_cmp row r)) row rows

abbrev pub row_for : List ℕ → List ℕ → Offset → OffsetRow
row_for source stream o = record { source = source; stream = stream; partition = o.partition; offset = o.offset }

-- these offsets are stored, one after the other
abbrev pub store : List OffsetRow → List ℕ → List ℕ → List Offset → List OffsetRow
store rows source stream [] = rows
store rows source stream (o ∷ os) = store (set_row (row_for source stream o) rows) source stream os

abbrev pub end_of : Range → Offset
end_of r = record { partition = r.partition; offset = r.end }

-- the ends of published ranges are stored
abbrev pub advance : List OffsetRow → List ℕ → List ℕ → List Range → List OffsetRow
advance rows source stream parts = store rows source stream (map end_of parts)

-- a stream's offsets go
abbrev pub cleared : List OffsetRow → List ℕ → List ℕ → List OffsetRow
cleared rows source stream = filter (λ r. not (is_of_stream source stream r)) rows

-- these offsets in place of the stream's
abbrev pub reset_to : List OffsetRow → List ℕ → List ℕ → List Offset → List OffsetRow
reset_to rows source stream os = store (cleared rows source stream) source stream os

-- the range of the publication of a reset
abbrev pub point_of : Offset → Range
point_of o = record { partition = o.partition; start = o.offset; end = o.offset }

-- ---- where a publish has no ranges

abbrev pub compared : List OffsetRow → List ℕ → Option Ranges → Option Refusal
compared rows source None = None
compared rows source (Some ranges) = compare rows source ranges.stream ranges.parts

abbrev pub advanced : List OffsetRow → List ℕ → Option Ranges → List OffsetRow
advanced rows source None = rows
advanced rows source (Some ranges) = advance rows source ranges.stream ranges.parts
