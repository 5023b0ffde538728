-- The lists of a command, and what stands in them.
use Rattle.std.specs.Prelude.{ℕ, List, [], ◌∷◌, Option, Some, map, codes}
use Rattle.std.specs.Ordering.{nat_cmp, ordering_then}
use Rattle.std.specs.declared.cmp.Ordering.{Ordering}
use Rattle.serde_json.specs.Data.{Data, Items, no_items, item}
use Rattle.serde_json.specs.Find.{get, as_array}
use Rattle.command_forms.specs.Sorted.{ordered, less_by}
use Rattle.iv_time.specs.Texts.{◌>>=◌}
use Rattle.iv_span.specs.Extent.{Extent}
use Rattle.seg_names.specs.Ids.{extent_cmp, id_cmp}
use Rattle.seg_names.specs.declared.seg_id.SegId.{SegId}
use Rattle.book_rows.specs.declared.rows.Offset.{Offset}
use Rattle.book_rows.specs.declared.rows.Range.{Range}
use Rattle.book_rows.specs.declared.rows.Ranges.{Ranges}
use Rattle.book_rows.specs.declared.rows.Want.{Want}
use Rattle.cmd_words.specs.Values.{if_only, id_in, lock_kind_at, name_at, span_at, span_in, whole_at}

abbrev pub cons_by : {A : Type 0} → Option A → Option (List A) → Option (List A)
cons_by first rest = do
  x ← first
  xs ← rest
  Some (x ∷ xs)

-- each item of a list, in the list's order
abbrev pub each_of : {A : Type 0} → (Data → Option A) → Items → Option (List A)
each_of f no_items = Some []
each_of f (item d ds) = cons_by (f d) (each_of f ds)

-- the items of a list as they stand
unfoldable pub list_in : {A : Type 0} → (Data → Option A) → Data → Option (List A)
list_in f d = do
  ds ← as_array d
  each_of f ds

-- the items of a list in ascending order
unfoldable pub sorted_in : {A : Type 0} → (Data → Option A) → (A → A → Ordering) → Data → Option (List A)
sorted_in f cmp d = do
  xs ← list_in f d
  Some (ordered (less_by cmp) xs)

-- a lock that is asked for
unfoldable pub want_of : Data → Option Want
want_of d = do
  kind ← lock_kind_at (codes "type") d
  span ← span_at (codes "span") d
  if_only (codes "type" ∷ codes "span" ∷ []) d (Some (record { lock_kind = kind; span = span }))

-- a partition and an offset in it
unfoldable pub pair_of : Data → Option (ℕ × ℕ)
pair_of d = do
  partition ← whole_at 4294967295 (codes "partition") d
  offset ← whole_at 18446744073709551615 (codes "offset") d
  if_only (codes "partition" ∷ codes "offset" ∷ []) d (Some (partition, offset))

-- pairs by partition and then offset
abbrev pub pair_cmp : ℕ × ℕ → ℕ × ℕ → Ordering
pair_cmp a b = ordering_then (nat_cmp a.0 b.0) (nat_cmp a.1 b.1)

abbrev pub offset_from : ℕ × ℕ → Offset
offset_from pair = record { partition = pair.0; offset = pair.1 }

-- offsets in order
unfoldable pub offsets_at : List ℕ → Data → Option (List Offset)
offsets_at key d = do
  v ← get key d
  pairs ← sorted_in pair_of pair_cmp v
  Some (map offset_from pairs)

-- a partition, and the offsets from and to which it was read
unfoldable pub part_of : Data → Option (ℕ × ℕ × ℕ)
part_of d = do
  partition ← whole_at 4294967295 (codes "partition") d
  start ← whole_at 18446744073709551615 (codes "start") d
  end ← whole_at 18446744073709551615 (codes "end") d
  if_only (codes "partition" ∷ codes "start" ∷ codes "end" ∷ []) d (Some (partition, start, end))

-- the same by partition, start and then end
abbrev pub part_cmp : ℕ × ℕ × ℕ → ℕ × ℕ × ℕ → Ordering
part_cmp a b = ordering_then (ordering_then (nat_cmp a.0 b.0) (nat_cmp a.1 b.1)) (nat_cmp a.2 b.2)

abbrev pub range_from : ℕ × ℕ × ℕ → Range
range_from part = record { partition = part.0; start = part.1; end = part.2 }

-- ranges in order
unfoldable pub parts_at : List ℕ → Data → Option (List Range)
parts_at key d = do
  v ← get key d
  parts ← sorted_in part_of part_cmp v
  Some (map range_from parts)

-- what was read of a stream
unfoldable pub ranges_in : Data → Option Ranges
ranges_in d = do
  stream ← name_at (codes "stream") d
  parts ← parts_at (codes "parts") d
  if_only (codes "parts" ∷ codes "stream" ∷ []) d (Some (record { stream = stream; parts = parts }))

-- spans by start and then end
unfoldable pub spans_at : List ℕ → Data → Option (List Extent)
spans_at key d = do
  v ← get key d
  sorted_in span_in extent_cmp v

-- ids in id order
abbrev pub ids_in : Data → Option (List SegId)
ids_in = sorted_in id_in id_cmp

unfoldable pub ids_at : List ℕ → Data → Option (List SegId)
ids_at key d = do
  v ← get key d
  ids_in v
