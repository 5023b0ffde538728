-- Stored offsets, by source and by stream: how they are read as one list of rows.
use Rattle.std.specs.Prelude.{◌<◌, ◌==◌, ◌∷◌, ◌≡◌, ◌≤◌, Bool, List, None, Option, Some, [], cond, false, find, length, map, nat_lt, true, ℕ}
use Rattle.std.specs.BTreeMap.{is_at}
use Rattle.std.specs.Cmp.Lexicographic.{slice_cmp}
use Rattle.std.specs.List.{flat_map}
use Rattle.std.specs.List.Sorted.{IsPartitionPoint, IsStrictlySortedBy}
use Rattle.std.specs.Map.{keys_of, lookup}
use Rattle.std.specs.Option.{option_map}
use Rattle.std.specs.Ordering.{nat_cmp}
use Rattle.book_rows.specs.Lists.{Pairs}
use Rattle.book_rows.specs.Offsets.{row_for}
use Rattle.book_rows.specs.declared.rows.Offset.{Offset}
use Rattle.book_rows.specs.declared.rows.OffsetRow.{OffsetRow}

-- ---- the offsets of one stream

-- partitions ascend, so none stands there twice
abbrev pub Rise : List Offset → Type 0
Rise os = Pairs (λ a b. a.partition < b.partition) os

abbrev pub set_by : (Offset → Bool) → (Offset → Bool) → Offset → List Offset → List Offset
set_by same later o [] = o ∷ []
set_by same later o (p ∷ ps) = cond (same p) (o ∷ ps) (cond (later p) (o ∷ p ∷ ps) (p ∷ set_by same later o ps))

-- the offset in the place of its partition's, or else before the first of a later partition
abbrev pub set_offset : Offset → List Offset → List Offset
set_offset o ps = set_by (λ p. p.partition == o.partition) (λ p. nat_lt o.partition p.partition) o ps

-- these offsets, one after the other
abbrev pub set_offsets : List Offset → List Offset → List Offset
set_offsets ps [] = ps
set_offsets ps (o ∷ os) = set_offsets (set_offset o ps) os

-- the offset of a partition
abbrev pub offset_of : ℕ → List Offset → Option ℕ
offset_of partition ps = option_map (λ p. p.offset) (find (λ p. p.partition == partition) ps)

-- the offset, where it is of the partition
abbrev pub if_of : ℕ → Option Offset → Option ℕ
if_of partition None = None
if_of partition (Some p) = cond (p.partition == partition) (Some p.offset) None

-- the offsets below the place are of lower partitions, and those from it on aren't
pub record IsPlace (partition : ℕ) (ps : List Offset) (at : ℕ) : Type 0 where
  pub within : at ≤ length ps
  pub splits : IsPartitionPoint (λ p. nat_lt p.partition partition ≡ true) (λ p. nat_lt p.partition partition ≡ false) ps at

-- ---- by name

-- what stands under the name, where anything does
abbrev pub or_nothing : {X : Type 0} → Option (List X) → List X
or_nothing None = []
or_nothing (Some xs) = xs

abbrev pub under : {X : Type 0} → List ℕ → List (List ℕ × List X) → List X
under name es = or_nothing (lookup (is_at (slice_cmp nat_cmp name)) es)

-- names ascend
abbrev pub AreOrdered : {X : Type 0} → List (List ℕ × X) → Type 0
AreOrdered es = IsStrictlySortedBy (slice_cmp nat_cmp) (keys_of es)

-- ---- as rows

abbrev pub stream_rows : List ℕ → List ℕ → List Offset → List OffsetRow
stream_rows source stream ps = map (row_for source stream) ps

abbrev pub source_rows : List ℕ → List (List ℕ × List Offset) → List OffsetRow
source_rows source ts = flat_map (λ t. stream_rows source t.0 t.1) ts

abbrev pub all_rows : List (List ℕ × List (List ℕ × List Offset)) → List OffsetRow
all_rows ss = flat_map (λ s. source_rows s.0 s.1) ss
