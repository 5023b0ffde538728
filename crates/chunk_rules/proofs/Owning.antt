-- Cores and owners of chunks, as the rule says them.
use Rattle.std.proofs.Common.{Bool, List, [], ap, false, map, not, refl, true, ℕ, ◌&&◌, ◌==◌, ◌+◌, ◌∷◌, ◌≡◌, ◌||◌}
use Rattle.std.specs.List.{list_all, list_any}
use Rattle.std.specs.Ordering.{int_eq}
use Rattle.std.specs.Prelude.{pos}
use Rattle.book_rows.specs.declared.rows.ChunkRow.{ChunkRow}
use Rattle.book_rows.specs.declared.rows.PendingRow.{PendingRow}
use Rattle.book_rows.specs.declared.rows.PosseRow.{PosseRow}
use Rattle.book_rows.specs.declared.rows.SegmentRow.{SegmentRow}
use Rattle.laws_unsound.specs.ChunkRows.{fits_owner, has_core, implies, is_live, is_whole, owns}
use Rattle.laws_unsound.specs.Rows.{first_failing}
use Rattle.chunk_rules.specs.Lives.{chunk_at}
use Rattle.chunk_rules.specs.Owners.{fits, has_core_by, is_misfit}

turned : (o f r s : Bool) → not r ≡ s → not ((o && not f) || r) ≡ ((not o || f) && s)
turned true true r s e = e
turned true false r s e = refl
turned false f r s e = e

fitting : (c : ChunkRow) (rows : List SegmentRow) (qs : List PosseRow) → not (list_any (is_misfit c (is_whole rows c)) qs) ≡ list_all (λ q. implies (owns c q) (fits_owner rows c q)) qs
fitting c rows [] = refl
fitting c rows (q ∷ qs) =
    turned (owns c q) (is_whole rows c && fits c q) (list_any (is_misfit c (is_whole rows c)) qs) (list_all (λ q. implies (owns c q) (fits_owner rows c q)) qs) (fitting c rows qs)

pub cores_same : (k : ℕ) (qs : List PosseRow) (rows : List SegmentRow) (ps : List PendingRow) (cs : List ChunkRow) → first_failing k (has_core_by qs rows) (map (chunk_at rows ps) cs) ≡ first_failing k (has_core qs rows ps) cs
cores_same k qs rows ps [] = refl
cores_same k qs rows ps (c ∷ cs) =
    rw (ap (λ (b : Bool). implies (is_live rows ps c) (is_whole rows c) && (implies (int_eq c.version (pos 0)) (c.core == 0) && b)) (fitting c rows qs), cores_same (k + 1) qs rows ps cs) refl
