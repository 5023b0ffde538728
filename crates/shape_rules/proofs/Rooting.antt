-- Roots that are found among listed ids are those of the rule.
use Rattle.std.proofs.Common.{Bool, List, ap, arith, inl, inr, ℕ, ◌&&◌, ◌==◌, ◌≡◌}
use Rattle.std.proofs.lemmas.Bool.{cases_Bool}
use Rattle.std.specs.List.{list_any}
use Rattle.seg_names.specs.Ids.{same_id}
use Rattle.seg_names.specs.declared.seg_id.SegId.{SegId}
use Rattle.book_rows.specs.declared.rows.ChunkRow.{ChunkRow}
use Rattle.book_rows.specs.declared.rows.Publication.{Publication}
use Rattle.book_rows.specs.declared.rows.SegmentRow.{SegmentRow}
use Rattle.laws_unsound.specs.Rows.{first_failing}
use Rattle.book_rows.specs.Allocation.{is_of_chunk}
use Rattle.laws_unsound.specs.ShapeRows.{has_root}
use Rattle.row_search.specs.Listed.{has_root_by, listed_from}
use Rattle.row_search.proofs.Listing.{found_in, found_up_to}
use Rattle.row_search.proofs.Walking.{failing_same}

root_same : (cs : List ChunkRow) (pubs : List Publication) (r : SegmentRow) → has_root_by cs (listed_from (λ m. m.adds) 0 pubs) (listed_from (λ m. m.empties) 0 pubs) r ≡ has_root cs pubs r
root_same cs pubs r = elim (cases_Bool r.tombstone) [
  | inl on ↦
      rw on (ap (λ (b : Bool). same_id r.root r.id && ((r.id.part == 0) && (list_any (λ c. is_of_chunk c r.id && (c.core == 1)) cs && b))) (found_in r.id r.commit 0 r.commit pubs (omega arith)))
  | inr off ↦ rw off (found_up_to r.root r.commit 0 r.commit pubs (omega arith))
]

pub roots_same : (k : ℕ) (cs : List ChunkRow) (pubs : List Publication) (added emptied : List (ℕ × SegId)) (rows : List SegmentRow) → added ≡ listed_from (λ m. m.adds) 0 pubs → emptied ≡ listed_from (λ m. m.empties) 0 pubs
    → first_failing k (has_root_by cs added emptied) rows ≡ first_failing k (has_root cs pubs) rows
roots_same k cs pubs added emptied rows a e = rw (a, e) (failing_same k (has_root_by cs (listed_from (λ m. m.adds) 0 pubs) (listed_from (λ m. m.empties) 0 pubs)) (has_root cs pubs) rows (root_same cs pubs))
