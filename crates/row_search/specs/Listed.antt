-- Ids that publications list, each with the place of its publication.
use Rattle.std.specs.Prelude.{◌&&◌, ◌+◌, ◌++◌, ◌==◌, ◌∷◌, Bool, List, [], cond, nat_le, ℕ}
use Rattle.std.specs.List.{list_any}
use Rattle.seg_names.specs.Ids.{same_id}
use Rattle.seg_names.specs.declared.seg_id.SegId.{SegId}
use Rattle.book_rows.specs.declared.rows.ChunkRow.{ChunkRow}
use Rattle.book_rows.specs.declared.rows.Publication.{Publication}
use Rattle.book_rows.specs.declared.rows.SegmentRow.{SegmentRow}
use Rattle.book_rows.specs.Allocation.{is_of_chunk}

abbrev pub all_at : ℕ → List SegId → List (ℕ × SegId)
all_at commit [] = []
all_at commit (a ∷ as') = (commit, a) ∷ all_at commit as'

-- the first publication has place k
abbrev pub listed_from : (Publication → List SegId) → ℕ → List Publication → List (ℕ × SegId)
listed_from ids k [] = []
listed_from ids k (m ∷ ms) = all_at k (ids m) ++ listed_from ids (k + 1) ms

-- ---- roots, by what publications list

abbrev pub is_tombstone_by : List ChunkRow → List (ℕ × SegId) → SegmentRow → Bool
is_tombstone_by cs emptied r =
    same_id r.root r.id && ((r.id.part == 0) && (list_any (λ c. is_of_chunk c r.id && (c.core == 1)) cs && list_any (λ e. same_id e.1 r.id && (e.0 == r.commit)) emptied))

abbrev pub has_root_by : List ChunkRow → List (ℕ × SegId) → List (ℕ × SegId) → SegmentRow → Bool
has_root_by cs added emptied r = cond r.tombstone (is_tombstone_by cs emptied r) (list_any (λ e. same_id e.1 r.root && nat_le e.0 r.commit) added)
