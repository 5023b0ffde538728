use Rattle.std.proofs.Common.{false, get_or, length, take, ℕ, ◌<◌, ◌≡◌, ◌≤◌}
use Rattle.seg_names.specs.declared.seg_id.SegId.{SegId}
use Rattle.timeline_view.specs.Chunks.{AreIdsIn, is_before, is_in}
use Rattle.timeline_view.proofs.chunk_parts.ids_in.Given as goal

abbrev pub invariant-loop-at : goal.invariant-loop-at
invariant-loop-at l = AreIdsIn (is_in l.cover) (take l.at l.ids) l.found.items × ((k : ℕ) (d : SegId) → l.at ≤ k → k < length l.ids → is_before l.cover (get_or l.ids k d) ≡ false)
