-- Roots that were found at instants, in order.
use Rattle.std.specs.Prelude.{List, ℕ, ℤ}
use Rattle.std.specs.Cmp.Lexicographic.{slice_cmp}
use Rattle.std.specs.Ordering.{int_cmp, nat_cmp, ordering_then}
use Rattle.std.specs.declared.cmp.Ordering.{Ordering}
use Rattle.seg_names.specs.Ids.{id_cmp}
use Rattle.seg_names.specs.declared.seg_id.SegId.{SegId}
use Rattle.shown_rules.specs.declared.events.Found.{Found}

-- where, and which root
abbrev pub found_of : Found → (List ℕ × ℤ) × SegId
found_of f = ((f.source.now, f.at), f.root.now)

-- by source, instant and id
abbrev pub found_cmp : (List ℕ × ℤ) × SegId → (List ℕ × ℤ) × SegId → Ordering
found_cmp e f = ordering_then (slice_cmp nat_cmp e.0.0 f.0.0) (ordering_then (int_cmp e.0.1 f.0.1) (id_cmp e.1 f.1))
