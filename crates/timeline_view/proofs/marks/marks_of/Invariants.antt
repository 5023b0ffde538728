use Rattle.std.proofs.Common.{filter, map, not, take, ◌≡◌}
use Rattle.timeline_view.specs.Marks.{mark_of}
use Rattle.timeline_view.proofs.marks.marks_of.Given as goal

abbrev pub invariant-loop-row : goal.invariant-loop-row
invariant-loop-row l = l.marks.items ≡ map mark_of (filter (λ r. not r.tombstone) (take l.row-index l.rows))
