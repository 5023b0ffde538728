use Rattle.std.proofs.Common.{drop, ◌≡◌}
use Rattle.offset_rules.specs.Marks.{put_marks}
use Rattle.offset_rules.proofs.marks.put_marks.Given as goal

-- the marks with the ranges still to come are those with all
abbrev pub invariant-loop-range : goal.invariant-loop-range
invariant-loop-range l = put_marks l.reading (drop l.range-index l.parts) l.marks ≡ put_marks l.reading l.parts l.fn.marks
