use Rattle.std.proofs.Common.{◌++◌, ◌≡◌}
use Rattle.publish_rows.proofs.adding.add_segments.Given as goal

-- those so far are added
abbrev pub invariant-loop-row : goal.invariant-loop-row
invariant-loop-row l = l.segments ≡ record l.fn.segments { segments = l.fn.segments.segments ++ l.yielded }
