use Rattle.std.proofs.Common.{◌++◌, ◌≡◌}
use Rattle.publish_rows.proofs.adding.add_pendings.Given as goal

-- those so far are added
abbrev pub invariant-loop-row : goal.invariant-loop-row
invariant-loop-row l = l.pendings ≡ record l.fn.pendings { pendings = l.fn.pendings.pendings ++ l.yielded }
