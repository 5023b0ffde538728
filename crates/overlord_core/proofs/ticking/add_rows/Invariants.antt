use Rattle.std.proofs.Common.{◌++◌, ◌≡◌}
use Rattle.overlord_core.proofs.ticking.add_rows.Given as goal

-- those so far are added
abbrev pub invariant-loop-row : goal.invariant-loop-row
invariant-loop-row l = l.tasks ≡ l.fn.tasks ++ l.yielded
