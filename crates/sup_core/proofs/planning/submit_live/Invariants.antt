use Rattle.std.proofs.Common.{◌++◌, ◌≡◌, map, take}
use Rattle.book_rows.specs.Ticks.{replica_row}
use Rattle.sup_core.proofs.planning.submit_live.Given as goal

abbrev pub invariant-loop-task : goal.invariant-loop-task
invariant-loop-task l = l.submitted ≡ l.fn.submitted ++ map (replica_row l.sequence) (take l.task-index l.live)
