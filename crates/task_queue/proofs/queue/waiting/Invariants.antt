use Rattle.std.proofs.Common.{◌≡◌, map}
use Rattle.task_queue.proofs.queue.waiting.Given as goal

-- the ids of the rows so far
abbrev pub invariant-loop-row : goal.invariant-loop-row
invariant-loop-row l = l.ids.items ≡ map (λ r. r.now.task) l.yielded
