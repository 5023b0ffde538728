use Rattle.std.proofs.Common.{refl}
use Rattle.tests_locks.proofs.locks.lock.Goals as goal

pub apply-applied-requires : goal.apply-applied-requires
apply-applied-requires c = record {
  counters = c.args.counters.now;
  row = c.args.task.now;
  wants = c.args.wants.now;
  task_is = refl;
  may_count = c.are_counters.ensures c.if-not-are_counters.false;
  are_below = c.requires;
  answer_is = c.in_ok-granted.ensures;
}
