use Rattle.std.proofs.Common.{◌≡◌}
use Rattle.laws_locks.specs.LockShape.{HasSoundLocks}
use Rattle.book_core.specs.Managed.{managed_ids, managed_with}
use Rattle.book_core.proofs.tables.Core.managed_ids.Given as goal

-- the tasks so far are done
abbrev pub invariant-loop-task : goal.invariant-loop-task
invariant-loop-task l = record {
  so_far : managed_with l.self l.told ≡ managed_ids l.now l.yielded (managed_with l.initial.self l.initial.told);
  sound : HasSoundLocks l.self;
}
