use Rattle.laws_locks.proofs.Ticking.{tick_keeps_locks}
use Rattle.laws_locks.proofs.commands.tick_keeps_locks.Goals as goal

pub returns : goal.returns
returns c = tick_keeps_locks
