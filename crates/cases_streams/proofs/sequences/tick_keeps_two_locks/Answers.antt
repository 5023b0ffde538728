use Rattle.cases_streams.proofs.WorkedSequences.{tick_keeps_two_locks}
use Rattle.cases_streams.proofs.sequences.tick_keeps_two_locks.Goals as goal

pub returns : goal.returns
returns c = tick_keeps_two_locks
