use Rattle.laws_sequences.proofs.TickedIds.{tick_keeps_sound_locks}
use Rattle.laws_sequences.proofs.ticks.tick_keeps_sound_locks.Goals as goal

pub returns : goal.returns
returns c = tick_keeps_sound_locks
