use Rattle.laws_sequences.proofs.TickedIds.{sound_has_own_ids}
use Rattle.laws_sequences.proofs.ticks.sound_has_own_ids.Goals as goal

pub returns : goal.returns
returns c = sound_has_own_ids
