use Rattle.cases_streams.proofs.WorkedSequences.{sound_tick_adds}
use Rattle.cases_streams.proofs.sequences.sound_tick_adds.Goals as goal

pub returns : goal.returns
returns c = sound_tick_adds
