use Rattle.cases_streams.proofs.WorkedSequences.{sound_is_in_line}
use Rattle.cases_streams.proofs.sequences.sound_is_in_line.Goals as goal

pub returns : goal.returns
returns c = sound_is_in_line
