use Rattle.cases_streams.proofs.WorkedSequences.{names_tell}
use Rattle.cases_streams.proofs.sequences.names_tell.Goals as goal

pub returns : goal.returns
returns c = names_tell
