use Rattle.cases_streams.proofs.WorkedSequences.{replicas_tell}
use Rattle.cases_streams.proofs.sequences.replicas_tell.Goals as goal

pub returns : goal.returns
returns c = replicas_tell
