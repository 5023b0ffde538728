use Rattle.cases_streams.proofs.WorkedSequences.{replica_leaves}
use Rattle.cases_streams.proofs.sequences.replica_leaves.Goals as goal

pub returns : goal.returns
returns c = replica_leaves
