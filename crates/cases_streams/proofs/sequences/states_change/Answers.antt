use Rattle.cases_streams.proofs.WorkedSequences.{states_change}
use Rattle.cases_streams.proofs.sequences.states_change.Goals as goal

pub returns : goal.returns
returns c = states_change
