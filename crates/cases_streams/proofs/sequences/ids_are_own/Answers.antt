use Rattle.cases_streams.proofs.WorkedSequences.{ids_are_own}
use Rattle.cases_streams.proofs.sequences.ids_are_own.Goals as goal

pub returns : goal.returns
returns c = ids_are_own
