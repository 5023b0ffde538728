use Rattle.cases_streams.proofs.WorkedSequences.{line_goes_on}
use Rattle.cases_streams.proofs.sequences.line_goes_on.Goals as goal

pub returns : goal.returns
returns c = line_goes_on
