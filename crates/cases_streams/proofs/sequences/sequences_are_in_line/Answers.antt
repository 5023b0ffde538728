use Rattle.cases_streams.proofs.WorkedSequences.{sequences_are_in_line}
use Rattle.cases_streams.proofs.sequences.sequences_are_in_line.Goals as goal

pub returns : goal.returns
returns c = sequences_are_in_line
