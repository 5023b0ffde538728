use Rattle.cases_streams.proofs.WorkedSequences.{names_are_texts}
use Rattle.cases_streams.proofs.sequences.names_are_texts.Goals as goal

pub returns : goal.returns
returns c = names_are_texts
