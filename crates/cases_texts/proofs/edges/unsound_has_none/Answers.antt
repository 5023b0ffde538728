use Rattle.cases_texts.proofs.WorkedEdges.{unsound_has_none}
use Rattle.cases_texts.proofs.edges.unsound_has_none.Goals as goal

pub returns : goal.returns
returns c = unsound_has_none
