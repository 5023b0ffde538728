use Rattle.cases_texts.proofs.WorkedEdges.{past_end_has_none}
use Rattle.cases_texts.proofs.edges.past_end_has_none.Goals as goal

pub returns : goal.returns
returns c = past_end_has_none
