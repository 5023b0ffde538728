use Rattle.cases_texts.proofs.WorkedEdges.{first_hour_has_texts}
use Rattle.cases_texts.proofs.edges.first_hour_has_texts.Goals as goal

pub returns : goal.returns
returns c = first_hour_has_texts
