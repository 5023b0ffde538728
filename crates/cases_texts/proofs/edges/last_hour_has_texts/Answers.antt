use Rattle.cases_texts.proofs.WorkedEdges.{last_hour_has_texts}
use Rattle.cases_texts.proofs.edges.last_hour_has_texts.Goals as goal

pub returns : goal.returns
returns c = last_hour_has_texts
