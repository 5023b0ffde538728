use Rattle.cases_texts.proofs.WorkedEdges.{last_minute_has_no_bucket}
use Rattle.cases_texts.proofs.edges.last_minute_has_no_bucket.Goals as goal

pub returns : goal.returns
returns c = last_minute_has_no_bucket
