use Rattle.cases_rules.proofs.LimitLaws.{last_publication}
use Rattle.cases_rules.proofs.limits.last_publication.Goals as goal

pub returns : goal.returns
returns c = last_publication
