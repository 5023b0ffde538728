use Rattle.cases_rules.proofs.LimitLaws.{full_publications}
use Rattle.cases_rules.proofs.limits.full_publications.Goals as goal

pub returns : goal.returns
returns c = full_publications
