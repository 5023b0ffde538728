use Rattle.std.proofs.Common.{refl}
use Rattle.cases_rules.proofs.dropping.never_repeat.Goals as goal

pub returns : goal.returns
returns c = (refl, refl, (refl, refl), (refl, refl))
