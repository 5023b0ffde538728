use Rattle.std.proofs.Common.{refl}
use Rattle.std.specs.Fmt.{digits}
use Rattle.cases_rules.proofs.sequences.pauses_on_time.Goals as goal

pub returns : goal.returns
unfolding digits
returns c = refl
