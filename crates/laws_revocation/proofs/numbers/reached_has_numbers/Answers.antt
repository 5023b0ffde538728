use Rattle.laws_revocation.proofs.Numbering.{reached_has_numbers}
use Rattle.laws_revocation.proofs.numbers.reached_has_numbers.Goals as goal

pub returns : goal.returns
returns c = reached_has_numbers
