use Rattle.laws_revocation.proofs.LaterLocks.{numbers_given_once}
use Rattle.laws_revocation.proofs.numbers.numbers_given_once.Goals as goal

pub returns : goal.returns
returns c = numbers_given_once
