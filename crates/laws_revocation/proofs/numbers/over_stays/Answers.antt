use Rattle.laws_revocation.proofs.LaterLocks.{over_stays}
use Rattle.laws_revocation.proofs.numbers.over_stays.Goals as goal

pub returns : goal.returns
returns c = over_stays
