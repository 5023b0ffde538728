use Rattle.laws_revocation.proofs.LaterLocks.{locks_go_on}
use Rattle.laws_revocation.proofs.numbers.locks_go_on.Goals as goal

pub returns : goal.returns
returns c = locks_go_on
