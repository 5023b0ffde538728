use Rattle.cases_shown.proofs.WorkedLocks.{lock_is_revoked_for_good}
use Rattle.cases_shown.proofs.revocation.lock_is_revoked_for_good.Goals as goal

pub returns : goal.returns
returns c = lock_is_revoked_for_good
