use Rattle.laws_revocation.proofs.PublishLocks.{reached_revoked_publishes_nothing}
use Rattle.laws_revocation.proofs.commits.reached_revoked_publishes_nothing.Goals as goal

pub returns : goal.returns
returns c = reached_revoked_publishes_nothing
