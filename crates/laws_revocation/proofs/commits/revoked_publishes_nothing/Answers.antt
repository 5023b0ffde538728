use Rattle.laws_revocation.proofs.PublishLocks.{revoked_publishes_nothing}
use Rattle.laws_revocation.proofs.commits.revoked_publishes_nothing.Goals as goal

pub returns : goal.returns
returns c = revoked_publishes_nothing
