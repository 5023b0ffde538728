use Rattle.laws_revocation.proofs.PublishLocks.{over_publishes_nothing}
use Rattle.laws_revocation.proofs.commits.over_publishes_nothing.Goals as goal

pub returns : goal.returns
returns c = over_publishes_nothing
