use Rattle.laws_revocation.proofs.PublishLocks.{ended_publishes_nothing}
use Rattle.laws_revocation.proofs.commits.ended_publishes_nothing.Goals as goal

pub returns : goal.returns
returns c = ended_publishes_nothing
