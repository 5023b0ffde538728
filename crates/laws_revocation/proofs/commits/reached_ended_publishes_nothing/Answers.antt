use Rattle.laws_revocation.proofs.PublishLocks.{reached_ended_publishes_nothing}
use Rattle.laws_revocation.proofs.commits.reached_ended_publishes_nothing.Goals as goal

pub returns : goal.returns
returns c = reached_ended_publishes_nothing
