use Rattle.laws_revocation.proofs.PublishVersions.{publish_adds_one}
use Rattle.laws_revocation.proofs.commits.publish_adds_one.Goals as goal

pub returns : goal.returns
returns c = publish_adds_one
