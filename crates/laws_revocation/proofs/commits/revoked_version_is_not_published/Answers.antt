use Rattle.laws_revocation.proofs.PublishVersions.{revoked_version_is_not_published}
use Rattle.laws_revocation.proofs.commits.revoked_version_is_not_published.Goals as goal

pub returns : goal.returns
returns c = revoked_version_is_not_published
