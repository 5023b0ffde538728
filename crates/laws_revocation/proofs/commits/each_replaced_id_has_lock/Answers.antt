use Rattle.laws_revocation.proofs.PublishVersions.{each_replaced_id_has_lock}
use Rattle.laws_revocation.proofs.commits.each_replaced_id_has_lock.Goals as goal

pub returns : goal.returns
returns c = each_replaced_id_has_lock
