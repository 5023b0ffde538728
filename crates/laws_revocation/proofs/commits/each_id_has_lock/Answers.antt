use Rattle.laws_revocation.proofs.PublishLocks.{each_id_has_lock}
use Rattle.laws_revocation.proofs.commits.each_id_has_lock.Goals as goal

pub returns : goal.returns
returns c = each_id_has_lock
