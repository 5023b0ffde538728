use Rattle.laws_shown.proofs.Answering.{one_lock_is_asked}
use Rattle.laws_shown.proofs.asking.one_lock_is_asked.Goals as goal

pub returns : goal.returns
returns c = one_lock_is_asked
