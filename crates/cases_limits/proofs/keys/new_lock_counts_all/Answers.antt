use Rattle.cases_limits.proofs.WorkedKeys.{new_lock_counts_all}
use Rattle.cases_limits.proofs.keys.new_lock_counts_all.Goals as goal

pub returns : goal.returns
returns c = new_lock_counts_all
