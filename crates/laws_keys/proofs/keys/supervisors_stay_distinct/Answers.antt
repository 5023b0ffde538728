use Rattle.laws_keys.proofs.SupervisedKeys.{supervisors_stay_distinct}
use Rattle.laws_keys.proofs.keys.supervisors_stay_distinct.Goals as goal

pub returns : goal.returns
returns c = supervisors_stay_distinct
