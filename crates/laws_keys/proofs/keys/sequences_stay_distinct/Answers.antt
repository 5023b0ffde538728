use Rattle.laws_keys.proofs.SupervisedKeys.{sequences_stay_distinct}
use Rattle.laws_keys.proofs.keys.sequences_stay_distinct.Goals as goal

pub returns : goal.returns
returns c = sequences_stay_distinct
