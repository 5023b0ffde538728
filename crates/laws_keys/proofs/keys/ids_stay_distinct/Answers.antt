use Rattle.laws_keys.proofs.Ids.{ids_stay_distinct}
use Rattle.laws_keys.proofs.keys.ids_stay_distinct.Goals as goal

pub returns : goal.returns
returns c = ids_stay_distinct
