use Rattle.laws_keys.proofs.Upgrades.{upgrades_stay_distinct}
use Rattle.laws_keys.proofs.keys.upgrades_stay_distinct.Goals as goal

pub returns : goal.returns
returns c = upgrades_stay_distinct
