use Rattle.laws_keys.proofs.Requests.{requests_stay_distinct}
use Rattle.laws_keys.proofs.keys.requests_stay_distinct.Goals as goal

pub returns : goal.returns
returns c = requests_stay_distinct
