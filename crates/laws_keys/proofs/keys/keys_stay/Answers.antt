use Rattle.laws_keys.proofs.Joined.{keys_stay}
use Rattle.laws_keys.proofs.keys.keys_stay.Goals as goal

pub returns : goal.returns
returns c = keys_stay
