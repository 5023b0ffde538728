use Rattle.laws_shown.proofs.Testing.{carries_is_decided}
use Rattle.laws_shown.proofs.deciding.carries_is_decided.Goals as goal

pub returns : goal.returns
returns c = carries_is_decided
