use Rattle.laws_shown.proofs.Testing.{shows_is_decided}
use Rattle.laws_shown.proofs.deciding.shows_is_decided.Goals as goal

pub returns : goal.returns
returns c = shows_is_decided
