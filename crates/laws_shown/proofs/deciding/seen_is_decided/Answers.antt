use Rattle.laws_shown.proofs.Testing.{seen_is_decided}
use Rattle.laws_shown.proofs.deciding.seen_is_decided.Goals as goal

pub returns : goal.returns
returns c = seen_is_decided
