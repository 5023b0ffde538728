use Rattle.twin_store.proofs.Turning.{turning_says}
use Rattle.twin_store.proofs.laws.turn_says_old_or_next.Goals as goal

pub returns : goal.returns
returns c = turning_says
