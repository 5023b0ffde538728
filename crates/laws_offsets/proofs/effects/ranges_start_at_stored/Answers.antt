use Rattle.laws_offsets.proofs.Publishes.{ranges_start_at_stored}
use Rattle.laws_offsets.proofs.effects.ranges_start_at_stored.Goals as goal

pub returns : goal.returns
returns c = ranges_start_at_stored
