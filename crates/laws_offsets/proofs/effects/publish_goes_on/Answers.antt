use Rattle.laws_offsets.proofs.Publishes.{publish_goes_on}
use Rattle.laws_offsets.proofs.effects.publish_goes_on.Goals as goal

pub returns : goal.returns
returns c = publish_goes_on
