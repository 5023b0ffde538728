use Rattle.laws_offsets.proofs.ResetAndDrop.{reset_replaces}
use Rattle.laws_offsets.proofs.effects.reset_replaces.Goals as goal

pub returns : goal.returns
returns c = reset_replaces
