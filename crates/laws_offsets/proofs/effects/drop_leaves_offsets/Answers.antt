use Rattle.laws_offsets.proofs.ResetAndDrop.{drop_leaves_offsets}
use Rattle.laws_offsets.proofs.effects.drop_leaves_offsets.Goals as goal

pub returns : goal.returns
returns c = drop_leaves_offsets
