use Rattle.laws_shown.proofs.Reading.{sound_splits_contents}
use Rattle.laws_shown.proofs.carrying.sound_splits_contents.Goals as goal

pub returns : goal.returns
returns c = sound_splits_contents
