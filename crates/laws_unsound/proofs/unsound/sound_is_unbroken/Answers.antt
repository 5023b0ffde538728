use Rattle.laws_unsound.proofs.Whole.{sound_is_unbroken}
use Rattle.laws_unsound.proofs.unsound.sound_is_unbroken.Goals as goal

pub returns : goal.returns
returns c = sound_is_unbroken
