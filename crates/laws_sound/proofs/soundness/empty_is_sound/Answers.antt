use Rattle.book_rows.proofs.EmptySound.{empty_is_sound}
use Rattle.laws_sound.proofs.soundness.empty_is_sound.Goals as goal

pub returns : goal.returns
returns c = empty_is_sound
