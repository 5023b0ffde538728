use Rattle.laws_sound.proofs.Joined.{reached_books_are_sound}
use Rattle.laws_sound.proofs.soundness.reached_books_are_sound.Goals as goal

pub returns : goal.returns
returns c = reached_books_are_sound
