use Rattle.laws_sound.proofs.Reaching.{reached_read_what_was_there}
use Rattle.laws_sound.proofs.reached.reached_read_what_was_there.Goals as goal

pub returns : goal.returns
returns c = reached_read_what_was_there
