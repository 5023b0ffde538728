use Rattle.laws_sound.proofs.Reaching.{reached_show_what_was_put}
use Rattle.laws_sound.proofs.reached.reached_show_what_was_put.Goals as goal

pub returns : goal.returns
returns c = reached_show_what_was_put
