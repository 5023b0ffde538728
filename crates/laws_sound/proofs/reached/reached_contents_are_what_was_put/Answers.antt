use Rattle.laws_sound.proofs.Reaching.{reached_contents_are_what_was_put}
use Rattle.laws_sound.proofs.reached.reached_contents_are_what_was_put.Goals as goal

pub returns : goal.returns
returns c = reached_contents_are_what_was_put
