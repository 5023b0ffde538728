use Rattle.laws_sound.proofs.Reaching.{reached_timeline_is_what_was_put}
use Rattle.laws_sound.proofs.reached.reached_timeline_is_what_was_put.Goals as goal

pub returns : goal.returns
returns c = reached_timeline_is_what_was_put
