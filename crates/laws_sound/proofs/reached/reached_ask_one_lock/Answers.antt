use Rattle.laws_sound.proofs.Reaching.{reached_ask_one_lock}
use Rattle.laws_sound.proofs.reached.reached_ask_one_lock.Goals as goal

pub returns : goal.returns
returns c = reached_ask_one_lock
