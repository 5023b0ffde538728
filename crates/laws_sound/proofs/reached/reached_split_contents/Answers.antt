use Rattle.laws_sound.proofs.Reaching.{reached_split_contents}
use Rattle.laws_sound.proofs.reached.reached_split_contents.Goals as goal

pub returns : goal.returns
returns c = reached_split_contents
