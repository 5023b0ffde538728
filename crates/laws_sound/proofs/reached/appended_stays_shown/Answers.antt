use Rattle.laws_sound.proofs.Reaching.{appended_stays_shown}
use Rattle.laws_sound.proofs.reached.appended_stays_shown.Goals as goal

pub returns : goal.returns
returns c = appended_stays_shown
