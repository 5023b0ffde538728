use Rattle.laws_ids.proofs.Waiting.{sound_appended_stays_shown}
use Rattle.laws_ids.proofs.allocated.sound_appended_stays_shown.Goals as goal

pub returns : goal.returns
returns c = sound_appended_stays_shown
