use Rattle.cases_shown.proofs.WorkedSound.{shown_after_append}
use Rattle.cases_shown.proofs.sound.shown_after_append.Goals as goal

pub returns : goal.returns
returns c = shown_after_append
