use Rattle.laws_shown.proofs.Histories.{sound_shows_what_was_put}
use Rattle.laws_shown.proofs.history.sound_shows_what_was_put.Goals as goal

pub returns : goal.returns
returns c = sound_shows_what_was_put
