use Rattle.laws_shown.proofs.PrintedHistory.{sound_timeline_is_what_was_put}
use Rattle.laws_shown.proofs.printed.sound_timeline_is_what_was_put.Goals as goal

pub returns : goal.returns
returns c = sound_timeline_is_what_was_put
