use Rattle.laws_shown.proofs.PrintedHistory.{sound_contents_are_what_was_put}
use Rattle.laws_shown.proofs.printed.sound_contents_are_what_was_put.Goals as goal

pub returns : goal.returns
returns c = sound_contents_are_what_was_put
