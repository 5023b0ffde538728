use Rattle.laws_shown.proofs.Histories.{sound_contents_are_counted}
use Rattle.laws_shown.proofs.history.sound_contents_are_counted.Goals as goal

pub returns : goal.returns
returns c = sound_contents_are_counted
