use Rattle.laws_shown.proofs.Histories.{contents_are_counted}
use Rattle.laws_shown.proofs.history.contents_are_counted.Goals as goal

pub returns : goal.returns
returns c = contents_are_counted
