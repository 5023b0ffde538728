use Rattle.laws_shown.proofs.Printing.{contents_are_of_each_instant}
use Rattle.laws_shown.proofs.printed.contents_are_of_each_instant.Goals as goal

pub returns : goal.returns
returns c = contents_are_of_each_instant
