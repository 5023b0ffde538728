use Rattle.laws_shown.proofs.Printing.{timeline_is_of_each_instant}
use Rattle.laws_shown.proofs.printed.timeline_is_of_each_instant.Goals as goal

pub returns : goal.returns
returns c = timeline_is_of_each_instant
