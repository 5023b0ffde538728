use Rattle.laws_shown.proofs.Printing.{prints_in_order}
use Rattle.laws_shown.proofs.printed.prints_in_order.Goals as goal

pub returns : goal.returns
returns c = prints_in_order
