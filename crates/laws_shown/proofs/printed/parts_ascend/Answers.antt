use Rattle.laws_shown.proofs.Printing.{parts_ascend}
use Rattle.laws_shown.proofs.printed.parts_ascend.Goals as goal

pub returns : goal.returns
returns c = parts_ascend
