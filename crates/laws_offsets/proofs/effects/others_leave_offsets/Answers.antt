use Rattle.laws_offsets.proofs.Untouched.{others_leave_offsets}
use Rattle.laws_offsets.proofs.effects.others_leave_offsets.Goals as goal

pub returns : goal.returns
returns c = others_leave_offsets
