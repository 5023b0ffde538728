use Rattle.laws_chunks.proofs.LeavingAll.{leave_all_keeps}
use Rattle.laws_chunks.proofs.commands.leave_all_keeps.Goals as goal

pub returns : goal.returns
returns c = leave_all_keeps
