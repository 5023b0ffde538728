use Rattle.book_core.proofs.Refusing.{refusal_done}
use Rattle.overlord_core.proofs.publishing.filling.done_fill.Goals as goal

pub put_fill-requires : goal.put_fill-requires
put_fill-requires c = rw c.in-Ok.is at c.requires

pub returns-in-Ok : goal.returns-in-Ok
returns-in-Ok c = rw c.in-Ok.is c.put_fill.ensures

pub returns-in-Err : goal.returns-in-Err
returns-in-Err c = rw c.in-Err.is (refusal_done c.refused.result c.args.core.now c.in-Err.why c.refused.ensures)
