use Rattle.book_core.proofs.Refusing.{refusal_done}
use Rattle.overlord_core.proofs.publishing.appending.done_append.Goals as goal

pub put_append-requires : goal.put_append-requires
put_append-requires c = rw c.in-Ok.is at c.requires

pub returns-in-Ok : goal.returns-in-Ok
returns-in-Ok c = rw c.in-Ok.is c.put_append.ensures

pub returns-in-Err : goal.returns-in-Err
returns-in-Err c = rw c.in-Err.is (refusal_done c.refused.result c.args.core.now c.in-Err.why c.refused.ensures)
