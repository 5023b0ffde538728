use Rattle.book_core.proofs.Refusing.{refusal_done}
use Rattle.book_core.proofs.tables.Core.done_id.Goals as goal

pub made_id-requires-clause-made : goal.made_id-requires-clause-made
made_id-requires-clause-made c = rw c.in-Ok.is at c.requires.made

pub returns-in-Ok : goal.returns-in-Ok
returns-in-Ok c = rw c.in-Ok.is c.made_id.ensures

pub returns-in-Err : goal.returns-in-Err
returns-in-Err c = rw c.in-Err.is (refusal_done c.refused.result c.args.self.now c.in-Err.why c.refused.ensures)
