use Rattle.std.proofs.Common.{refl}
use Rattle.lock_posse.proofs.Changed.{all_left}
use Rattle.lock_posse.proofs.leaving.leave_row.Goals as goal

pub returns-clause-answer : goal.returns-clause-answer
returns-clause-answer c = rw (c.any-ended.ensures, c.change_all.ensures, all_left c.args.number c.args.task.now c.args.rows.now) refl

pub returns-clause-rows : goal.returns-clause-rows
returns-clause-rows c = rw (c.remove_all.ensures, c.change_all.ensures, all_left c.args.number c.args.task.now c.args.rows.now) refl
