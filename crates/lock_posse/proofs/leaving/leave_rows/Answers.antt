use Rattle.std.proofs.Common.{sym, ap, ◌∙◌}
use Rattle.lock_posse.specs.Leaving.{left_rows}
use Rattle.lock_posse.proofs.Departures.{ended_all}
use Rattle.lock_posse.proofs.leaving.leave_rows.Goals as goal

pub returns-clause-ended : goal.returns-clause-ended
returns-clause-ended c = rw c.in_ok-ended.ensures (sym (ended_all c.args.task.now c.args.rows.now c.requires))

pub returns-clause-rows : goal.returns-clause-rows
returns-clause-rows c = c.leave_each.ensures ∙ ap (λ ns. left_rows ns c.args.task.now c.args.rows.now) (c.as_slice.ensures.value ∙ c.in_ok-numbers.ensures)
