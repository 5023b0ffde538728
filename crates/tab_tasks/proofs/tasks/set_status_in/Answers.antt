use Rattle.std.proofs.Common.{◌∙◌, sym}
use Rattle.tab_tasks.proofs.Kept.{none_set_in, write_found}
use Rattle.tab_tasks.proofs.tasks.set_status_in.Goals as goal

pub returns-in-Some : goal.returns-in-Some
returns-in-Some c =
    (c.get_mut.follows.holds (record c.in-Some.row.now { status = c.args.status })).0
    ∙ write_found c.args.task.now c.args.status c.args.rows.now.entries c.in-Some.row.now c.in-Some.ensures.value

pub returns-in_default : goal.returns-in_default
returns-in_default c =
    rw c.get_mut.follows.holds-at-none (sym (none_set_in c.args.task.now c.args.status c.args.rows.now.entries c.in_default.ensures.value))
