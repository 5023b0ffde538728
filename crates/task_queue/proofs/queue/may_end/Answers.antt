use Rattle.std.proofs.Common.{Bool, Option, Result, Some, subst, sym}
use Rattle.book_rows.specs.declared.rows.TaskRow.{TaskRow}
use Rattle.task_queue.specs.Ending.{EndsAs}
use Rattle.task_queue.specs.declared.queue.QueueFault.{QueueFault}
use Rattle.task_queue.proofs.Ends.{ends_as}
use Rattle.task_queue.proofs.queue.may_end.Goals as goal

pub returns-in-Some-clause-outcome : goal.returns-in-Some-clause-outcome
returns-in-Some-clause-outcome c = λ b.
    let task = c.args.task.now in
    let row : TaskRow = c.in-Some.row.now in
    let by_row : EndsAs c.may_end_from.result task (Some row) b c.args.status =
    subst (λ (r : Result Bool QueueFault). EndsAs r task (Some row) b c.args.status) (sym c.may_end_from.ensures) (ends_as task row b c.args.status c.in-Some.ensures.of_task) in
    subst (λ (found : Option TaskRow). EndsAs c.may_end_from.result task found b c.args.status) c.in-Some.ensures.row by_row
