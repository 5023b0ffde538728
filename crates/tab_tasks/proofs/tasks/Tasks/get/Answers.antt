use Rattle.std.proofs.Common.{◌∙◌, ◌≡◌, ap, option_copied}
use Rattle.book_rows.specs.Outcome.{task_of}
use Rattle.tab_tasks.proofs.Kept.{found, is_of_task}
use Rattle.tab_tasks.proofs.tasks.Tasks.get.Goals as goal

pub returns : goal.returns
returns c =
    let row : option_copied c.get.result ≡ task_of c.args.task.now c.args.self.now = c.get.ensures.value ∙ found c.args.task.now c.self.inside.rows.entries c.self.invariant.0.own ∙ ap (task_of c.args.task.now) c.self.view_is in
    record { row = row; of_task = is_of_task c.args.task.now c.args.self.now c.get.result row }
