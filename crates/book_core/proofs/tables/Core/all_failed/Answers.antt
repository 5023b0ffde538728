use Rattle.std.proofs.Common.{◌∙◌, ap, sym}
use Rattle.book_rows.specs.TaskSteps.{failed}
use Rattle.book_core.proofs.Leaving.{all_failed_more}
use Rattle.book_core.proofs.tables.Core.all_failed.Goals as goal

pub loop-task-preserved : goal.loop-task-preserved
loop-task-preserved c = c.in_ok-failed.ensures ∙ ap (failed c.in-Some.task) c.loop-task.invariant ∙ sym (all_failed_more c.loop-task.yielded c.in-Some.task c.args.self.now)
