use Rattle.std.proofs.Common.{◌∙◌, sym}
use Rattle.book_rows.specs.declared.kinds.TaskStatus.TheVariants as Statuses
use Rattle.book_core.proofs.Leaving.{unknown_stays}
use Rattle.book_core.proofs.tables.Core.set_failed.Goals as goal

pub returns-else-has_task : goal.returns-else-has_task
returns-else-has_task c = unknown_stays c.args.task.now Statuses.Failed c.args.self.now (sym c.has_task.ensures ∙ c.if-has_task.false)
