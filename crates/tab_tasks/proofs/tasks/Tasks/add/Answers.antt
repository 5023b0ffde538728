use Rattle.std.proofs.Common.{◌++◌, ◌∙◌, ◌∷◌, ◌≡◌, List, None, [], ap, bytes_eq}
use Rattle.std.specs.Map.{lookup, values_of}
use Rattle.indexmap.proofs.CallerLemmas.{insert_entry-new}
use Rattle.book_rows.specs.Outcome.{task_of}
use Rattle.book_rows.specs.declared.rows.TaskRow.{TaskRow}
use Rattle.tab_tasks.proofs.Kept.{absent, kept_push, values_push}
use Rattle.tab_tasks.proofs.WaitingRows.{listed_push}
use Rattle.tab_tasks.proofs.tasks.Tasks.add.Goals as goal

pub invariant_of-self-2 : goal.invariant_of-self-2
invariant_of-self-2 c =
    let new : task_of c.args.row.task (values_of c.self.inside.rows.entries) ≡ None = ap (task_of c.args.row.task) c.self.view_is ∙ c.requires in
    let none : lookup (bytes_eq c.in_ok-task.task) c.self.inside.rows.entries ≡ None = absent c.in_ok-task.task c.args.row c.self.inside.rows.entries c.self.invariant.0.own c.in_ok-task.ensures new in
    let entries = c.in_ok-insert.ensures.entries ∙ insert_entry-new bytes_eq c.self.inside.rows c.in_ok-task.task c.args.row none in
    let listed = listed_push (values_of c.self.inside.rows.entries) c.args.row c.self.inside.places.items c.self.inside.is_back c.self.invariant.1 in
    rw (entries, c.push_reserved.ensures.items, c.in_ok-reserve.ensures.items, c.row_count-place.ensures) (
      kept_push c.self.inside.rows.entries c.in_ok-task.task c.args.row c.self.invariant.0 c.in_ok-task.ensures new,
      rw (values_push c.self.inside.rows.entries c.in_ok-task.task c.args.row) listed,
    )

pub returns-clause-ok : goal.returns-clause-ok
returns-clause-ok c =
    let new : task_of c.args.row.task (values_of c.self.inside.rows.entries) ≡ None = ap (task_of c.args.row.task) c.self.view_is ∙ c.requires in
    let none : lookup (bytes_eq c.in_ok-task.task) c.self.inside.rows.entries ≡ None = absent c.in_ok-task.task c.args.row c.self.inside.rows.entries c.self.invariant.0.own c.in_ok-task.ensures new in
    let entries = c.in_ok-insert.ensures.entries ∙ insert_entry-new bytes_eq c.self.inside.rows c.in_ok-task.task c.args.row none in
    rw entries (values_push c.self.inside.rows.entries c.in_ok-task.task c.args.row ∙ ap (λ (rows : List TaskRow). rows ++ c.args.row ∷ []) c.self.view_is)
