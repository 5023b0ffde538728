use Rattle.std.proofs.Common.{◌≡◌, ◌∙◌, OnOk, Option, Some, ap, is_some, subst, sym, true}
use Rattle.std.proofs.lemmas.Int.{to_z-of_z}
use mir.Val.{SFits}
use mir.Syntax.{w64}
use Rattle.book_rows.specs.Grant.{counters_at}
use Rattle.book_rows.specs.Outcome.{task_of}
use Rattle.book_rows.specs.Shape.{is_task_row}
use Rattle.book_rows.specs.TaskSteps.{Managed}
use Rattle.book_rows.specs.declared.rows.Book.{Book}
use Rattle.book_rows.specs.declared.rows.TaskRow.{TaskRow}
use Rattle.laws_locks.proofs.Lists.{In-list_all}
use Rattle.lockbox.specs.Decided.{decided}
use Rattle.book_core.specs.Decisions.{IsGranted}
use Rattle.book_core.specs.Managed.{managed_named, managed_with}
use Rattle.book_core.proofs.Conditions.{was_granted}
use Rattle.book_core.proofs.Deciding.{started_is}
use Rattle.book_core.proofs.Starting.{among_tasks}
use Rattle.book_core.proofs.tables.Core.managed_named.Goals as goal

pub started-requires : goal.started-requires
started-requires c =
    let fits : SFits w64 c.args.now = c.ranges.now in
    let b : Book = c.args.self.now in
    let t : TaskRow = c.in-Some.row.now in
    let granted : IsGranted c.in_ok-granted-in-Some.granted (decided b.posses (counters_at b c.args.now) t t.wants) = simp to_z-of_z at c.in_ok-granted-in-Some.ensures in
    record {
      decided = was_granted b c.args.now t c.args.task c.in_ok-granted-in-Some.granted c.requires.sound c.requires.instant c.in-Some.ensures.of_task granted;
      there = ap (λ (o : Option TaskRow). is_some o) (sym c.in-Some.ensures.row);
    }

pub returns-in_ok-granted-in-Some : goal.returns-in_ok-granted-in-Some
returns-in_ok-granted-in-Some c =
    let fits : SFits w64 c.args.now = c.ranges.now in
    let b : Book = c.args.self.now in
    let t : TaskRow = c.in-Some.row.now in
    let found : Some t ≡ task_of c.args.task b.tasks = c.in-Some.ensures.row in
    let granted : IsGranted c.in_ok-granted-in-Some.granted (decided b.posses (counters_at b c.args.now) t t.wants) = simp to_z-of_z at c.in_ok-granted-in-Some.ensures in
    let shaped : is_task_row t ≡ true = In-list_all is_task_row t b.tasks (among_tasks c.args.task b t (sym found)) c.requires.sound.0.tasks.rows in
    let m : Managed = managed_with b c.args.told.now in
    let rule = started_is c.args.now t c.args.task c.in_ok-granted-in-Some.granted m c.requires.sound shaped c.in-Some.ensures.of_task granted in
    subst (λ (x : Managed). OnOk c.started.result (managed_with c.started.new.self c.started.new.told ≡ x)) (rule ∙ ap (λ (o : Option TaskRow). managed_named c.args.now o m) found) c.started.ensures
