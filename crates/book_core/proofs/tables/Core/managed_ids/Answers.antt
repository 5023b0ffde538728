use Rattle.std.proofs.Common.{◌≡◌, ◌∙◌, ap, sym}
use Rattle.std.proofs.lemmas.Int.{to_z-of_z}
use mir.Val.{SFits}
use mir.Syntax.{w64}
use Rattle.book_rows.specs.Outcome.{task_of}
use Rattle.book_rows.specs.TaskSteps.{Managed}
use Rattle.book_core.specs.Managed.{managed_ids, managed_named, managed_with}
use Rattle.book_core.proofs.Naming.{managed_more}
use Rattle.book_core.proofs.Starting.{after_keeps}
use Rattle.book_core.proofs.tables.Core.managed_ids.Goals as goal

pub loop-task-preserved : goal.loop-task-preserved
loop-task-preserved c =
    let fits : SFits w64 c.args.now = c.ranges.now in
    let first : Managed = managed_with c.args.self.now c.args.told.now in
    let one : managed_with c.managed_named.new.self c.managed_named.new.told ≡ managed_named c.args.now (task_of c.in-Some.task c.loop-task.self.tasks) (managed_with c.loop-task.self c.loop-task.told) =
    simp to_z-of_z at c.in_ok-managed_named.ensures in
    let before : managed_with c.loop-task.self c.loop-task.told ≡ managed_ids c.args.now c.loop-task.yielded first = simp to_z-of_z at c.loop-task.invariant.so_far in
    record {
      so_far = simp to_z-of_z
          (one ∙ (ap (λ (m : Managed). managed_named c.args.now (task_of c.in-Some.task m.book.tasks) m) before ∙ sym (managed_more c.args.now c.loop-task.yielded c.in-Some.task first)));
      sound = after_keeps c.args.now c.in-Some.task c.loop-task.self c.managed_named.new.self c.loop-task.told c.managed_named.new.told c.loop-task.invariant.sound c.requires.instant one;
    }
