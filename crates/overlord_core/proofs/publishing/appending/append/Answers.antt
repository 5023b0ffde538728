use Rattle.std.proofs.Common.{◌≡◌, ◌∙◌, IfOk, Option, subst, sym, true}
use Rattle.book_rows.specs.Outcome.{task_of}
use Rattle.book_rows.specs.Outcome as rules_of
use Rattle.book_rows.specs.PublishSteps.{append_running, appended}
use Rattle.book_rows.specs.Publications.{Publish, appending}
use Rattle.book_rows.specs.Sound.{Sound}
use Rattle.book_rows.specs.declared.kinds.PubKind.TheVariants as PubKinds
use Rattle.book_rows.specs.declared.rows.Book.{Book}
use Rattle.book_rows.specs.declared.rows.Publication.{Publication}
use Rattle.book_rows.specs.declared.rows.TaskRow.{TaskRow}
use Rattle.stream_offsets.specs.Room.{ranges_ascend}
use Rattle.overlord_core.specs.Commits.{append_outcome}
use Rattle.book_core.specs.Done.{IsDone}
use Rattle.overlord_core.proofs.Plans.{step_answered, step_is}
use Rattle.overlord_core.proofs.publishing.appending.append.Goals as goal

pub returns-in-Some-answered : goal.returns-in-Some-answered
returns-in-Some-answered c =
    let b : Book = c.args.core.now in
    let p : Publish = appending c.args.ids.now c.args.ranges.now in
    step_answered PubKinds.Append (task_of c.args.task.now b.tasks) c.in-Some.row.now b p c.in_ok-publication.publication (append_running b p) c.in-Some-answered.outcome
    c.in-Some.ensures.row c.in_ok-publication.ensures c.in-Some-answered.ensures

pub append_plan-requires-clause-ascend : goal.append_plan-requires-clause-ascend
append_plan-requires-clause-ascend c = subst (λ (m : Publication). ranges_ascend m.ranges ≡ true) (sym c.in_ok-publication.ensures) c.requires.ascend

pub done_append-requires : goal.done_append-requires
done_append-requires c =
    let b : Book = c.args.core.now in
    let t : TaskRow = c.in-Some.row.now in
    let p : Publish = appending c.args.ids.now c.args.ranges.now in
    let o : Option TaskRow = task_of c.args.task.now b.tasks in
    let step : appended o b p ≡ append_running b p t = step_is PubKinds.Append o t b p c.in_ok-publication.publication (append_running b p) c.in-Some.ensures.row c.in_ok-publication.ensures c.in-None.ensures in
    let same : append_outcome c.in_ok-decided-in-None.decided b ≡ append_running b p t = c.in_ok-decided-in-None.ensures in
    subst (λ (x : rules_of.Outcome). Sound x.book) (step ∙ sym same) c.requires.after

pub returns-in_ok-decided-in-None : goal.returns-in_ok-decided-in-None
returns-in_ok-decided-in-None c =
    let b : Book = c.args.core.now in
    let t : TaskRow = c.in-Some.row.now in
    let p : Publish = appending c.args.ids.now c.args.ranges.now in
    let o : Option TaskRow = task_of c.args.task.now b.tasks in
    let step : appended o b p ≡ append_running b p t = step_is PubKinds.Append o t b p c.in_ok-publication.publication (append_running b p) c.in-Some.ensures.row c.in_ok-publication.ensures c.in-None.ensures in
    let same : append_outcome c.in_ok-decided-in-None.decided b ≡ append_running b p t = c.in_ok-decided-in-None.ensures in
    subst (λ (x : rules_of.Outcome). IfOk c.done_append.result (λ d. IsDone d c.done_append.new.core x)) (same ∙ sym step) c.done_append.ensures
