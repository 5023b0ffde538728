use Rattle.std.proofs.Common.{◌≡◌, ◌∙◌, IfOk, Option, subst, sym}
use Rattle.book_rows.specs.Outcome.{task_of}
use Rattle.book_rows.specs.Outcome as rules_of
use Rattle.book_rows.specs.Over as over
use Rattle.book_rows.specs.Over.{kind_of}
use Rattle.book_rows.specs.PublishSteps.{over_running, over_step}
use Rattle.book_rows.specs.Publications.{Publish, publication_of, without_since}
use Rattle.book_rows.specs.Sound.{Sound}
use Rattle.book_rows.specs.declared.rows.Book.{Book}
use Rattle.book_rows.specs.declared.rows.TaskRow.{TaskRow}
use Rattle.publish_core.specs.Kinds.{filling_of}
use Rattle.overlord_core.specs.Commits.{fill_outcome}
use Rattle.book_core.specs.Publishing.{publish_of}
use Rattle.book_core.specs.Done.{IsDone}
use Rattle.overlord_core.proofs.Plans.{step_answered, step_is}
use Rattle.overlord_core.proofs.publishing.filling.fill.Goals as goal

pub returns-in-Some-answered : goal.returns-in-Some-answered
returns-in-Some-answered c =
    let b : Book = c.args.core.now in
    let f : over.Filling = filling_of c.args.filling in
    let p : Publish = publish_of c.args.publish.now in
    let own : c.in_ok-publication.publication ≡ publication_of (kind_of f) c.in-Some.row.now (without_since p.spans) p = rw c.kind_of.ensures at c.in_ok-publication.ensures in
    step_answered (kind_of f) (task_of c.args.task.now b.tasks) c.in-Some.row.now b p c.in_ok-publication.publication (over_running f b p) c.in-Some-answered.outcome
    c.in-Some.ensures.row own c.in-Some-answered.ensures

pub done_fill-requires : goal.done_fill-requires
done_fill-requires c =
    let b : Book = c.args.core.now in
    let f : over.Filling = filling_of c.args.filling in
    let t : TaskRow = c.in-Some.row.now in
    let p : Publish = publish_of c.args.publish.now in
    let own : c.in_ok-publication.publication ≡ publication_of (kind_of f) c.in-Some.row.now (without_since p.spans) p = rw c.kind_of.ensures at c.in_ok-publication.ensures in
    let o : Option TaskRow = task_of c.args.task.now b.tasks in
    let step : over_step f o b p ≡ over_running f b p t = step_is (kind_of f) o t b p c.in_ok-publication.publication (over_running f b p) c.in-Some.ensures.row own c.in-None.ensures in
    let same : fill_outcome f c.in_ok-decided-in-None.decided b ≡ over_running f b p t = c.in_ok-decided-in-None.ensures in
    subst (λ (x : rules_of.Outcome). Sound x.book) (step ∙ sym same) c.requires.after

pub returns-in_ok-decided-in-None : goal.returns-in_ok-decided-in-None
returns-in_ok-decided-in-None c =
    let b : Book = c.args.core.now in
    let f : over.Filling = filling_of c.args.filling in
    let t : TaskRow = c.in-Some.row.now in
    let p : Publish = publish_of c.args.publish.now in
    let own : c.in_ok-publication.publication ≡ publication_of (kind_of f) c.in-Some.row.now (without_since p.spans) p = rw c.kind_of.ensures at c.in_ok-publication.ensures in
    let o : Option TaskRow = task_of c.args.task.now b.tasks in
    let step : over_step f o b p ≡ over_running f b p t = step_is (kind_of f) o t b p c.in_ok-publication.publication (over_running f b p) c.in-Some.ensures.row own c.in-None.ensures in
    let same : fill_outcome f c.in_ok-decided-in-None.decided b ≡ over_running f b p t = c.in_ok-decided-in-None.ensures in
    subst (λ (x : rules_of.Outcome). IfOk c.done_fill.result (λ d. IsDone d c.done_fill.new.core x)) (same ∙ sym step) c.done_fill.ensures
