use Rattle.std.proofs.Common.{◌≡◌, ◌∙◌, IfOk, None, Option, Some, ap, subst, sym}
use Rattle.book_rows.specs.Outcome.{unless}
use Rattle.book_rows.specs.Over as over
use Rattle.book_rows.specs.PublishSteps.{filled}
use Rattle.book_rows.specs.Publications.{ranges_fault}
use Rattle.book_rows.specs.declared.replies.Refusal.{Refusal}
use Rattle.book_rows.specs.declared.rows.Book.{Book}
use Rattle.book_rows.specs.declared.rows.Publication.{Publication}
use Rattle.book_rows.specs.declared.rows.TaskRow.{TaskRow}
use Rattle.publish_core.specs.Kinds.{filling_of}
use Rattle.overlord_core.specs.Commits.{fill_outcome}
use Rattle.overlord_core.proofs.publishing.filling.fill_checked.Goals as goal

pub returns-in-Some : goal.returns-in-Some
returns-in-Some c = λ p own.
    let b : Book = c.args.core.now in
    let t : TaskRow = c.args.row.now in
    let f : over.Filling = filling_of c.args.filling in
    let why : Some c.in-Some.why ≡ ranges_fault b t p.ranges = sym c.in-Some.is ∙ c.in_ok-fault.ensures ∙ ap (λ (m : Publication). ranges_fault b t m.ranges) own in
    ap (λ (o : Option Refusal). unless o b (filled f b p t c.args.targets.items)) why

pub returns-in-None : goal.returns-in-None
returns-in-None c = λ p own.
    let b : Book = c.args.core.now in
    let t : TaskRow = c.args.row.now in
    let f : over.Filling = filling_of c.args.filling in
    let none : None ≡ ranges_fault b t p.ranges = sym c.in-None.is ∙ c.in_ok-fault.ensures ∙ ap (λ (m : Publication). ranges_fault b t m.ranges) own in
    subst (λ (o : Option Refusal). IfOk c.fill_with_room.result (λ d. fill_outcome f d b ≡ unless o b (filled f b p t c.args.targets.items))) none (c.fill_with_room.ensures t p own)
