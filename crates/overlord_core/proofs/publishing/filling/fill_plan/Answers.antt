use Rattle.std.proofs.Common.{◌≡◌, Err, IfOk, List, Result, ap, subst, sym, true}
use Rattle.book_rows.specs.Outcome.{refused_or}
use Rattle.book_rows.specs.Over.{Target, check_over}
use Rattle.book_rows.specs.Over as over
use Rattle.book_rows.specs.PublishSteps.{over_checked}
use Rattle.book_rows.specs.Publications.{Publish}
use Rattle.book_rows.specs.declared.replies.Refusal.{Refusal}
use Rattle.book_rows.specs.declared.rows.Book.{Book}
use Rattle.book_rows.specs.declared.rows.Publication.{Publication}
use Rattle.book_rows.specs.declared.rows.TaskRow.{TaskRow}
use Rattle.publish_core.specs.Kinds.{filling_of}
use Rattle.stream_offsets.specs.Room.{ranges_ascend}
use Rattle.overlord_core.specs.Commits.{fill_outcome}
use Rattle.book_core.specs.Publishing.{publish_of}
use Rattle.book_rows.specs.Form.{is_few}
use Rattle.overlord_core.proofs.Plans.{AreInForm, lists_in_form}
use Rattle.overlord_core.proofs.publishing.filling.fill_plan.Goals as goal

pub targets-requires : goal.targets-requires
targets-requires c =
    let p : Publish = publish_of c.args.publish.now in
    let form : AreInForm p.spans p.ids p.tombstones p.ranges = lists_in_form p.spans p.ids p.tombstones p.ranges c.requires.form in
    record { spans = form.spans_rise; ids = form.ids_rise; tombstones = form.tombs_rise }

pub fill_checked-requires-clause-few : goal.fill_checked-requires-clause-few
fill_checked-requires-clause-few c =
    let p : Publish = publish_of c.args.publish.now in
    subst (λ (m : Publication). is_few m.adds ≡ true) (sym c.requires.own) (lists_in_form p.spans p.ids p.tombstones p.ranges c.requires.form).few

pub fill_checked-requires-clause-ascend : goal.fill_checked-requires-clause-ascend
fill_checked-requires-clause-ascend c =
    let p : Publish = publish_of c.args.publish.now in
    subst (λ (m : Publication). ranges_ascend m.ranges ≡ true) (sym c.requires.own) (lists_in_form p.spans p.ids p.tombstones p.ranges c.requires.form).parts_rise

pub returns-in-Ok : goal.returns-in-Ok
returns-in-Ok c =
    let b : Book = c.args.core.now in
    let t : TaskRow = c.args.row.now in
    let p : Publish = publish_of c.args.publish.now in
    let f : over.Filling = filling_of c.args.filling in
    subst (λ (r : Result (List Target) Refusal). IfOk c.fill_checked.result (λ d. fill_outcome f d b ≡ refused_or r b (over_checked f b p t))) (sym c.in-Ok.ensures)
    (c.fill_checked.ensures p c.requires.own)

pub returns-in_ok-publish_refusal-in-Err : goal.returns-in_ok-publish_refusal-in-Err
returns-in_ok-publish_refusal-in-Err c =
    let b : Book = c.args.core.now in
    let t : TaskRow = c.args.row.now in
    let p : Publish = publish_of c.args.publish.now in
    let f : over.Filling = filling_of c.args.filling in
    let why : check_over f b p t ≡ Err c.in_ok-publish_refusal-in-Err.field-0 = c.in-Err.ensures c.in_ok-publish_refusal-in-Err.field-0 c.in_ok-publish_refusal-in-Err.ensures in
    sym (ap (λ (r : Result (List Target) Refusal). refused_or r b (over_checked f b p t)) why)
