use Rattle.std.proofs.Common.{List, None, Ok, Some, subst, ◌≡◌}
use Rattle.std.proofs.lemmas.Result.{err_from_is_err_and}
use Rattle.book_rows.specs.Over.{Target, bad_span, both_in_order, lock_for, targets, version_fault, way_fault}
use Rattle.book_rows.specs.Publications.{Publish, in_spans}
use Rattle.book_rows.specs.declared.kinds.LockKind.{LockKind}
use Rattle.book_rows.specs.declared.rows.Book.{Book}
use Rattle.publish_core.specs.Kinds.{filling_of}
use Rattle.publish_core.specs.Tables.{with_tables}
use Rattle.publish_core.proofs.CheckCases.{at_end, at_way}
use Rattle.publish_core.proofs.over.targets_for.Goals as goal

pub returns-in_err-check_way : goal.returns-in_err-check_way
returns-in_err-check_way c = λ b ranges.
    let book : Book = with_tables c.args.segments.now c.args.pendings.now c.args.posses.now b in
    let what : Publish = in_spans c.args.spans.now c.args.ids.now c.args.tombstones.now ranges in
    let f = filling_of c.args.filling in
    let bad = c.in_ok-span.ensures.bad ranges in
    let none : bad_span c.args.task.now.source what ≡ None = cc in
    let held = subst (λ (kind : LockKind). targets c.args.posses.now c.args.task.now kind c.args.spans.now ≡ Ok c.in_ok-targets.targets.items) c.lock_for.ensures c.in_ok-targets.ensures.found in
    let right = subst (λ (xs : List Target). version_fault c.args.segments.now.chunks c.args.task.now.source xs (both_in_order c.args.ids.now c.args.tombstones.now) ≡ None) c.as_slice-found.ensures.value c.in_ok-check_versions.ensures in
    let p = err_from_is_err_and c.from_residual-in_err-check_way.result c.from_residual-in_err-check_way.ensures.1 in
    rw (p.1, p.2)
    (λ why is.
    at_way (targets c.args.posses.now c.args.task.now (lock_for f) c.args.spans.now) (λ xs. version_fault c.args.segments.now.chunks c.args.task.now.source xs (both_in_order c.args.ids.now c.args.tombstones.now))
    (way_fault f book what c.args.task.now) (bad_span c.args.task.now.source what) none c.in_ok-targets.targets.items held right why
    (subst (λ (xs : List Target). way_fault f book what c.args.task.now xs ≡ Some why) c.as_slice-found.ensures.value (c.in_err-check_way.ensures book what why is)))

pub returns : goal.returns
returns c = λ b ranges.
    let book : Book = with_tables c.args.segments.now c.args.pendings.now c.args.posses.now b in
    let what : Publish = in_spans c.args.spans.now c.args.ids.now c.args.tombstones.now ranges in
    let f = filling_of c.args.filling in
    let bad = c.in_ok-span.ensures.bad ranges in
    let none : bad_span c.args.task.now.source what ≡ None = cc in
    let held = subst (λ (kind : LockKind). targets c.args.posses.now c.args.task.now kind c.args.spans.now ≡ Ok c.in_ok-targets.targets.items) c.lock_for.ensures c.in_ok-targets.ensures.found in
    let right = subst (λ (xs : List Target). version_fault c.args.segments.now.chunks c.args.task.now.source xs (both_in_order c.args.ids.now c.args.tombstones.now) ≡ None) c.as_slice-found.ensures.value c.in_ok-check_versions.ensures in
    at_end (targets c.args.posses.now c.args.task.now (lock_for f) c.args.spans.now) (λ xs. version_fault c.args.segments.now.chunks c.args.task.now.source xs (both_in_order c.args.ids.now c.args.tombstones.now))
    (way_fault f book what c.args.task.now) (bad_span c.args.task.now.source what) none c.in_ok-targets.targets.items held right
    (subst (λ (xs : List Target). way_fault f book what c.args.task.now xs ≡ None) c.as_slice-found.ensures.value (c.in_ok-check_way.ensures book what))
