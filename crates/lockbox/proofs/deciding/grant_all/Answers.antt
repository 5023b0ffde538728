use Rattle.std.proofs.Common.{◌≡◌, ◌+◌, ◌≤◌, ◌∷◌, List, Err, Ok, drop, refl, sym, ap, subst, arith, ◌∙◌}
use Rattle.std.proofs.lemmas.List.{drop_all, drop_more}
use Rattle.std.proofs.lemmas.Result.{err_from_is_err_and}
use Rattle.book_rows.specs.Grant.{grant_all, granted_then, posses_after}
use Rattle.book_rows.specs.declared.rows.PosseRow.{PosseRow}
use Rattle.book_rows.specs.declared.rows.Want.{Want}
use Rattle.lockbox.specs.Decided.{IsAnswer}
use Rattle.lockbox.proofs.Following.{none_yet, one_more, stays_refused, then_nothing}
use Rattle.lockbox.proofs.Fresh.{one_counters, one_number, one_revoked}
use Rattle.lockbox.proofs.Merging.{ascending_merged}
use Rattle.lockbox.proofs.deciding.grant_all.Goals as goal

pub loop-want-init : goal.loop-want-init
loop-want-init c =
    rw c.nothing_granted-so_far.ensures
    (
    record {
      left = none_yet c.args.posses.now c.args.task.now c.args.counters c.args.wants.now;
      counters = c.requires.counters;
      numbers = omega arith;
      revoked = refl;
    }
    )

pub both_granted-requires : goal.both_granted-requires
both_granted-requires c =
    one_revoked (posses_after c.args.posses.now c.args.task.now.task c.loop-want.so_far) c.loop-want.so_far.after c.args.task.now c.want-item.result c.in_ok-next.next c.in_ok-next.ensures

pub loop-want-preserved : goal.loop-want-preserved
loop-want-preserved c =
    let ps : List PosseRow = posses_after c.args.posses.now c.args.task.now.task c.loop-want.so_far in
    let rest : List Want = drop (c.loop-want.want-index + 1) c.args.wants.now in
    let dropped : drop c.loop-want.want-index c.args.wants.now ≡ c.want-item.result ∷ rest =
    drop_more c.args.wants.now c.loop-want.want-index c.want-item.result c.loop-want-test.true ∙ ap (λ w. w ∷ rest) (sym c.want-item.is) in
    let more : c.in_ok-next.next.after.next_lock ≤ c.loop-want.so_far.after.next_lock + 1 =
    one_number ps c.loop-want.so_far.after c.args.task.now c.want-item.result c.in_ok-next.next c.in_ok-next.ensures in
    rw c.in_ok-so_far.ensures
    (
    record {
      left =
          sym (one_more c.args.posses.now c.args.task.now c.loop-want.so_far c.in_ok-next.next c.want-item.result rest c.in_ok-next.ensures)
          ∙ (ap (λ ws. granted_then c.args.task.now.task c.loop-want.so_far (grant_all ps c.loop-want.so_far.after c.args.task.now ws)) (sym dropped) ∙ c.loop-want.invariant.left);
      counters = one_counters ps c.loop-want.so_far.after c.args.task.now c.want-item.result c.in_ok-next.next c.loop-want.invariant.counters c.in_ok-next.ensures;
      numbers = omega arith;
      revoked =
          ascending_merged c.loop-want.so_far.revoked c.in_ok-next.next.revoked
          (one_revoked ps c.loop-want.so_far.after c.args.task.now c.want-item.result c.in_ok-next.next c.in_ok-next.ensures);
    }
    )

pub returns : goal.returns
returns c =
    sym c.loop-want.invariant.left
    ∙ (
    ap
    (λ ws. granted_then c.args.task.now.task c.loop-want.so_far (grant_all (posses_after c.args.posses.now c.args.task.now.task c.loop-want.so_far) c.loop-want.so_far.after c.args.task.now ws))
    (drop_all c.loop-want.want-index c.args.wants.now c.loop-want-test.false)
    ∙ ap Ok (then_nothing c.args.task.now.task c.loop-want.so_far c.loop-want.invariant.revoked)
    )

pub returns-in_err-next : goal.returns-in_err-next
returns-in_err-next c =
    let ps : List PosseRow = posses_after c.args.posses.now c.args.task.now.task c.loop-want.so_far in
    let rest : List Want = drop (c.loop-want.want-index + 1) c.args.wants.now in
    let dropped : drop c.loop-want.want-index c.args.wants.now ≡ c.want-item.result ∷ rest =
    drop_more c.args.wants.now c.loop-want.want-index c.want-item.result c.loop-want-test.true ∙ ap (λ w. w ∷ rest) (sym c.want-item.is) in
    let refused =
    stays_refused c.args.task.now.task c.in_err-next.field-0.0 _ c.loop-want.so_far (λ g. grant_all (posses_after ps c.args.task.now.task g) g.after c.args.task.now rest) c.in_err-next.ensures in
    let whole = ap (λ ws. granted_then c.args.task.now.task c.loop-want.so_far (grant_all ps c.loop-want.so_far.after c.args.task.now ws)) (sym dropped) ∙ c.loop-want.invariant.left in
    let p = err_from_is_err_and c.from_residual.result c.from_residual.ensures.1 in
    rw (p.1, p.2) (subst (λ r. IsAnswer (Err c.in_err-next.field-0.0) r) whole refused)
