use Rattle.std.proofs.Common.{List, Ok, Result, ap, drop, sym, take, [], ◌++◌, ◌+◌, ◌∙◌, ◌∷◌, ◌≡◌}
use Rattle.std.proofs.lemmas.List.{drop_more, map_push, take_more}
use Rattle.std.proofs.lemmas.Result.{err_from_is_err_and}
use Rattle.iv_span.specs.Extent.{Extent}
use Rattle.book_rows.specs.Lists.{on_ok}
use Rattle.book_rows.specs.Over.{Target, held_for, targets}
use Rattle.book_rows.specs.declared.replies.Refusal.{Refusal}
use Rattle.publish_core.proofs.TargetLists.{goes_on, has_span, stops, with_found}
use Rattle.publish_core.proofs.locks.targets.Goals as goal

pub returns-in_err-target_for-clause-found : goal.returns-in_err-target_for-clause-found
returns-in_err-target_for-clause-found c =
    let s : Extent = c.span-item.result in
    let rest : List Extent = drop (c.loop-span.span-index + 1) c.args.spans.now in
    let dropped : drop c.loop-span.span-index c.args.spans.now ≡ s ∷ rest =
    drop_more c.args.spans.now c.loop-span.span-index s c.loop-span-test.true ∙ ap (λ (x : Extent). x ∷ rest) (sym c.span-item.is) in
    let later : Result (List Target) Refusal = targets c.args.posses.now c.args.task.now c.args.kind rest in
    let whole : with_found c.loop-span.targets.items s (held_for c.args.posses.now c.args.task.now c.args.kind s) later ≡ targets c.args.posses.now c.args.task.now c.args.kind c.args.spans.now =
    ap (λ (ss : List Extent). on_ok (targets c.args.posses.now c.args.task.now c.args.kind ss) (λ ys. Ok (c.loop-span.targets.items ++ ys))) (sym dropped) ∙ c.loop-span.invariant.found in
    let p = err_from_is_err_and c.from_residual.result c.from_residual.ensures.1 in
    rw (p.1, p.2)
    (λ why is. sym whole ∙ stops c.loop-span.targets.items s (held_for c.args.posses.now c.args.task.now c.args.kind s) later why (c.in_err-target_for.ensures why is))

pub loop-span-preserved : goal.loop-span-preserved
loop-span-preserved c =
    let s : Extent = c.span-item.result in
    let rest : List Extent = drop (c.loop-span.span-index + 1) c.args.spans.now in
    let x : Target = c.in_ok-target_for.field-0 in
    let dropped : drop c.loop-span.span-index c.args.spans.now ≡ s ∷ rest =
    drop_more c.args.spans.now c.loop-span.span-index s c.loop-span-test.true ∙ ap (λ (y : Extent). y ∷ rest) (sym c.span-item.is) in
    let later : Result (List Target) Refusal = targets c.args.posses.now c.args.task.now c.args.kind rest in
    let whole : with_found c.loop-span.targets.items s (held_for c.args.posses.now c.args.task.now c.args.kind s) later ≡ targets c.args.posses.now c.args.task.now c.args.kind c.args.spans.now =
    ap (λ (ss : List Extent). on_ok (targets c.args.posses.now c.args.task.now c.args.kind ss) (λ ys. Ok (c.loop-span.targets.items ++ ys))) (sym dropped) ∙ c.loop-span.invariant.found in
    let own : x.span ≡ s = has_span s (held_for c.args.posses.now c.args.task.now c.args.kind s) x c.in_ok-target_for.ensures in
    rw c.in_ok-put.ensures
    (
    record {
      found = sym (goes_on c.loop-span.targets.items s (held_for c.args.posses.now c.args.task.now c.args.kind s) later x c.in_ok-target_for.ensures) ∙ whole;
      spans =
          map_push (λ (y : Target). y.span) c.loop-span.targets.items x
          ∙ (
          ap (λ (ss : List Extent). ss ++ x.span ∷ []) c.loop-span.invariant.spans
          ∙ (
          ap (λ (e : Extent). take c.loop-span.span-index c.args.spans.now ++ e ∷ []) (own ∙ c.span-item.is)
          ∙ sym (take_more c.args.spans.now c.loop-span.span-index s c.loop-span-test.true)
          )
          );
    }
    )
