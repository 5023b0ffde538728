use Rattle.std.proofs.Common.{◌∙◌, ap, ◌++◌, ◌∷◌, []}
use Rattle.row_table.proofs.EditLemmas.{below_pushed}
use Rattle.row_table.proofs.PushLemmas.{numbered_push, count_next, old_kept}
use Rattle.row_table.proofs.pushes.push_each.Goals as goal

pub returns-in_err-push_row-clause-kept : goal.returns-in_err-push_row-clause-kept
returns-in_err-push_row-clause-kept g c =
    rw (c.in_err-push_row.ensures.err, c.loop-row.invariant.0) (old_kept c.args.start c.args.rows.now.entries c.loop-row.yielded c.requires.below)

pub loop-row-preserved : goal.loop-row-preserved
loop-row-preserved g c = (
  c.in_ok-push_row.ensures.ok ∙ ap (λ es. es ++ (c.loop-row.number, c.in-Some.row) ∷ []) c.loop-row.invariant.0 ∙ numbered_push c.args.start c.loop-row.number c.loop-row.yielded c.in-Some.row c.args.rows.now.entries c.loop-row.invariant.1,
  count_next c.loop-row.number c.args.start c.loop-row.yielded c.in-Some.row c.loop-row.invariant.1,
  rw c.in_ok-push_row.ensures.ok (below_pushed c.loop-row.number c.in-Some.row c.loop-row.rows.entries c.loop-row.invariant.2),
  c.push_row.ensures.indexed,
  λ k old. c.push_row.ensures.more k (c.loop-row.invariant.4 k old),
)

pub returns-clause-kept : goal.returns-clause-kept
returns-clause-kept g c =
    rw c.loop-row.invariant.0 (old_kept c.args.start c.args.rows.now.entries c.loop-row.yielded c.requires.below)

pub returns-in_err-push_row-clause-more : goal.returns-in_err-push_row-clause-more
returns-in_err-push_row-clause-more g c = λ k old. c.push_row.ensures.more k (c.loop-row.invariant.4 k old)

pub returns-clause-more : goal.returns-clause-more
returns-clause-more g c = c.loop-row.invariant.4
