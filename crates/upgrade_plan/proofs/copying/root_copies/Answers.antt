use Rattle.std.proofs.Common.{arith, refl}
use Rattle.std.proofs.lemmas.List.{length_push}
use Rattle.upgrade_plan.specs.NewRows.{root_copy}
use Rattle.upgrade_plan.proofs.Numbering.{numbered_push}
use Rattle.upgrade_plan.proofs.copying.root_copies.Goals as goal

pub loop-root-preserved : goal.loop-root-preserved
loop-root-preserved c = (
  rw (
    c.in_ok-push.ensures.items,
    c.in_ok-root_copy.ensures,
    c.loop-root.invariant.0,
    numbered_push (root_copy c.args.chunk.now.source.now c.args.chunk.now.span c.args.chunk.now.version c.args.commit) c.args.from c.loop-root.part c.loop-root.yielded c.in-Some.root c.loop-root.invariant.1,
  ) refl,
  rw (length_push c.loop-root.yielded c.in-Some.root) (omega arith),
)
