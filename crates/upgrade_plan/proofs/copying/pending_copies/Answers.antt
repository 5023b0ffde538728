use Rattle.std.proofs.Common.{arith, refl}
use Rattle.std.proofs.lemmas.List.{length_push}
use Rattle.book_rows.specs.Rewrite.{pending_copy}
use Rattle.upgrade_plan.proofs.Numbering.{numbered_push}
use Rattle.upgrade_plan.proofs.copying.pending_copies.Goals as goal

pub loop-pending-preserved : goal.loop-pending-preserved
loop-pending-preserved c = (
  rw (
    c.in_ok-push.ensures.items,
    c.in_ok-pending_copy.ensures,
    c.loop-pending.invariant.0,
    numbered_push (pending_copy c.args.chunk.now.source.now c.args.chunk.now.span c.args.chunk.now.version) c.args.from c.loop-pending.part c.loop-pending.yielded c.in-Some.pending c.loop-pending.invariant.1,
  ) refl,
  rw (length_push c.loop-pending.yielded c.in-Some.pending) (omega arith),
)
