use Rattle.std.proofs.Common.{length, ◌+◌, ◌≡◌}
use Rattle.book_rows.specs.Lists.{numbered}
use Rattle.upgrade_plan.specs.NewRows.{root_copy}
use Rattle.upgrade_plan.proofs.copying.root_copies.Given as goal

abbrev pub invariant-loop-root : goal.invariant-loop-root
invariant-loop-root l =
    (l.copies.items ≡ numbered (root_copy l.chunk.source.now l.chunk.span l.chunk.version l.commit) l.from l.yielded) × (l.part ≡ l.from + length l.yielded)
