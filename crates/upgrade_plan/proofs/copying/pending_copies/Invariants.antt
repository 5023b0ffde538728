use Rattle.std.proofs.Common.{length, ◌+◌, ◌≡◌}
use Rattle.book_rows.specs.Lists.{numbered}
use Rattle.book_rows.specs.Rewrite.{pending_copy}
use Rattle.upgrade_plan.proofs.copying.pending_copies.Given as goal

abbrev pub invariant-loop-pending : goal.invariant-loop-pending
invariant-loop-pending l =
    (l.copies.items ≡ numbered (pending_copy l.chunk.source.now l.chunk.span l.chunk.version) l.from l.yielded) × (l.part ≡ l.from + length l.yielded)
