use Rattle.std.proofs.Common.{[], drop, ◌++◌, ◌≡◌}
use Rattle.chunk_rules.specs.Copies.{copies_after}
use Rattle.chunk_rules.proofs.copies.copy_rows.Given as goal

-- the rows so far with those still to come are all
abbrev pub invariant-loop-pending : goal.invariant-loop-pending
invariant-loop-pending l = l.rows.items ++ copies_after l.before (drop l.pending-index l.pendings) ≡ copies_after [] l.pendings
