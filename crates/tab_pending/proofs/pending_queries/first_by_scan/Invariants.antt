use Rattle.std.proofs.Common.{◌≡◌, find}
use Rattle.book_rows.specs.Allocation.{is_pending_at}
use Rattle.tab_pending.proofs.pending_queries.first_by_scan.Given as goal

abbrev pub invariant-loop-pending : goal.invariant-loop-pending
invariant-loop-pending l = find (is_pending_at l.source l.at) l.pending-iterator ≡ find (is_pending_at l.source l.at) l.pendings
