use Rattle.std.proofs.Common.{filter, map, not, ◌≡◌}
use Rattle.seg_names.specs.Ids.{same_id}
use Rattle.book_rows.specs.Append.{as_row}
use Rattle.upgrade_plan.proofs.appending.root_first.Given as goal

-- the pendings so far are in the one list or in the other
abbrev pub invariant-loop-pending : goal.invariant-loop-pending
invariant-loop-pending l =
    (l.rows.items ≡ map (as_row l.commit) (filter (λ p. same_id p.id l.root) l.yielded))
    × (l.copies.items ≡ map (as_row l.commit) (filter (λ p. not (same_id p.id l.root)) l.yielded))
