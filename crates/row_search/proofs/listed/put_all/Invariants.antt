use Rattle.std.proofs.Common.{drop, ◌++◌, ◌≡◌}
use Rattle.row_search.specs.Listed.{all_at}
use Rattle.row_search.proofs.listed.put_all.Given as goal

-- the ids so far with those still to come are all
abbrev pub invariant-loop-id : goal.invariant-loop-id
invariant-loop-id l = l.out.items ++ all_at l.commit (drop l.id-index l.ids) ≡ l.fn.out.items ++ all_at l.commit l.ids
