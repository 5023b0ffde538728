use Rattle.std.proofs.Common.{drop, ◌++◌, ◌≡◌}
use Rattle.laws_unsound.specs.Rows.{in_row}
use Rattle.shape_rules.proofs.once.put_row.Given as goal

-- the ids so far with those still to come are all
abbrev pub invariant-loop-id : goal.invariant-loop-id
invariant-loop-id l = l.out.items ++ in_row l.row (drop l.id-index l.ids) ≡ l.fn.out.items ++ in_row l.row l.ids
