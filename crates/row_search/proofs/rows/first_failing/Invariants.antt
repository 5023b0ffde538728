use Rattle.std.proofs.Common.{drop, ◌+◌, ◌≡◌}
use Rattle.laws_unsound.specs.Rows.{first_failing}
use Rattle.row_search.proofs.rows.first_failing.Given as goal

-- what is asked of the rows still to come is what is asked of all
abbrev pub invariant-loop-item : goal.invariant-loop-item
invariant-loop-item g l = record {
  row_is : l.row ≡ l.before + l.item-index;
  same : first_failing l.row (g.C.Test.passes l.test) (drop l.item-index l.rows) ≡ first_failing l.before (g.C.Test.passes l.test) l.rows;
}
