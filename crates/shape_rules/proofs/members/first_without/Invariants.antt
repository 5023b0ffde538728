use Rattle.std.proofs.Common.{drop, ◌+◌, ◌≡◌}
use Rattle.laws_unsound.specs.Rows.{first_failing}
use Rattle.laws_unsound.specs.ShapeRows.{has_members}
use Rattle.shape_rules.proofs.members.first_without.Given as goal

-- what is asked of the locks still to come is what is asked of all
abbrev pub invariant-loop-lock : goal.invariant-loop-lock
invariant-loop-lock l = record {
  row_is : l.row ≡ l.before + l.lock-index;
  same : first_failing l.row (has_members l.tasks) (drop l.lock-index l.locks) ≡ first_failing l.before (has_members l.tasks) l.locks;
}
