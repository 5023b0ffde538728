use Rattle.std.proofs.Common.{drop, ◌++◌, ◌+◌, ◌≡◌}
use Rattle.laws_unsound.specs.ShapeRows.{ids_in_rows}
use Rattle.shape_rules.proofs.once.put_adds.Given as goal

-- the ids so far with those still to come are all
abbrev pub invariant-loop-publication : goal.invariant-loop-publication
invariant-loop-publication l = record {
  row_is : l.row ≡ l.before + l.publication-index;
  all : l.out.items ++ ids_in_rows l.row (λ m. m.adds) (drop l.publication-index l.publications) ≡ l.fn.out.items ++ ids_in_rows l.before (λ m. m.adds) l.publications;
}
