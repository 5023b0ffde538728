use Rattle.std.proofs.Common.{drop, ◌++◌, ◌+◌, ◌≡◌, ◌∷◌, []}
use Rattle.laws_unsound.specs.ShapeRows.{ids_in_rows}
use Rattle.shape_rules.proofs.once.put_pendings.Given as goal

-- the ids so far with those still to come are all
abbrev pub invariant-loop-pending : goal.invariant-loop-pending
invariant-loop-pending l = record {
  row_is : l.row ≡ l.before + l.pending-index;
  all : l.out.items ++ ids_in_rows l.row (λ p. p.id ∷ []) (drop l.pending-index l.pendings) ≡ l.fn.out.items ++ ids_in_rows l.before (λ p. p.id ∷ []) l.pendings;
}
