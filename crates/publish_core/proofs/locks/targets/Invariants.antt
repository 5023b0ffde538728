use Rattle.std.proofs.Common.{Ok, drop, map, take, ◌++◌, ◌≡◌}
use Rattle.book_rows.specs.Lists.{on_ok}
use Rattle.book_rows.specs.Over.{targets}
use Rattle.publish_core.proofs.locks.targets.Given as goal

-- the targets so far come before those still to be found
abbrev pub invariant-loop-span : goal.invariant-loop-span
invariant-loop-span l = record {
  found : on_ok (targets l.posses l.task l.kind (drop l.span-index l.spans)) (λ xs. Ok (l.targets.items ++ xs)) ≡ targets l.posses l.task l.kind l.spans;
  spans : map (λ x. x.span) l.targets.items ≡ take l.span-index l.spans;
}
