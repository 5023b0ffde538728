use Rattle.std.proofs.Common.{drop, find, not, ◌≡◌}
use Rattle.publish_core.proofs.lists.first_failing.Given as goal

-- the first that fails is still to come
abbrev pub invariant-loop-id : goal.invariant-loop-id
invariant-loop-id g l = find (λ a. not (g.T.IdTest.passes l.test a)) (drop l.id-index l.ids) ≡ find (λ a. not (g.T.IdTest.passes l.test a)) l.ids
