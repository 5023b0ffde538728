use Rattle.std.proofs.lemmas.List.Sorted.{IsNonDecreasingBy-from_sort}
use Rattle.lock_posse.proofs.Rising.{sorted_is_ascending}
use Rattle.lock_posse.proofs.searches.sorted.Goals as goal

pub returns : goal.returns
returns c = sorted_is_ascending _ _ c.in_ok-sort.ensures.permutation (IsNonDecreasingBy-from_sort (λ x. x) _ c.in_ok-sort.ensures.sorted)
