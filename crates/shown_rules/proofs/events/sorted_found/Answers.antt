use Rattle.std.proofs.Common.{map, subst}
use Rattle.std.specs.List.Sorted.{IsPermutation}
use Rattle.std.proofs.lemmas.List.Sorted.{IsPermutation-map}
use Rattle.shown_rules.specs.Founds.{found_of}
use Rattle.shown_rules.proofs.events.sorted_found.Goals as goal

pub returns-clause-moved : goal.returns-clause-moved
returns-clause-moved c =
    subst (λ xs. IsPermutation xs (map found_of c.sort.new.self.items)) c.in_ok-found.ensures (IsPermutation-map found_of c.in_ok-found.found.items c.sort.new.self.items c.sort.ensures.permutation)
