-- Lists of parts that have no instants.
use Rattle.std.proofs.Common.{◌≡◌, List, [], ◌∷◌, true, refl}
use Rattle.std.specs.List.{list_all}

-- each item passes the test that all pass
pub all_fit : {X : Type 0} → (xs : List X) → list_all (λ (x : X). true) xs ≡ true
all_fit [] = refl
all_fit (x ∷ xs) = all_fit xs
