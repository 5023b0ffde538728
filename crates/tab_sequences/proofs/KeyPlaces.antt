-- Places of the keys of a sequence.
use Rattle.std.proofs.Common.{◌-◌, ◌∷◌, ◌≡◌, ◌≤◌, List, Some, [], arith, map, refl, slice_get, suc, zero, ℕ}

pub past_two : {X : Type 0} (a b : X) (xs : List X) (n : ℕ) (x : X) → 2 ≤ n → slice_get xs (n - 2) ≡ Some x → slice_get (a ∷ b ∷ xs) n ≡ Some x
past_two a b xs zero x le got = absurd (omega arith)
past_two a b xs (suc zero) x le got = absurd (omega arith)
past_two a b xs (suc (suc n)) x le got = let e : suc (suc n) - 2 ≡ n = omega arith in rw e at got

pub get_mapped : {X Y : Type 0} (f : X → Y) (xs : List X) (n : ℕ) (x : X) → slice_get xs n ≡ Some x → slice_get (map f xs) n ≡ Some (f x)
get_mapped f [] n x got = cc
get_mapped f (y ∷ ys) zero x got = let e : y ≡ x = cc in rw e refl
get_mapped f (y ∷ ys) (suc n) x got = get_mapped f ys n x got
