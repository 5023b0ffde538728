-- Places of keys.
use Rattle.std.proofs.Common.{◌≡◌, ℕ, ◌≤◌, ◌-◌, zero, suc, ◌∷◌, List, Some, slice_get, arith}

pub past_two : {X : Type 0} (a b : X) (xs : List X) (n : ℕ) (x : X) → 2 ≤ n → slice_get xs (n - 2) ≡ Some x → slice_get (a ∷ b ∷ xs) n ≡ Some x
past_two a b xs zero x le got = absurd (omega arith)
past_two a b xs (suc zero) x le got = absurd (omega arith)
past_two a b xs (suc (suc n)) x le got = let e : suc (suc n) - 2 ≡ n = omega arith in rw e at got
