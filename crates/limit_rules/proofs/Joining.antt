-- The lesser of two rows, each of them known by another name.
use Rattle.std.proofs.Common.{Bool, List, Option, ap, refl, ℕ, ◌∙◌, ◌≡◌}
use Rattle.laws_unsound.specs.Rows.{first_failing, lesser}

pub joined : (o p q r s : Option ℕ) → o ≡ lesser p q → p ≡ r → q ≡ s → o ≡ lesser r s
joined o p q r s is e f = is ∙ rw (e, f) refl

pub counted : {X : Type 0} (test : X → Bool) (xs : List X) (o : Option ℕ) (k n : ℕ) → o ≡ first_failing k test xs → k ≡ n → o ≡ first_failing n test xs
counted test xs o k n is e = is ∙ ap (λ m. first_failing m test xs) e
