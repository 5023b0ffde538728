-- Rows of several clauses, joined.
use Rattle.std.proofs.Common.{None, Option, Some, refl, ℕ, ◌≡◌}
use Rattle.laws_unsound.specs.Rows.{lesser}

pub joined : (a b x y : Option ℕ) → a ≡ x → b ≡ y → lesser a b ≡ lesser x y
joined a b x y e f = rw (e, f) refl

pub lesser_none : (a : Option ℕ) → lesser a None ≡ a
lesser_none None = refl
lesser_none (Some n) = refl
