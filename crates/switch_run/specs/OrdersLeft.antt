-- A feed of orders tells nothing but the orders that are left.
use Rattle.std.specs.Prelude.{ℕ, Bool, List, drop}
use Rattle.machine_run.specs.Steps.{IsFeed}

-- the orders from a place on
abbrev pub left_from : List Bool → ℕ → List Bool
left_from orders next = drop next orders

pub orders_laws : {F S : Type 0} → IsFeed (λ (f : F) (s : S) (g : F) (t : S). Unit {0}) (λ f s g t stop. ⊥)
orders_laws = record { begins = λ f s. tt; goes_on = λ f s g t h u one two. tt; fails_then = λ f s g t h u stop one is. is }
