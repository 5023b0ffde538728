-- What a test keeps, and what it leaves.
use Rattle.std.proofs.Common.{◌&&◌, ◌++◌, ◌∷◌, ◌≡◌, Bool, List, [], false, filter, inl, inr, map, refl, sym, true}
use Rattle.std.proofs.lemmas.Bool.{cases_Bool}
use Rattle.std.proofs.lemmas.List.{append-nil, map-append}
use Rattle.std.proofs.lemmas.List.Elements.{filter-append}

-- what passes two tests, one after the other
both_kept : {X : Type 0} (p q : X → Bool) (xs : List X) → filter q (filter p xs) ≡ filter (λ x. p x && q x) xs
both_kept p q [] = refl
both_kept p q (x ∷ xs) = elim (cases_Bool (p x)) [ inl on ↦ rw (on, both_kept p q xs) refl | inr off ↦ rw (off, both_kept p q xs) refl ]

pub mapped_parts : {X Y : Type 0} (f : X → Y) (p q r : X → Bool) (xs : List X)
    → map f (filter q (filter p xs)) ++ map f (filter r (filter p xs)) ≡ map f (filter (λ x. p x && q x) xs ++ filter (λ x. p x && r x) xs)
mapped_parts f p q r xs =
    rw (both_kept p q xs, both_kept p r xs) (sym (map-append f (filter (λ x. p x && q x) xs) (filter (λ x. p x && r x) xs)))

-- one more element
module _ {X Y : Type 0} (f : X → Y) (p : X → Bool) (xs : List X) (x : X) where
  pub mapped_yes : p x ≡ true → map f (filter p (xs ++ x ∷ [])) ≡ map f (filter p xs) ++ f x ∷ []
  mapped_yes on = rw (filter-append p xs (x ∷ []), on, map-append f (filter p xs) (x ∷ [])) refl

  pub mapped_no : p x ≡ false → map f (filter p (xs ++ x ∷ [])) ≡ map f (filter p xs)
  mapped_no off = rw (filter-append p xs (x ∷ []), off, append-nil (filter p xs)) refl
