-- Pairs of lists that are filtered, gathered or joined.
use Rattle.std.proofs.Common.{Bool, List, [], cond, false, filter, inl, inr, map, refl, sym, true, ◌∙◌, ◌∷◌, ◌≡◌}
use Rattle.std.proofs.lemmas.Bool.{false≢true}
use Rattle.std.specs.List.{AllByRecursion}
use Rattle.book_rows.specs.Lists.{In, Pairs, gathered}
use Rattle.laws_chunks.proofs.Members.{In-all, In-filter, all_from_In, filter_In, pairs_append}
use Rattle.laws_chunks.proofs.PublicationOrder.{gathered_In}

module _ {X : Type 0} where
  -- the pairs of a filtered list are those of which both pass
  pub pairs_unfilter : (R : X → X → Type 0) (f : X → Bool) (xs : List X) → Pairs R (filter f xs) → Pairs (λ x y. f x ≡ true → f y ≡ true → R x y) xs
  pairs_unfilter R f [] h = tt
  pairs_unfilter R f (x ∷ xs) h = step (f x) refl (pairs_unfilter R f xs) h where
    step : (b : Bool) → f x ≡ b → (Pairs R (filter f xs) → Pairs (λ x y. f x ≡ true → f y ≡ true → R x y) xs) → Pairs R (cond b (x ∷ filter f xs) (filter f xs))
        → AllByRecursion (λ y. f x ≡ true → f y ≡ true → R x y) xs × Pairs (λ x y. f x ≡ true → f y ≡ true → R x y) xs
    step true e rest h = (all_from_In (λ y. f x ≡ true → f y ≡ true → R x y) xs (λ y i a on. In-all (R x) y (filter f xs) (filter_In f y xs i on) h.0), rest h.1)
    step false e rest h = (all_from_In (λ y. f x ≡ true → f y ≡ true → R x y) xs (λ y i on a. absurd (false≢true (sym e ∙ on))), rest h)

  pub pairs_refilter : (R : X → X → Type 0) (f : X → Bool) (xs : List X) → Pairs (λ x y. f x ≡ true → f y ≡ true → R x y) xs → Pairs R (filter f xs)
  pairs_refilter R f [] h = tt
  pairs_refilter R f (x ∷ xs) h = step (f x) refl (pairs_refilter R f xs h.1) where
    step : (b : Bool) → f x ≡ b → Pairs R (filter f xs) → Pairs R (cond b (x ∷ filter f xs) (filter f xs))
    step true e rest = (all_from_In (R x) (filter f xs) (λ y i. let w = In-filter f y xs i in In-all (λ y. f x ≡ true → f y ≡ true → R x y) y xs w.0 h.0 e w.1), rest)
    step false e rest = rest

  pub pairs_from_In : (R : X → X → Type 0) (xs : List X) → ((x y : X) → In x xs → In y xs → R x y) → Pairs R xs
  pairs_from_In R [] h = tt
  pairs_from_In R (x ∷ xs) h = (all_from_In (R x) xs (λ y i. h x y (inl refl) (inr i)), pairs_from_In R xs (λ y z i j. h y z (inr i) (inr j)))

  -- lists that are gathered from elements that differ
  pub pairs_gathered : {Y : Type 0} (R : X → X → Type 0) (S : Y → Y → Type 0) (f : Y → List X) (ys : List Y) → Pairs S ys → ((y : Y) → In y ys → Pairs R (f y))
      → ((y z : Y) → In y ys → In z ys → S y z → (u v : X) → In u (f y) → In v (f z) → R u v) → Pairs R (gathered f ys)
  pairs_gathered R S f [] h each apart = tt
  pairs_gathered R S f (y ∷ ys) h each apart =
      pairs_append R (f y) (gathered f ys) (each y (inl refl)) (pairs_gathered R S f ys h.1 (λ z i. each z (inr i)) (λ z w i j. apart z w (inr i) (inr j)))
      (λ u v i j. let w = gathered_In f ys v j in apart y w.0 (inl refl) (inr w.1) (In-all (S y) w.0 ys w.1 h.0) u v i w.2)

  all_mapped : {Y : Type 0} (P : Y → Type 0) (f : X → Y) (xs : List X) → AllByRecursion (λ x. P (f x)) xs → AllByRecursion P (map f xs)
  all_mapped P f [] h = tt
  all_mapped P f (x ∷ xs) h = (h.0, all_mapped P f xs h.1)

  pub pairs_mapped : {Y : Type 0} (R : Y → Y → Type 0) (f : X → Y) (xs : List X) → Pairs (λ x y. R (f x) (f y)) xs → Pairs R (map f xs)
  pairs_mapped R f [] h = tt
  pairs_mapped R f (x ∷ xs) h = (all_mapped (R (f x)) f xs h.0, pairs_mapped R f xs h.1)
