-- Laws of filters by cases: under changes of the elements, and of one filter in another.
use Rattle.std.proofs.Common.{◌≡◌, ◌≤◌, arith, Bool, true, false, cond, ◌&&◌, List, [], ◌∷◌, ◌++◌, map, filter, find, Some, refl, sym, length, inl, inr}
use Rattle.std.specs.List.{AllByRecursion}
use Rattle.book_rows.specs.Lists.{In}

module _ {X : Type 0} where
  -- ---- changes of the elements

  -- a change that the test doesn't see
  pub filter_map_kept : (p : X → Bool) (f : X → X) → ((x : X) → p (f x) ≡ p x) → (xs : List X) → filter p (map f xs) ≡ map f (filter p xs)
  filter_map_kept p f h [] = refl
  filter_map_kept p f h (x ∷ xs) =
      rw (h x, filter_map_kept p f h xs)
      (elim (p x) as (λ b. cond b (f x ∷ map f (filter p xs)) (map f (filter p xs)) ≡ map f (cond b (x ∷ filter p xs) (filter p xs))) [ true ↦ refl | false ↦ refl ])

  -- a change after which those that pass are as they were
  pub filter_after : (p q : X → Bool) (f : X → X) → ((x : X) → p (f x) ≡ q x) → ((x : X) → q x ≡ true → f x ≡ x) → (xs : List X) → filter p (map f xs) ≡ filter q xs
  filter_after p q f h k [] = refl
  filter_after p q f h k (x ∷ xs) = rw (h x, filter_after p q f h k xs) (same (q x) refl) where
    same : (b : Bool) → q x ≡ b → cond b (f x ∷ filter q xs) (filter q xs) ≡ cond b (x ∷ filter q xs) (filter q xs)
    same true e = rw (k x e) refl
    same false e = refl

  pub map_same : (f : X → X) → (xs : List X) → AllByRecursion (λ x. f x ≡ x) xs → map f xs ≡ xs
  map_same f [] h = refl
  map_same f (x ∷ xs) h = rw (h.0, map_same f xs h.1) refl

  -- ---- one filter in another

  pub filter_both : (p q : X → Bool) (xs : List X) → filter (λ x. p x && q x) xs ≡ filter q (filter p xs)
  filter_both p q [] = refl
  filter_both p q (x ∷ xs) =
      elim (p x) as (λ b. cond (b && q x) (x ∷ filter (λ x. p x && q x) xs) (filter (λ x. p x && q x) xs) ≡ filter q (cond b (x ∷ filter p xs) (filter p xs)))
      [ true ↦ rw (filter_both p q xs) refl | false ↦ filter_both p q xs ]

  pub filter_none : (p : X → Bool) (xs : List X) → AllByRecursion (λ x. p x ≡ false) xs → filter p xs ≡ []
  filter_none p [] a = refl
  filter_none p (x ∷ xs) a = rw a.0 (filter_none p xs a.1)

  pub filter_all : (p : X → Bool) (xs : List X) → AllByRecursion (λ x. p x ≡ true) xs → filter p xs ≡ xs
  filter_all p [] a = refl
  filter_all p (x ∷ xs) a = rw (a.0, filter_all p xs a.1) refl

  pub filter_same_test : (p q : X → Bool) → ((x : X) → p x ≡ q x) → (xs : List X) → filter p xs ≡ filter q xs
  filter_same_test p q h [] = refl
  filter_same_test p q h (x ∷ xs) = rw (h x, filter_same_test p q h xs) refl

  -- ---- facts of those that pass

  pub all_passing : (p : X → Bool) (P : X → Type 0) (xs : List X) → AllByRecursion (λ x. p x ≡ true → P x) xs → AllByRecursion P (filter p xs)
  all_passing p P [] a = tt
  all_passing p P (x ∷ xs) a = go (p x) refl (all_passing p P xs a.1) where
    go : (b : Bool) → p x ≡ b → AllByRecursion P (filter p xs) → AllByRecursion P (cond b (x ∷ filter p xs) (filter p xs))
    go true e rest = (a.0 e, rest)
    go false e rest = rest

  pub all_append : (P : X → Type 0) (xs ys : List X) → AllByRecursion P xs → AllByRecursion P ys → AllByRecursion P (xs ++ ys)
  all_append P [] ys a b = b
  all_append P (x ∷ xs) ys a b = (a.0, all_append P xs ys a.1 b)

  -- ---- the first that passes

  pub record IsFirst (p : X → Bool) (xs : List X) (x : X) : Type 0 where
    pub rest : List X
    pub filtered : filter p xs ≡ x ∷ rest
    pub passes : p x ≡ true
    pub among : In x xs

  pub first_is : (p : X → Bool) (xs : List X) (x : X) → find p xs ≡ Some x → IsFirst p xs x
  first_is p [] x e = cc
  first_is p (y ∷ ys) x e = go (p y) refl (first_is p ys x) e where
    go : (b : Bool) → p y ≡ b → (find p ys ≡ Some x → IsFirst p ys x) → cond b (Some y) (find p ys) ≡ Some x → IsFirst p (y ∷ ys) x
    go true on rest e =
        let same : y ≡ x = cc in
        record { rest = filter p ys; filtered = rw (on, same) refl; passes = rw (← same) on; among = inl (sym same) }
    go false off rest e =
        let r = rest e in
        record { rest = r.rest; filtered = rw off r.filtered; passes = r.passes; among = inr r.among }

  -- ---- lengths

  pub filter_shorter : (p : X → Bool) (xs : List X) → length (filter p xs) ≤ length xs
  filter_shorter p [] = omega arith
  filter_shorter p (x ∷ xs) = either (p x) (filter_shorter p xs) where
    either : (b : Bool) → length (filter p xs) ≤ length xs → length (cond b (x ∷ filter p xs) (filter p xs)) ≤ length (x ∷ xs)
    either true h = omega arith
    either false h = omega arith
