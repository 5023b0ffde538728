-- A list has one order by a test under which no two elements tie.
use Rattle.std.proofs.Common.{◌≡◌, ℕ, ◌+◌, ◌<◌, ◌≤◌, List, [], ◌∷◌, Bool, true, false, cond, length, refl, ap, sym, subst, ◌∙◌, arith, zero, suc, add-one, ◌&&◌}
use Rattle.std.specs.List.{AllByRecursion, sum_by, All, list_all}
use Rattle.std.specs.List.Sorted.{IsPermutation, IsSortedBy}
use Rattle.std.specs.Cmp.{IsStrictWeakOrder}
use Rattle.std.proofs.lemmas.List.Sorted.{sum_by-IsPermutation, sorted_far}
use Rattle.std.proofs.lemmas.List.Elements.{recursion_from_All}
use Rattle.std.proofs.lemmas.List.Sums.{sum_by-cons}
use Rattle.command_forms.specs.Sorted.{place, ordered, IsExact}

false_from : (b : Bool) → (b ≡ true → ⊥) → b ≡ false
false_from true h = absurd (h refl)
false_from false h = refl

-- each element isn't less than those before it
abbrev Ascends : {X : Type 0} → (X → X → Bool) → List X → Type 0
Ascends less [] = Unit {0}
Ascends less (x ∷ xs) = AllByRecursion (λ y. less y x ≡ false) xs × Ascends less xs

weaker : {X : Type 0} (P Q : X → Type 0) → ((x : X) → P x → Q x) → (xs : List X) → AllByRecursion P xs → AllByRecursion Q xs
weaker P Q f [] h = tt
weaker P Q f (x ∷ xs) h = (f x h.0, weaker P Q f xs h.1)

place_all : {X : Type 0} (less : X → X → Bool) (P : X → Type 0) (x : X) (ys : List X) → P x → AllByRecursion P ys → AllByRecursion P (place less x ys)
place_all less P x [] p h = (p, tt)
place_all less P x (y ∷ ys) p h =
    elim (less y x) as (λ b. AllByRecursion P (cond b (y ∷ place less x ys) (x ∷ y ∷ ys))) [
      | true ↦ (h.0, place_all less P x ys p h.1)
      | false ↦ (p, h)
    ]

module _ {X : Type 0} (less : X → X → Bool) (o : IsStrictWeakOrder less) where
  place_by : (x y : X) (ys : List X) (b : Bool) → less y x ≡ b → AllByRecursion (λ z. less z y ≡ false) ys → Ascends less ys → Ascends less (place less x ys) → Ascends less (cond b (y ∷ place less x ys) (x ∷ y ∷ ys))
  place_by x y ys true e all up more = (place_all less (λ z. less z y ≡ false) x ys (o.one_way y x e) all, more)
  place_by x y ys false e all up more = ((e, weaker (λ z. less z y ≡ false) (λ z. less z x ≡ false) (λ z h. o.chain z y x h e) ys all), (all, up))

  place_ascends : (x : X) (ys : List X) → Ascends less ys → Ascends less (place less x ys)
  place_ascends x [] h = (tt, tt)
  place_ascends x (y ∷ ys) h = place_by x y ys (less y x) refl h.0 h.1 (place_ascends x ys h.1)

  ordered_ascends : (xs : List X) → Ascends less (ordered less xs)
  ordered_ascends [] = tt
  ordered_ascends (x ∷ xs) = place_ascends x (ordered less xs) (ordered_ascends xs)

  never_itself : (x : X) → less x x ≡ false
  never_itself x = false_from (less x x) (λ h. let g : less x x ≡ false = o.one_way x x h in cc)

  none_less : (y : X) (ys : List X) → AllByRecursion (λ z. less z y ≡ false) ys → sum_by (λ z. cond (less z y) 1 0) ys ≡ 0
  none_less y [] h = refl
  none_less y (z ∷ zs) h = sum_by-cons (λ z. cond (less z y) 1 0) z zs ∙ rw (h.0) (ap (λ n. 0 + n) (none_less y zs h.1))

  head_not_less : (x y : X) (xs ys : List X) → AllByRecursion (λ z. less z y ≡ false) ys → ((f : X → ℕ) → sum_by f (x ∷ xs) ≡ sum_by f (y ∷ ys)) → less x y ≡ false
  head_not_less x y xs ys all same = false_from (less x y) (λ h.
      let e : cond (less x y) 1 0 + sum_by (λ z. cond (less z y) 1 0) xs ≡ cond (less y y) 1 0 + sum_by (λ z. cond (less z y) 1 0) ys = sym (sum_by-cons (λ z. cond (less z y) 1 0) x xs) ∙ same (λ z. cond (less z y) 1 0) ∙ sum_by-cons (λ z. cond (less z y) 1 0) y ys in
      let e2 : 1 + sum_by (λ z. cond (less z y) 1 0) xs ≡ 0 + 0 = rw (h, never_itself y, none_less y ys all) at e in
      omega arith)

  pub one_order : IsExact less → (xs ys : List X) → Ascends less xs → Ascends less ys → ((f : X → ℕ) → sum_by f xs ≡ sum_by f ys) → xs ≡ ys
  one_order exact [] [] up vp same = refl
  one_order exact [] (y ∷ ys) up vp same = let e : 0 ≡ 1 + sum_by (λ _. 1) ys = same (λ _. 1) ∙ sum_by-cons (λ _. 1) y ys in absurd (omega arith)
  one_order exact (x ∷ xs) [] up vp same = let e : 1 + sum_by (λ _. 1) xs ≡ 0 = sym (sum_by-cons (λ _. 1) x xs) ∙ same (λ _. 1) in absurd (omega arith)
  one_order exact (x ∷ xs) (y ∷ ys) up vp same =
      let head : x ≡ y = exact x y (head_not_less x y xs ys vp.0 same) (head_not_less y x ys xs up.0 (λ f. sym (same f))) in
      let tail : xs ≡ ys = one_order exact xs ys up.1 vp.1 (λ f. let e : f x + sum_by f xs ≡ f y + sum_by f ys = sym (sum_by-cons f x xs) ∙ same f ∙ sum_by-cons f y ys in let g : f x ≡ f y = ap f head in omega arith) in
      cc

  sum_by-place : (f : X → ℕ) (x : X) (ys : List X) → sum_by f (place less x ys) ≡ f x + sum_by f ys
  sum_by-place f x [] = sum_by-cons f x []
  sum_by-place f x (y ∷ ys) =
      elim (less y x) as (λ b. sum_by f (cond b (y ∷ place less x ys) (x ∷ y ∷ ys)) ≡ f x + sum_by f (y ∷ ys)) [
        | true ↦ omega (arith, sum_by-place f x ys, sum_by-cons f y (place less x ys), sum_by-cons f y ys)
        | false ↦ sum_by-cons f x (y ∷ ys)
      ]

  sum_by-ordered : (f : X → ℕ) (xs : List X) → sum_by f (ordered less xs) ≡ sum_by f xs
  sum_by-ordered f [] = refl
  sum_by-ordered f (x ∷ xs) = sum_by-place f x (ordered less xs) ∙ ap (λ n. f x + n) (sum_by-ordered f xs) ∙ sym (sum_by-cons f x xs)

  ascends : (xs : List X) → IsSortedBy less xs → Ascends less xs
  ascends [] h = tt
  ascends (x ∷ xs) h = (
    recursion_from_All (λ y. less y x ≡ false) xs (λ i d lt. sorted_far less o (x ∷ xs) h 0 (suc i) d (omega arith) (omega arith)),
    ascends xs (λ k d low high. rw add-one (rw add-one at (h (suc k) d (omega arith) (omega arith)))),
  )

  pub ordered_is : IsExact less → (xs ys : List X) → IsPermutation xs ys → IsSortedBy less ys → ys ≡ ordered less xs
  ordered_is exact xs ys p s =
      one_order exact ys (ordered less xs) (ascends ys s) (ordered_ascends xs)
      (λ f. sum_by-IsPermutation f xs ys p ∙ sym (sum_by-ordered f xs))

swap_and : (a b c : Bool) → (b && (a && c)) ≡ (a && (b && c))
swap_and true b c = refl
swap_and false true c = refl
swap_and false false c = refl

list_all-place : {X : Type 0} (less : X → X → Bool) (p : X → Bool) (x : X) (ys : List X) → list_all p (place less x ys) ≡ (p x && list_all p ys)
list_all-place less p x [] = refl
list_all-place less p x (y ∷ ys) =
    elim (less y x) as (λ b. list_all p (cond b (y ∷ place less x ys) (x ∷ y ∷ ys)) ≡ (p x && (p y && list_all p ys))) [
      | true ↦ ap (λ t. p y && t) (list_all-place less p x ys) ∙ swap_and (p x) (p y) (list_all p ys)
      | false ↦ refl
    ]

-- what holds of each element holds of each in order
pub list_all-ordered : {X : Type 0} (less : X → X → Bool) (p : X → Bool) (xs : List X) → list_all p (ordered less xs) ≡ list_all p xs
list_all-ordered less p [] = refl
list_all-ordered less p (x ∷ xs) = list_all-place less p x (ordered less xs) ∙ ap (λ t. p x && t) (list_all-ordered less p xs)
