-- Pairs of those that pass a test are pairs of which both pass it.
use Rattle.std.proofs.Common.{Bool, List, [], cond, false, filter, refl, true, ◌&&◌, ◌∷◌, ◌≡◌}
use Rattle.std.specs.List.{AllByRecursion}
use Rattle.book_rows.specs.Lists.{Pairs}
use Rattle.laws_chunks.proofs.Members.{In-all, all_from_In}

module _ {X : Type 0} (p : X → Bool) (clash : X → X → Bool) where
  among : (x : X) (xs : List X) → AllByRecursion (λ y. clash x y ≡ false) (filter p xs) → AllByRecursion (λ y. (p y && clash x y) ≡ false) xs
  among x [] a = tt
  among x (y ∷ ys) a = by (λ r. among x ys r) (p y) refl a where
    by : (AllByRecursion (λ y. clash x y ≡ false) (filter p ys) → AllByRecursion (λ y. (p y && clash x y) ≡ false) ys) → (b : Bool) → p y ≡ b → AllByRecursion (λ y. clash x y ≡ false) (cond b (y ∷ filter p ys) (filter p ys)) → AllByRecursion (λ y. (p y && clash x y) ≡ false) (y ∷ ys)
    by rest true e a = (rw e a.0, rest a.1)
    by rest false e a = (rw e refl, rest a)

  of_among : (x : X) (xs : List X) → AllByRecursion (λ y. (p y && clash x y) ≡ false) xs → AllByRecursion (λ y. clash x y ≡ false) (filter p xs)
  of_among x [] a = tt
  of_among x (y ∷ ys) a = by (of_among x ys a.1) (p y) refl (let e : (p y && clash x y) ≡ false = a.0 in e) where
    by : AllByRecursion (λ y. clash x y ≡ false) (filter p ys) → (b : Bool) → p y ≡ b → (p y && clash x y) ≡ false → AllByRecursion (λ y. clash x y ≡ false) (cond b (y ∷ filter p ys) (filter p ys))
    by rest true e off = ((rw e at off), rest)
    by rest false e off = rest

  none_of_off : (x : X) (xs : List X) → p x ≡ false → AllByRecursion (λ y. (p x && (p y && clash x y)) ≡ false) xs
  none_of_off x xs off = all_from_In (λ y. (p x && (p y && clash x y)) ≡ false) xs (λ y i. rw off refl)

  with_on : (x : X) (xs : List X) → p x ≡ true → AllByRecursion (λ y. (p y && clash x y) ≡ false) xs → AllByRecursion (λ y. (p x && (p y && clash x y)) ≡ false) xs
  with_on x xs on a = all_from_In (λ y. (p x && (p y && clash x y)) ≡ false) xs (λ y i. rw on (In-all (λ y. (p y && clash x y) ≡ false) y xs i a))

  without_on : (x : X) (xs : List X) → p x ≡ true → AllByRecursion (λ y. (p x && (p y && clash x y)) ≡ false) xs → AllByRecursion (λ y. (p y && clash x y) ≡ false) xs
  without_on x xs on a = all_from_In (λ y. (p y && clash x y) ≡ false) xs (λ y i. (let e = In-all (λ y. (p x && (p y && clash x y)) ≡ false) y xs i a in (rw on at e)))

  pub pairs_passing : (xs : List X) → Pairs (λ x y. clash x y ≡ false) (filter p xs) → Pairs (λ x y. (p x && (p y && clash x y)) ≡ false) xs
  pairs_passing [] a = tt
  pairs_passing (x ∷ xs) a = by (λ r. pairs_passing xs r) (p x) refl a where
    by : (Pairs (λ x y. clash x y ≡ false) (filter p xs) → Pairs (λ x y. (p x && (p y && clash x y)) ≡ false) xs) → (b : Bool) → p x ≡ b → Pairs (λ x y. clash x y ≡ false) (cond b (x ∷ filter p xs) (filter p xs)) → Pairs (λ x y. (p x && (p y && clash x y)) ≡ false) (x ∷ xs)
    by rest true e a = (with_on x xs e (among x xs a.0), rest a.1)
    by rest false e a = (none_of_off x xs e, rest a)

  pub passing_pairs : (xs : List X) → Pairs (λ x y. (p x && (p y && clash x y)) ≡ false) xs → Pairs (λ x y. clash x y ≡ false) (filter p xs)
  passing_pairs [] a = tt
  passing_pairs (x ∷ xs) a = by (passing_pairs xs a.1) (p x) refl where
    by : Pairs (λ x y. clash x y ≡ false) (filter p xs) → (b : Bool) → p x ≡ b → Pairs (λ x y. clash x y ≡ false) (cond b (x ∷ filter p xs) (filter p xs))
    by rest true e = (of_among x xs (without_on x xs e a.0), rest)
    by rest false e = rest
