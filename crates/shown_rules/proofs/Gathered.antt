-- Counts and tests of gathered lists.
use Rattle.std.proofs.Common.{Bool, List, [], ap, arith, cond, false, map, not, refl, sym, true, ℕ, ◌&&◌, ◌++◌, ◌+◌, ◌∙◌, ◌∷◌, ◌≡◌, ◌||◌}
use Rattle.std.specs.List.{list_all, list_any}
use Rattle.book_rows.specs.Lists.{count, gathered}
use Rattle.laws_chunks.proofs.Members.{count-append}

pub and_assoc : (a b c : Bool) → ((a && b) && c) ≡ (a && (b && c))
and_assoc true b c = refl
and_assoc false b c = refl

pub and_true : (a : Bool) → (a && true) ≡ a
and_true true = refl
and_true false = refl

pub and_false : (a : Bool) → (a && false) ≡ false
and_false true = refl
and_false false = refl

module _ {X : Type 0} where
  pub all_append : (p : X → Bool) (xs ys : List X) → list_all p (xs ++ ys) ≡ (list_all p xs && list_all p ys)
  all_append p [] ys = refl
  all_append p (x ∷ xs) ys = ap (λ b. p x && b) (all_append p xs ys) ∙ sym (and_assoc (p x) (list_all p xs) (list_all p ys))

  pub count_where : (p : X → Bool) (b : Bool) (xs : List X) → count (λ x. p x && b) xs ≡ cond b (count p xs) 0
  count_where p true xs = same xs where
    same : (ys : List X) → count (λ x. p x && true) ys ≡ count p ys
    same [] = refl
    same (y ∷ ys) = rw (and_true (p y), same ys) refl
  count_where p false xs = none xs where
    none : (ys : List X) → count (λ x. p x && false) ys ≡ 0
    none [] = refl
    none (y ∷ ys) = rw (and_false (p y)) (none ys)

  -- the negation of what some pass, under a premise
  pub none_under : (b : Bool) (p : X → Bool) (xs : List X) → list_all (λ x. not (b && p x)) xs ≡ not (b && list_any p xs)
  none_under true p [] = refl
  none_under false p [] = refl
  none_under b p (x ∷ xs) = rw (none_under b p xs) (both b (p x) (list_any p xs)) where
    both : (b c d : Bool) → (not (b && c) && not (b && d)) ≡ not (b && (c || d))
    both true true d = refl
    both true false d = refl
    both false c d = refl

module _ {X Y : Type 0} where
  pub all_map : (p : Y → Bool) (f : X → Y) (q : X → Bool) (xs : List X) → ((x : X) → p (f x) ≡ q x) → list_all p (map f xs) ≡ list_all q xs
  all_map p f q [] h = refl
  all_map p f q (x ∷ xs) h = rw (h x, all_map p f q xs h) refl

  pub all_gathered : (p : Y → Bool) (f : X → List Y) (q : X → Bool) (xs : List X) → ((x : X) → list_all p (f x) ≡ q x) → list_all p (gathered f xs) ≡ list_all q xs
  all_gathered p f q [] h = refl
  all_gathered p f q (x ∷ xs) h = all_append p (f x) (gathered f xs) ∙ rw (h x, all_gathered p f q xs h) refl

  pub count_gathered : (p : Y → Bool) (f : X → List Y) (q : X → Bool) (xs : List X) → ((x : X) → count p (f x) ≡ cond (q x) 1 0) → count p (gathered f xs) ≡ count q xs
  count_gathered p f q [] h = refl
  count_gathered p f q (x ∷ xs) h = count-append p (f x) (gathered f xs) ∙ (rw (h x, count_gathered p f q xs h) (one (q x) (count q xs))) where
    one : (b : Bool) (n : ℕ) → cond b 1 0 + n ≡ cond b (1 + n) n
    one true n = refl
    one false n = omega arith
