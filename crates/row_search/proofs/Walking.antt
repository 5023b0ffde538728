-- Walks over rows from the end: what the rows behind say of the rows so far.
use Rattle.std.proofs.Common.{Bool, List, None, Option, Some, [], ap, arith, cond, false, inl, inr, length, map, not, refl, subst, sym, true, ℕ, ◌++◌, ◌+◌, ◌∙◌, ◌∷◌, ◌≡◌, ◌||◌}
use Rattle.std.proofs.lemmas.Bool.{cases_Bool}
use Rattle.std.proofs.lemmas.List.{append-nil, append_assoc, length-append}
use Rattle.std.specs.List.{list_any}
use Rattle.std.specs.Option.{option_map}
use Rattle.std.specs.Prelude.{find, is_none}
use Rattle.laws_unsound.specs.Rows.{first_clashing, first_failing, first_passing}
use Rattle.laws_unsound.specs.ShapeRows.{no_clash}

-- the rows behind those that are left were seen, and the row so far is the first of them that clashes with a later one
pub record IsWalked {T : Type 0} (clash : T → T → Bool) (before : ℕ) (all left : List T) (seen : T → Bool) (found : Option ℕ) : Type 0 where
  pub behind : List T
  pub all_is : all ≡ left ++ behind
  pub seen_is : (x : T) → seen x ≡ list_any (clash x) behind
  pub found_is : found ≡ first_clashing (before + length left) clash behind

pub any_joined : {T : Type 0} (p : T → Bool) (xs : List T) (y : T) → list_any p (xs ++ y ∷ []) ≡ (p y || list_any p xs)
any_joined p [] y = refl
any_joined p (x ∷ xs) y = elim (cases_Bool (p x)) [
  | inl on ↦ elim (cases_Bool (p y)) [ inl o ↦ rw (on, o) refl | inr o ↦ rw (on, o) refl ]
  | inr off ↦ rw off (any_joined p xs y)
]

module _ {T : Type 0} (clash : T → T → Bool) (before : ℕ) (all : List T) where
  pub begun : (seen : T → Bool) → ((x : T) → seen x ≡ false) → IsWalked clash before all all seen None
  begun seen none = record { behind = []; all_is = sym (append-nil all); seen_is = none; found_is = refl }

  pub whole : (left : List T) (seen : T → Bool) (found : Option ℕ) → length left ≡ 0 → IsWalked clash before all left seen found → found ≡ first_clashing before clash all
  whole left seen found at w =
      let e : left ≡ [] = empty left at in
      w.found_is ∙ (ap (λ (n : ℕ). first_clashing n clash w.behind) (sums (length left) at) ∙ ap (λ (xs : List T). first_clashing before clash xs) (sym (w.all_is ∙ ap (λ (xs : List T). xs ++ w.behind) e))) where
        sums : (n : ℕ) → n ≡ 0 → before + n ≡ before
        sums n z = omega arith

        empty : (xs : List T) → length xs ≡ 0 → xs ≡ []
        empty [] z = refl
        empty (x ∷ xs) z = absurd (omega (arith, z))

  module _ (left others : List T) (row : T) (seen after : T → Bool) (found next : Option ℕ) (left_is : left ≡ others ++ row ∷ []) (after_is : (x : T) → after x ≡ (clash x row || seen x)) (w : IsWalked clash before all left seen found) where
    one_more : next ≡ first_clashing (before + length others) clash (row ∷ w.behind) → IsWalked clash before all others after next
    one_more is = record {
      behind = row ∷ w.behind;
      all_is = w.all_is ∙ ap (λ (xs : List T). xs ++ w.behind) left_is ∙ append_assoc others (row ∷ []) w.behind;
      seen_is = λ x. after_is x ∙ ap (λ (b : Bool). clash x row || b) (w.seen_is x);
      found_is = is;
    }

    -- the row clashes with one behind it
    pub stepped_on : seen row ≡ true → next ≡ Some (before + length others) → IsWalked clash before all others after next
    stepped_on on is = let here : list_any (clash row) w.behind ≡ true = sym (w.seen_is row) ∙ on in one_more (rw here is)

    -- it doesn't
    pub stepped_off : seen row ≡ false → next ≡ found → IsWalked clash before all others after next
    stepped_off off is =
        let none : list_any (clash row) w.behind ≡ false = sym (w.seen_is row) ∙ off in
        let one : length left ≡ length others + 1 = ap (λ (xs : List T). length xs) left_is ∙ length-append others (row ∷ []) in
        one_more (rw none (is ∙ (w.found_is ∙ ap (λ (n : ℕ). first_clashing n clash w.behind) (sums (length left) (length others) one)))) where
          sums : (n m : ℕ) → n ≡ m + 1 → before + n ≡ before + m + 1
          sums n m e = omega arith

-- ---- rows that are lent

pub any_map : {X T : Type 0} (p : T → Bool) (f : X → T) (xs : List X) → list_any p (map f xs) ≡ list_any (λ x. p (f x)) xs
any_map p f [] = refl
any_map p f (x ∷ xs) = ap (λ (b : Bool). p (f x) || b) (any_map p f xs)

pub find_map : {X T : Type 0} (p : T → Bool) (f : X → T) (xs : List X) → find p (map f xs) ≡ option_map f (find (λ x. p (f x)) xs)
find_map p f [] = refl
find_map p f (x ∷ xs) = elim (cases_Bool (p (f x))) [ inl on ↦ rw on refl | inr off ↦ rw off (find_map p f xs) ]

pub clashing_map : {X T : Type 0} (before : ℕ) (clash : T → T → Bool) (f : X → T) (xs : List X) → first_clashing before clash (map f xs) ≡ first_clashing before (λ x y. clash (f x) (f y)) xs
clashing_map before clash f [] = refl
clashing_map before clash f (x ∷ xs) = rw (any_map (clash (f x)) f xs, clashing_map (before + 1) clash f xs) refl

not_twice : (b : Bool) → not (not b) ≡ b
not_twice true = refl
not_twice false = refl

-- what fails to be apart from something is with it
pub failing_map : {X T : Type 0} (before : ℕ) (p : T → Bool) (f : X → T) (xs : List X) → first_failing before (λ x. not (p x)) (map f xs) ≡ first_passing before (λ x. p (f x)) xs
failing_map before p f [] = refl
failing_map before p f (x ∷ xs) = rw (not_twice (p (f x)), failing_map (before + 1) p f xs) refl

-- whether no two clash is whether none is the first to
pub none_clash : {T : Type 0} (before : ℕ) (clash : T → T → Bool) (xs : List T) → no_clash clash xs ≡ is_none (first_clashing before clash xs)
none_clash before clash [] = refl
none_clash before clash (x ∷ xs) = elim (cases_Bool (list_any (clash x) xs)) [ inl on ↦ rw on refl | inr off ↦ rw off (none_clash (before + 1) clash xs) ]

-- ---- tests that answer alike

pub any_same : {X : Type 0} (p q : X → Bool) (xs : List X) → ((x : X) → p x ≡ q x) → list_any p xs ≡ list_any q xs
any_same p q [] same = refl
any_same p q (x ∷ xs) same = rw (same x, any_same p q xs same) refl

pub failing_same : {X : Type 0} (k : ℕ) (p q : X → Bool) (xs : List X) → ((x : X) → p x ≡ q x) → first_failing k p xs ≡ first_failing k q xs
failing_same k p q [] same = refl
failing_same k p q (x ∷ xs) same = rw (same x, failing_same (k + 1) p q xs same) refl

pub clashing_same : {X : Type 0} (k : ℕ) (p q : X → X → Bool) (xs : List X) → ((x y : X) → p x y ≡ q x y) → first_clashing k p xs ≡ first_clashing k q xs
clashing_same k p q [] same = refl
clashing_same k p q (x ∷ xs) same = rw (any_same (p x) (q x) xs (same x), clashing_same (k + 1) p q xs same) refl
