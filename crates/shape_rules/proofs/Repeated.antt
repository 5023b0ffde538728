-- The walk over ids from the end, of which a row may have several.
use Rattle.std.proofs.Common.{Bool, List, None, Option, Some, [], ap, arith, false, inl, inr, min, refl, sym, true, ℕ, ◌++◌, ◌∙◌, ◌∷◌, ◌≡◌, nat_lt}
use Rattle.std.proofs.lemmas.Bool.{cases_Bool}
use Rattle.std.proofs.lemmas.Bool.Decides.{nat_tests}
use Rattle.std.proofs.lemmas.List.{append-nil, append_assoc}
use Rattle.std.specs.Option.{option_map}
use Rattle.row_table.specs.Table.{least_by, lower}
use Rattle.laws_unsound.specs.Rows.{Rowed, least_clashing, least_with, lesser, row_of_pair}

-- ---- the least row of two

min_swapped : (n m : ℕ) → min n m ≡ min m n
min_swapped n m = grind arith

min_moved : (n m k : ℕ) → min n (min m k) ≡ min m (min n k)
min_moved n m k = grind arith

lesser_moved : (a b c : Option ℕ) → lesser a (lesser b c) ≡ lesser b (lesser a c)
lesser_moved None None c = refl
lesser_moved None (Some m) c = refl
lesser_moved (Some n) None c = refl
lesser_moved (Some n) (Some m) None = ap (λ (k : ℕ). Some k) (min_swapped n m)
lesser_moved (Some n) (Some m) (Some k) = ap (λ (k : ℕ). Some k) (min_moved n m k)

low : (n y q : ℕ) → nat_lt q y ≡ true → min n q ≡ min (min n y) (min n q)
low n y q lt = grind (arith, nat_tests)

high : (n y q : ℕ) → nat_lt q y ≡ false → min n y ≡ min (min n y) (min n q)
high n y q ge = grind (arith, nat_tests)

module _ {X : Type 0} (clash : X → X → Bool) where
  with_joined : (x : Rowed X) (ys : List (Rowed X)) (y : Rowed X) → least_with clash x (ys ++ y ∷ []) ≡ lesser (row_of_pair clash x y) (least_with clash x ys)
  with_joined x [] y = refl
  with_joined x (z ∷ ys) y = ap (λ (o : Option ℕ). lesser (row_of_pair clash x z) o) (with_joined x ys y) ∙ lesser_moved (row_of_pair clash x z) (row_of_pair clash x y) (least_with clash x ys)

  -- ---- what a table answers of the least row

  pub least_is : (x : Rowed X) (ys : List (Rowed X)) → option_map (λ e. min x.row e.row) (least_by (λ e. e.row) (λ y. clash x.item y.item) ys) ≡ least_with clash x ys
  least_is x [] = refl
  least_is x (y ∷ ys) = elim (cases_Bool (clash x.item y.item)) [
    | inl on ↦ rw on (of (least_by (λ e. e.row) (λ y. clash x.item y.item) ys) (least_is x ys))
    | inr off ↦ rw off (least_is x ys)
  ] where
    of : (o : Option (Rowed X)) → option_map (λ e. min x.row e.row) o ≡ least_with clash x ys → Some (min x.row (lower (λ e. e.row) y o).row) ≡ lesser (Some (min x.row y.row)) (least_with clash x ys)
    of None e = rw (← e) refl
    of (Some q) e = rw (← e) (elim (cases_Bool (nat_lt q.row y.row)) [ inl lt ↦ rw lt (ap (λ (k : ℕ). Some k) (low x.row y.row q.row lt)) | inr ge ↦ rw ge (ap (λ (k : ℕ). Some k) (high x.row y.row q.row ge)) ])

  -- ---- the walk

  pub record IsGathered (all left taken : List (Rowed X)) (found : Option ℕ) : Type 0 where
    pub behind : List (Rowed X)
    pub all_is : all ≡ left ++ behind
    pub taken_is : (x : Rowed X) → least_with clash x taken ≡ least_with clash x behind
    pub found_is : found ≡ least_clashing clash behind

  pub begun : (all : List (Rowed X)) → IsGathered all all [] None
  begun all = record { behind = []; all_is = sym (append-nil all); taken_is = λ x. refl; found_is = refl }

  pub whole : (all taken : List (Rowed X)) (found : Option ℕ) → IsGathered all [] taken found → found ≡ least_clashing clash all
  whole all taken found w = w.found_is ∙ ap (λ (xs : List (Rowed X)). least_clashing clash xs) (sym w.all_is)

  pub stepped : (all left others taken after : List (Rowed X)) (entry : Rowed X) (found next : Option ℕ) → left ≡ others ++ entry ∷ [] → after ≡ taken ++ entry ∷ [] → next ≡ lesser (least_with clash entry taken) found → IsGathered all left taken found → IsGathered all others after next
  stepped all left others taken after entry found next left_is after_is next_is w = record {
    behind = entry ∷ w.behind;
    all_is = w.all_is ∙ ap (λ (xs : List (Rowed X)). xs ++ w.behind) left_is ∙ append_assoc others (entry ∷ []) w.behind;
    taken_is = λ x. ap (λ (xs : List (Rowed X)). least_with clash x xs) after_is ∙ with_joined x taken entry ∙ ap (λ (o : Option ℕ). lesser (row_of_pair clash x entry) o) (w.taken_is x);
    found_is = next_is ∙ ap (λ (o : Option ℕ). lesser o found) (w.taken_is entry) ∙ ap (λ (o : Option ℕ). lesser (least_with clash entry w.behind) o) w.found_is;
  }
