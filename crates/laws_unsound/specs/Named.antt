-- What it means that a row is named.
use Rattle.std.specs.Prelude.{◌+◌, ◌<◌, ◌≡◌, ◌≤◌, ◌⊎◌, Bool, List, None, Option, Some, false, true, ℕ}
use Rattle.std.specs.List.{list_all}
use Rattle.book_rows.specs.Lists.{Pairs, at_place}
use Rattle.laws_unsound.specs.Rows.{Rowed, first_clashing, first_failing}

-- it breaks the rule, and no lower row does
pub record IsLeast (Breaks : ℕ → Type 0) (n : ℕ) : Type 0 where
  pub breaks : Breaks n
  pub least : (m : ℕ) → Breaks m → n ≤ m

-- the row that is named is the least that breaks the rule; where none is named, none does
pub record Names (o : Option ℕ) (Breaks : ℕ → Type 0) : Type 0 where
  pub found : (n : ℕ) → o ≡ Some n → IsLeast Breaks n
  pub none : o ≡ None → (n : ℕ) → Breaks n → ⊥

-- no row is named exactly where the rule holds
pub record NoneWhere (o : Option ℕ) (Holds : Type 0) : Type 0 where
  pub sound : o ≡ None → Holds
  pub complete : Holds → o ≡ None

-- both: the rule's row
pub record IsRuleRow (o : Option ℕ) (Holds : Type 0) (Breaks : ℕ → Type 0) : Type 0 where
  pub where_holds : NoneWhere o Holds
  pub names : Names o Breaks

-- ---- which rows break a clause

-- row 0, where the whole book has the property
abbrev pub IsBookRow : Type 0 → ℕ → Type 0
IsBookRow P n = (n ≡ 0) × P

-- the row of an element with the property, where the first of the list is row k
pub record IsRowOf {X : Type 0} (k : ℕ) (P : X → Type 0) (xs : List X) (n : ℕ) : Type 0 where
  pub place : ℕ
  pub item : X
  pub at : at_place place xs ≡ Some item
  pub has_it : P item
  pub row_is : n ≡ k + place

-- the row of either element of a pair that stands so in this order
pub record IsRowOfPair {X : Type 0} (k : ℕ) (R : X → X → Type 0) (xs : List X) (n : ℕ) : Type 0 where
  pub first : ℕ
  pub second : ℕ
  pub one : X
  pub other : X
  pub at_first : at_place first xs ≡ Some one
  pub at_second : at_place second xs ≡ Some other
  pub in_order : first < second
  pub stand_so : R one other
  pub row_is : (n ≡ k + first) ⊎ (n ≡ k + second)

-- the row of either element of such a pair, where each has its row with it
pub record IsRowOfRowed {X : Type 0} (R : X → X → Type 0) (xs : List (Rowed X)) (n : ℕ) : Type 0 where
  pub first : ℕ
  pub second : ℕ
  pub one : Rowed X
  pub other : Rowed X
  pub at_first : at_place first xs ≡ Some one
  pub at_second : at_place second xs ≡ Some other
  pub in_order : first < second
  pub stand_so : R one.item other.item
  pub row_is : (n ≡ one.row) ⊎ (n ≡ other.row)

-- ---- laws of the two ways in which most clauses name a row

abbrev pub FirstFailingIsLeast : Type 0 → Type 0
FirstFailingIsLeast X = (k : ℕ) (test : X → Bool) (xs : List X) → IsRuleRow (first_failing k test xs) (list_all test xs ≡ true) (IsRowOf k (λ x. test x ≡ false) xs)

abbrev pub FirstClashingIsLeast : Type 0 → Type 0
FirstClashingIsLeast X = (k : ℕ) (clash : X → X → Bool) (xs : List X) → IsRuleRow (first_clashing k clash xs) (Pairs (λ x y. clash x y ≡ false) xs) (IsRowOfPair k (λ x y. clash x y ≡ true) xs)
