-- The row that a rule names: the least one that breaks it. Rows are counted from the first row of a table on.
use Rattle.std.specs.Prelude.{◌+◌, ◌∷◌, Bool, List, None, Option, Some, [], cond, min, not, ℕ}
use Rattle.std.specs.List.{list_any}
use Rattle.book_rows.specs.Lists.{place_from}

-- the first row that fails the test, where the first of the list is row k
abbrev pub first_failing : {X : Type 0} → ℕ → (X → Bool) → List X → Option ℕ
first_failing k test xs = place_from k (λ x. not (test x)) xs

-- the first row that passes it
abbrev pub first_passing : {X : Type 0} → ℕ → (X → Bool) → List X → Option ℕ
first_passing k test xs = place_from k test xs

-- the first row that clashes with a later one: the least of all rows that clash with another
abbrev pub first_clashing : {X : Type 0} → ℕ → (X → X → Bool) → List X → Option ℕ
first_clashing k clash [] = None
first_clashing k clash (x ∷ xs) = cond (list_any (clash x) xs) (Some k) (first_clashing (k + 1) clash xs)

-- row 0 where a test of the whole book fails
abbrev pub zero_unless : Bool → Option ℕ
zero_unless holds = cond holds None (Some 0)

abbrev pub lesser : Option ℕ → Option ℕ → Option ℕ
lesser None o = o
lesser (Some n) None = Some n
lesser (Some n) (Some m) = Some (min n m)

-- the least of the rows that the clauses of a rule name
abbrev pub least : List (Option ℕ) → Option ℕ
least [] = None
least (o ∷ os) = lesser o (least os)

-- ---- elements of which a row may have several

pub record Rowed (X : Type 0) : Type 0 where
  pub row : ℕ
  pub item : X

abbrev pub in_row : {X : Type 0} → ℕ → List X → List (Rowed X)
in_row k [] = []
in_row k (x ∷ xs) = record { row = k; item = x } ∷ in_row k xs

abbrev pub row_of_pair : {X : Type 0} → (X → X → Bool) → Rowed X → Rowed X → Option ℕ
row_of_pair clash x y = cond (clash x.item y.item) (Some (min x.row y.row)) None

abbrev pub least_with : {X : Type 0} → (X → X → Bool) → Rowed X → List (Rowed X) → Option ℕ
least_with clash x [] = None
least_with clash x (y ∷ ys) = lesser (row_of_pair clash x y) (least_with clash x ys)

-- the least row with an element that clashes with another; rows need not ascend
abbrev pub least_clashing : {X : Type 0} → (X → X → Bool) → List (Rowed X) → Option ℕ
least_clashing clash [] = None
least_clashing clash (x ∷ xs) = lesser (least_with clash x xs) (least_clashing clash xs)
