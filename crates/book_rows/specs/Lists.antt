-- Lists: members, counts, places and orders.
use Rattle.std.specs.Prelude.{◌&&◌, ◌++◌, ◌+◌, ◌==◌, ◌∷◌, ◌≡◌, ◌⊎◌, Bool, Err, List, None, Ok, Option, Result, Some, [], cond, false, nat_le, suc, true, zero, ℕ}
use Rattle.std.specs.List.{AllByRecursion, list_any}

-- x stands in the list
abbrev pub In : {X : Type 0} → X → List X → Type 0
In x [] = ⊥
In x (y ∷ ys) = (x ≡ y) ⊎ In x ys

-- a relation of each element and each later one
abbrev pub Pairs : {X : Type 0} → (X → X → Type 0) → List X → Type 0
Pairs R [] = Unit {0}
Pairs R (x ∷ xs) = AllByRecursion (R x) xs × Pairs R xs

-- how many pass the test
abbrev pub count : {X : Type 0} → (X → Bool) → List X → ℕ
count p [] = 0
count p (x ∷ xs) = cond (p x) (1 + count p xs) (count p xs)

-- the place of the first that passes the test, where the first of the list has place k
abbrev pub place_from : {X : Type 0} → ℕ → (X → Bool) → List X → Option ℕ
place_from k p [] = None
place_from k p (x ∷ xs) = cond (p x) (Some k) (place_from (k + 1) p xs)

-- the element at a place, if there is one
abbrev pub at_place : {X : Type 0} → ℕ → List X → Option X
at_place k [] = None
at_place zero (x ∷ xs) = Some x
at_place (suc k) (x ∷ xs) = at_place k xs

-- each element with its number, from n on
abbrev pub numbered : {X Y : Type 0} → (ℕ → X → Y) → ℕ → List X → List Y
numbered f n [] = []
numbered f n (x ∷ xs) = f n x ∷ numbered f (n + 1) xs

-- the lists that the elements give, one after another
abbrev pub gathered : {X Y : Type 0} → (X → List Y) → List X → List Y
gathered f [] = []
gathered f (x ∷ xs) = f x ++ gathered f xs

-- a number is one of the list
abbrev pub stands_in : List ℕ → ℕ → Bool
stands_in ns n = list_any (λ m. m == n) ns

abbrev pub is_empty : {X : Type 0} → List X → Bool
is_empty [] = true
is_empty (x ∷ xs) = false

-- the number before the first that is not less, in an ascending list
abbrev pub inserted : ℕ → List ℕ → List ℕ
inserted n [] = n ∷ []
inserted n (m ∷ ms) = cond (nat_le n m) (n ∷ m ∷ ms) (m ∷ inserted n ms)

-- the numbers of both lists, ascending where the second is
abbrev pub merged : List ℕ → List ℕ → List ℕ
merged [] ms = ms
merged (n ∷ ns) ms = inserted n (merged ns ms)

-- the numbers, ascending
abbrev pub ascending : List ℕ → List ℕ
ascending ns = merged ns []

abbrev pub same_numbers : List ℕ → List ℕ → Bool
same_numbers [] [] = true
same_numbers (n ∷ ns) (m ∷ ms) = (n == m) && same_numbers ns ms
same_numbers _ _ = false

-- each element and the next pass the test
abbrev pub list_links : {X : Type 0} → (X → X → Bool) → List X → Bool
list_links test [] = true
list_links test (x ∷ []) = true
list_links test (x ∷ y ∷ xs) = test x y && list_links test (y ∷ xs)

-- an error where there is one, else what the value gives
abbrev pub on_ok : {X Y E : Type 0} → Result X E → (X → Result Y E) → Result Y E
on_ok (Err why) f = Err why
on_ok (Ok x) f = f x

-- the first error of two checks
abbrev pub or_else : {X : Type 0} → Option X → Option X → Option X
or_else (Some why) rest = Some why
or_else None rest = rest
