use Rattle.std.specs.Prelude.{ℕ, ℤ, ◌<◌, List, [], ◌∷◌, ◌+◌, ◌⊎◌, Bool, cond, find, nat_lt, Option, Some, None, IsSome, ⊤}
use Rattle.std.specs.List.{AllByRecursion}
use Rattle.std.specs.Option.{option_map}
use Rattle.std.specs.Ordering.{nat_cmp}
use Rattle.std.specs.BTreeMap.{is_at}
use Rattle.row_index.specs.Index.{In, Shows, row_at}

-- each row's number is below
abbrev pub AreBelow : {T : Type 0} → ℕ → List (ℕ × T) → Type 0
AreBelow n es = (s : ℕ) → IsSome (row_at es s) → s < n

-- the row of that number changed
abbrev pub changed_at : {T : Type 0} → ℕ → (T → T) → List (ℕ × T) → List (ℕ × T)
changed_at n f [] = []
changed_at n f (e ∷ es) = cond (is_at (nat_cmp n) e.0) ((e.0, f e.1) ∷ es) (e ∷ changed_at n f es)

-- a row that passes is changed
abbrev pub settled : {T : Type 0} → (T → Bool) → (T → T) → T → T
settled t f r = cond (t r) (f r) r

-- and keeps its number
abbrev pub entry_settled : {T : Type 0} → (T → Bool) → (T → T) → ℕ × T → ℕ × T
entry_settled t f e = (e.0, settled t f e.1)

-- the one of the lower rank, and the earlier of two that have one rank
abbrev pub lower : {T : Type 0} → (T → ℕ) → T → Option T → T
lower rank r None = r
lower rank r (Some q) = cond (nat_lt (rank q) (rank r)) q r

-- the row of the least rank among those that pass
abbrev pub least_by : {T : Type 0} → (T → ℕ) → (T → Bool) → List T → Option T
least_by rank t [] = None
least_by rank t (r ∷ rs) = cond (t r) (Some (lower rank r (least_by rank t rs))) (least_by rank t rs)

-- no key that is not one of the row's is one of the other's
abbrev pub HasNoNewKeys : List (ℕ × ℤ) → List (ℕ × ℤ) → Type 0
HasNoNewKeys before after = (k : ℕ × ℤ) → In k after → In k before

-- the row, where there is one, and then the others
abbrev pub with_row : {T : Type 0} → Option T → List T → List T
with_row None rs = rs
with_row (Some r) rs = r ∷ rs

-- the rows of these numbers, in turn
abbrev pub rows_of : {T : Type 0} → List (ℕ × T) → List ℕ → List T
rows_of es [] = []
rows_of es (n ∷ ns) = with_row (row_at es n) (rows_of es ns)

-- the first row that passes is changed
abbrev pub changed_first : {T : Type 0} → (T → Bool) → (T → T) → List T → List T
changed_first t f [] = []
changed_first t f (r ∷ rs) = cond (t r) (f r ∷ rs) (r ∷ changed_first t f rs)

-- each new key is one of these
abbrev pub BringsOnly : List (ℕ × ℤ) → List (ℕ × ℤ) → List (ℕ × ℤ) → Type 0
BringsOnly before after brought = (k : ℕ × ℤ) → In k after → In k before ⊎ In k brought

-- the changes in turn, each of the first row that passes
abbrev pub updated : {U T : Type 0} → (U → T → Bool) → (U → T → T) → List U → List T → List T
updated passes after [] rs = rs
updated passes after (u ∷ us) rs = updated passes after us (changed_first (passes u) (after u) rs)

abbrev pub with_number : {U : Type 0} → Option ℕ → U → List (ℕ × U) → List (ℕ × U)
with_number None u ps = ps
with_number (Some n) u ps = (n, u) ∷ ps

-- the number of the first entry that passes
abbrev pub number_of_first : {T : Type 0} → (T → Bool) → List (ℕ × T) → Option ℕ
number_of_first t es = option_map (λ e. e.0) (find (λ e. t e.1) es)

-- each change with the number of the first row that passes, where there is one
abbrev pub placed : {U T : Type 0} → (U → T → Bool) → List (ℕ × T) → List U → List (ℕ × U)
placed passes es [] = []
placed passes es (u ∷ us) = with_number (number_of_first (passes u) es) u (placed passes es us)

-- the changes in turn, each of the row of its number
abbrev pub changed_each : {U T : Type 0} → (U → T → T) → List (ℕ × U) → List (ℕ × T) → List (ℕ × T)
changed_each after [] es = es
changed_each after (p ∷ ps) es = changed_each after ps (changed_at p.0 (after p.1) es)

-- the keys that each change may bring stand in the index with its number
abbrev pub AreShown : {U : Type 0} → (U → List (ℕ × ℤ)) → List (((ℕ × ℤ) × ℕ) × ⊤) → List (ℕ × U) → Type 0
AreShown keys ks ps = AllByRecursion (λ p. Shows (keys p.1) p.0 ks) ps

-- rows under numbers from n on
abbrev pub numbered_from : {T : Type 0} → ℕ → List T → List (ℕ × T)
numbered_from n [] = []
numbered_from n (r ∷ rs) = (n, r) ∷ numbered_from (n + 1) rs
