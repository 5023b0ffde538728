-- What is granted to a task, done to the rows one by one.
use Rattle.std.specs.Prelude.{◌++◌, ◌≡◌, ◌∷◌, List, drop, false, filter, map, take, ℕ}
use Rattle.std.specs.List.{AllByRecursion}
use Rattle.book_rows.specs.Grant.{joined_in, revoked_in}
use Rattle.book_rows.specs.Lists.{stands_in}
use Rattle.book_rows.specs.Locks.{HasDistinctNumbers, same_number}
use Rattle.book_rows.specs.declared.rows.PosseRow.{PosseRow}

-- locks of distinct numbers, none of which is a number of these
abbrev pub AreNew : List PosseRow → List PosseRow → Type 0
AreNew rows ps = HasDistinctNumbers rows × AllByRecursion (λ p. AllByRecursion (λ q. same_number p q ≡ false) rows) ps

-- the lock after these are revoked and the task joins those
abbrev pub granted_row : List ℕ → List ℕ → List ℕ → PosseRow → PosseRow
granted_row revoked joins task p = joined_in joins task (revoked_in revoked p)

-- the members of a lock after the task joins these
abbrev pub members_in : List ℕ → List ℕ → PosseRow → List (List ℕ)
members_in joins task p = (joined_in joins task p).members

-- the new members of each lock that the task joins, in row order
abbrev pub member_lists : List ℕ → List ℕ → List PosseRow → List (List (List ℕ))
member_lists joins task ps = map (members_in joins task) (filter (λ p. stands_in joins p.number) ps)

-- where the lists are those of this row and of the rest, the row is changed and the lists of the rest are left
abbrev pub GrantsFirst : List ℕ → List ℕ → List (List (List ℕ)) → List (List (List ℕ)) → PosseRow → PosseRow → Type 0
GrantsFirst revoked joins lists left p q =
    (task : List ℕ) (rest : List PosseRow) → lists ≡ member_lists joins task (p ∷ rest) → (q ≡ granted_row revoked joins task p) × (left ≡ member_lists joins task rest)

-- where the lists are those of the first rows, each of these is changed, and the others stay
abbrev pub GrantsFront : List ℕ → List ℕ → List (List (List ℕ)) → ℕ → List PosseRow → List PosseRow → Type 0
GrantsFront revoked joins lists count ps qs =
    (task : List ℕ) → lists ≡ member_lists joins task (take count ps) → qs ≡ map (granted_row revoked joins task) (take count ps) ++ drop count ps
