-- Valid locks are compatible: what each change of the list of locks keeps.
use Rattle.std.proofs.Common.{◌≡◌, ℕ, ℤ, Bool, true, false, cond, not, ◌==◌, ◌&&◌, ◌||◌, List, [], ◌∷◌, ◌++◌, map, filter, refl, sym, ◌∙◌, arith, nat_le, bytes_eq}
use Rattle.std.specs.List.{AllByRecursion, list_any}
use Rattle.std.proofs.Math.Bool.{or-false, or_assoc}
use Rattle.std.proofs.lemmas.Bool.{eq-eqb, or_right, or_left, or_parts}
use Rattle.book_rows.specs.Grant.{is_against, joined_in, new_row, numbers_against, revoked_in}
use Rattle.book_rows.specs.Kinds.{go_together}
use Rattle.book_rows.specs.Lists.{ascending, inserted, merged, stands_in}
use Rattle.book_rows.specs.Locks.{after_leave, left, stays}
use Rattle.book_rows.specs.Rules.{AreCompatible, GoTogether}
use Rattle.book_rows.specs.declared.answers.Counters.{Counters}
use Rattle.book_rows.specs.declared.rows.PosseRow.{PosseRow}
use Rattle.book_rows.specs.declared.rows.TaskRow.{TaskRow}
use Rattle.book_rows.specs.declared.rows.Want.{Want}
use Rattle.laws_locks.proofs.Lists.{all_of_map, all_weaker, pairs_filter, pairs_map, pairs_push}

-- ---- a departure, revocations and a new member

pub compatible_left : (n : ℕ) (task : List ℕ) (ps : List PosseRow) → AreCompatible ps → AreCompatible (after_leave n task ps)
compatible_left n task ps h = pairs_filter _ (stays n) (map (left n task) ps) (pairs_map _ _ (left n task) (λ p q r. r) ps h)

pub compatible_revoked : (ns : List ℕ) (ps : List PosseRow) → AreCompatible ps → AreCompatible (map (revoked_in ns) ps)
compatible_revoked ns ps h = pairs_map _ _ (revoked_in ns) (λ p q r a b. r (or_parts _ _ a).0 (or_parts _ _ b).0) ps h

pub compatible_joined : (ns task : List ℕ) (ps : List PosseRow) → AreCompatible ps → AreCompatible (map (joined_in ns task) ps)
compatible_joined ns task ps h = pairs_map _ _ (joined_in ns task) (λ p q r. r) ps h

-- ---- numbers in ascending order

or_swapped : (a b c : Bool) → (a || (b || c)) ≡ (b || (a || c))
or_swapped true true c = refl
or_swapped true false c = refl
or_swapped false true c = refl
or_swapped false false c = refl

any_inserted : (q : ℕ → Bool) (n : ℕ) (ms : List ℕ) → list_any q (inserted n ms) ≡ (q n || list_any q ms)
any_inserted q n [] = refl
any_inserted q n (m ∷ ms) =
    elim (nat_le n m) as (λ b. list_any q (cond b (n ∷ m ∷ ms) (m ∷ inserted n ms)) ≡ (q n || (q m || list_any q ms)))
    [ true ↦ refl | false ↦ rw (any_inserted q n ms) (or_swapped (q m) (q n) (list_any q ms)) ]

-- what passes in merged lists passes in one of them
pub any_merged : (q : ℕ → Bool) (ns ms : List ℕ) → list_any q (merged ns ms) ≡ (list_any q ns || list_any q ms)
any_merged q [] ms = refl
any_merged q (n ∷ ns) ms = any_inserted q n (merged ns ms) ∙ rw (any_merged q ns ms) (sym (or_assoc (q n) (list_any q ns) (list_any q ms)))

pub any_ascending : (q : ℕ → Bool) (ns : List ℕ) → list_any q (ascending ns) ≡ list_any q ns
any_ascending q ns = any_merged q ns [] ∙ or-false (list_any q ns)

-- ---- a new lock

-- a lock that passes is among the numbers of those that pass
longer : {X : Type 0} (test : X → Bool) (key : X → ℕ) (q : ℕ → Bool) (x : X) (xs : List X) → list_any q (map key (filter test xs)) ≡ true → list_any q (map key (filter test (x ∷ xs))) ≡ true
longer test key q x xs h =
    elim (test x) as (λ b. list_any q (map key (cond b (x ∷ filter test xs) (filter test xs))) ≡ true)
    [ true ↦ or_right (q (key x)) _ h | false ↦ h ]

first_listed : {X : Type 0} (test : X → Bool) (key : X → ℕ) (x : X) (xs : List X) → test x ≡ true → list_any (λ n. n == key x) (map key (filter test (x ∷ xs))) ≡ true
first_listed test key x xs e = rw e (or_left _ _ (eq-eqb (key x) (key x) refl))

listed : {X : Type 0} (test : X → Bool) (key : X → ℕ) (xs : List X) → AllByRecursion (λ x. test x ≡ true → list_any (λ n. n == key x) (map key (filter test xs)) ≡ true) xs
listed test key [] = tt
listed test key (x ∷ xs) =
    (first_listed test key x xs, all_weaker _ _ (λ y h e. longer test key (λ n. n == key y) x xs (h e)) xs (listed test key xs))

-- a lock in the way is among those that a new one revokes
pub against_listed : (t : TaskRow) (w : Want) (ps : List PosseRow) → AllByRecursion (λ p. is_against t w p ≡ true → stands_in (numbers_against t w ps) p.number ≡ true) ps
against_listed t w ps =
    all_weaker _ _ (λ p h e. any_ascending (λ n. n == p.number) (map (λ p. p.number) (filter (is_against t w) ps)) ∙ h e) ps (listed (is_against t w) (λ p. p.number) ps)

-- a lock that stays valid goes with the new one
by_tests : (r s g l : Bool) → (((not r && s) && not g) ≡ true → l ≡ true) → (r || l) ≡ false → (not s || g) ≡ true
by_tests r s g l h a = grind arith

pub goes : (k : Counters) (t : TaskRow) (w : Want) (version : ℤ) (ns : List ℕ) (p : PosseRow) → (is_against t w p ≡ true → stands_in ns p.number ≡ true) → GoTogether (revoked_in ns p) (new_row k t w version)
goes k t w version ns p h a b = by_tests p.revoked (bytes_eq p.source t.source) (go_together p.lock_kind p.span w.lock_kind w.span) (stands_in ns p.number) h a

-- a new lock goes with each that stays valid where those in its way are revoked
pub compatible_new : (ps : List PosseRow) (k : Counters) (t : TaskRow) (w : Want) (version : ℤ) → AreCompatible ps
    → AreCompatible (map (joined_in [] t.task) (map (revoked_in (numbers_against t w ps)) ps) ++ new_row k t w version ∷ [])
compatible_new ps k t w version h =
    let ns : List ℕ = numbers_against t w ps in
    pairs_push _ (map (joined_in [] t.task) (map (revoked_in ns) ps)) (new_row k t w version)
    (compatible_joined [] t.task _ (compatible_revoked ns ps h))
    (all_of_map _ (joined_in [] t.task) _ (all_of_map _ (revoked_in ns) ps (all_weaker _ _ (λ p q. goes k t w version ns p q) ps (against_listed t w ps))))
