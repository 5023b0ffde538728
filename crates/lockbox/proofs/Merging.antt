-- Numbers merged in their order: which are merged first makes no difference.
use Rattle.std.proofs.Common.{◌≡◌, ℕ, ◌<◌, ◌≤◌, Bool, true, false, cond, ◌||◌, nat_le, List, [], ◌∷◌, ◌++◌, refl, sym, ap, ◌∙◌, arith, inl, inr}
use Rattle.std.specs.List.{list_any}
use Rattle.std.proofs.lemmas.Bool.{cases_lt, cases_order, le-leb, lt-leb}
use Rattle.book_rows.specs.Lists.{ascending, inserted, merged}

comm_below : (a b : ℕ) (ms : List ℕ) → a < b → inserted a (inserted b ms) ≡ inserted b (inserted a ms)
comm_below a b [] lt =
    let low : a ≤ b = omega arith in
    rw (le-leb a b low, lt-leb b a lt) refl
comm_below a b (m ∷ ms) lt =
    let low : a ≤ b = omega arith in
    elim (cases_lt m b) [
      | inl under ↦
          elim (cases_lt m a) [
            | inl under' ↦ rw (lt-leb b m under, lt-leb a m under') (rw (lt-leb b m under) (ap (λ ns. m ∷ ns) (comm_below a b ms lt)))
            | inr over ↦ rw (lt-leb b m under, le-leb a m over) (rw (lt-leb b a lt) (rw (lt-leb b m under) refl))
          ]
      | inr over ↦
          let over' : a ≤ m = omega arith in
          rw (le-leb b m over, le-leb a m over') (rw (le-leb a b low, lt-leb b a lt, le-leb b m over) refl)
    ]

inserted_comm : (a b : ℕ) (ms : List ℕ) → inserted a (inserted b ms) ≡ inserted b (inserted a ms)
inserted_comm a b ms =
    elim (cases_order a b) [
      | inl e ↦ rw e refl
      | inr apart ↦ elim apart [ inl lt ↦ comm_below a b ms lt | inr gt ↦ sym (comm_below b a ms gt) ]
    ]

merged_inserted : (n : ℕ) (ns ms : List ℕ) → merged (inserted n ns) ms ≡ inserted n (merged ns ms)
merged_inserted n [] ms = refl
merged_inserted n (m ∷ ns) ms =
    elim (nat_le n m) as (λ b. merged (cond b (n ∷ m ∷ ns) (m ∷ inserted n ns)) ms ≡ inserted n (inserted m (merged ns ms)))
    [ true ↦ refl | false ↦ ap (inserted m) (merged_inserted n ns ms) ∙ inserted_comm m n (merged ns ms) ]

pub merged_assoc : (as' bs cs : List ℕ) → merged (merged as' bs) cs ≡ merged as' (merged bs cs)
merged_assoc [] bs cs = refl
merged_assoc (a ∷ as') bs cs = merged_inserted a (merged as' bs) cs ∙ ap (inserted a) (merged_assoc as' bs cs)

pub merged_append : (ns ms : List ℕ) → ascending (ns ++ ms) ≡ merged ns (ascending ms)
merged_append [] ms = refl
merged_append (n ∷ ns) ms = ap (inserted n) (merged_append ns ms)

pub ascending_again : (ns : List ℕ) → ascending (ascending ns) ≡ ascending ns
ascending_again ns = merged_assoc ns [] []

pub ascending_merged : (ns ms : List ℕ) → ascending ms ≡ ms → ascending (merged ns ms) ≡ merged ns ms
ascending_merged ns ms e = merged_assoc ns ms [] ∙ ap (merged ns) e

-- ---- what stands in merged numbers

swapped : (a b c : Bool) → (a || (b || c)) ≡ (b || (a || c))
swapped true true c = refl
swapped true false c = refl
swapped false true c = refl
swapped false false c = refl

any_inserted : (q : ℕ → Bool) (n : ℕ) (ms : List ℕ) → list_any q (inserted n ms) ≡ (q n || list_any q ms)
any_inserted q n [] = refl
any_inserted q n (m ∷ ms) =
    elim (nat_le n m) as (λ b. list_any q (cond b (n ∷ m ∷ ms) (m ∷ inserted n ms)) ≡ (q n || (q m || list_any q ms)))
    [ true ↦ refl | false ↦ rw (any_inserted q n ms) (swapped (q m) (q n) (list_any q ms)) ]

pub or_assoc : (a b c : Bool) → ((a || b) || c) ≡ (a || (b || c))
or_assoc true b c = refl
or_assoc false b c = refl

pub any_merged : (q : ℕ → Bool) (ns ms : List ℕ) → list_any q (merged ns ms) ≡ (list_any q ns || list_any q ms)
any_merged q [] ms = refl
any_merged q (n ∷ ns) ms = any_inserted q n (merged ns ms) ∙ rw (any_merged q ns ms) (sym (or_assoc (q n) (list_any q ns) (list_any q ms)))
