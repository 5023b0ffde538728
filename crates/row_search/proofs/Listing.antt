-- What publications list, by place.
use Rattle.std.proofs.Common.{Bool, List, None, Option, Some, [], ap, arith, cond, false, inl, inr, nat_le, refl, suc, sym, true, zero, ℕ, ◌&&◌, ◌++◌, ◌+◌, ◌<◌, ◌==◌, ◌≤◌, ◌∙◌, ◌∷◌, ◌≡◌, ◌||◌}
use Rattle.std.proofs.lemmas.Bool.{cases_Bool}
use Rattle.std.proofs.lemmas.Bool.Decides.{nat_tests}
use Rattle.std.proofs.lemmas.List.Folds.{list_any-append}
use Rattle.std.specs.List.{list_any}
use Rattle.seg_names.specs.Ids.{same_id}
use Rattle.seg_names.specs.declared.seg_id.SegId.{SegId}
use Rattle.book_rows.specs.Ids.{is_listed}
use Rattle.book_rows.specs.Lists.{at_place}
use Rattle.book_rows.specs.declared.rows.Publication.{Publication}
use Rattle.laws_unsound.specs.ChunkRows.{is_added_since}
use Rattle.laws_unsound.specs.ShapeRows.{is_added_by, lists_empty}
use Rattle.row_search.specs.Listed.{all_at, listed_from}

-- a publication at a place that passes the test lists the id
abbrev pub is_found : (Publication → List SegId) → (ℕ → Bool) → SegId → ℕ → List Publication → Bool
is_found ids test a k ms = list_any (λ e. same_id e.1 a && test e.0) (listed_from ids k ms)

distr : (s l t : Bool) → ((s && t) || (l && t)) ≡ ((s || l) && t)
distr true l true = refl
distr true true false = refl
distr true false false = refl
distr false l t = refl

found_at : (test : ℕ → Bool) (a : SegId) (k : ℕ) (ids : List SegId) → list_any (λ e. same_id e.1 a && test e.0) (all_at k ids) ≡ (is_listed ids a && test k)
found_at test a k [] = refl
found_at test a k (b ∷ bs) = ap (λ (x : Bool). (same_id b a && test k) || x) (found_at test a k bs) ∙ distr (same_id b a) (is_listed bs a) (test k)

found_more : (ids : Publication → List SegId) (test : ℕ → Bool) (a : SegId) (k : ℕ) (m : Publication) (ms : List Publication) → is_found ids test a k (m ∷ ms) ≡ ((is_listed (ids m) a && test k) || is_found ids test a (k + 1) ms)
found_more ids test a k m ms =
    list_any-append (λ e. same_id e.1 a && test e.0) (all_at k (ids m)) (listed_from ids (k + 1) ms) ∙ ap (λ (b : Bool). b || is_found ids test a (k + 1) ms) (found_at test a k (ids m))

neither : (x t r : Bool) → t ≡ false → r ≡ false → ((x && t) || r) ≡ false
neither true t r e f = rw (e, f) refl
neither false t r e f = f

-- none is found where no place from here on passes
none_found : (ids : Publication → List SegId) (test : ℕ → Bool) (a : SegId) (k : ℕ) (ms : List Publication) → ((n : ℕ) → k ≤ n → test n ≡ false) → is_found ids test a k ms ≡ false
none_found ids test a k [] none = refl
none_found ids test a k (m ∷ ms) none =
    found_more ids test a k m ms
    ∙ neither (is_listed (ids m) a) (test k) (is_found ids test a (k + 1) ms) (none k (omega arith)) (none_found ids test a (k + 1) ms (λ n le. none n (omega (arith, le))))

turned : (x t r q : Bool) → r ≡ q → ((x && t) || r) ≡ ((t && x) || q)
turned true true r q e = refl
turned true false r q e = e
turned false true r q e = e
turned false false r q e = e

pub found_since : (a : SegId) (since k : ℕ) (ms : List Publication) → is_found (λ m. m.adds) (λ n. nat_le since n) a k ms ≡ is_added_since since k ms a
found_since a since k [] = refl
found_since a since k (m ∷ ms) =
    found_more (λ m. m.adds) (λ n. nat_le since n) a k m ms
    ∙ turned (is_listed m.adds a) (nat_le since k) (is_found (λ m. m.adds) (λ n. nat_le since n) a (k + 1) ms) (is_added_since since (k + 1) ms a) (found_since a since (k + 1) ms)

alone : (x t r : Bool) → t ≡ true → r ≡ false → ((x && t) || r) ≡ x
alone true t r e f = rw e refl
alone false t r e f = f

joined : (x t r q : Bool) → t ≡ true → r ≡ q → ((x && t) || r) ≡ (x || q)
joined true t r q e f = rw e refl
joined false t r q e f = f

passed : (x t r q : Bool) → t ≡ false → r ≡ q → ((x && t) || r) ≡ q
passed true t r q e f = rw e f
passed false t r q e f = f

within : (k last : ℕ) → k ≤ last → nat_le k last ≡ true
within k last le = grind (arith, nat_tests)

beyond : (k last : ℕ) → last < k → nat_le k last ≡ false
beyond k last lt = grind (arith, nat_tests)

pub found_up_to : (a : SegId) (n k last : ℕ) (ms : List Publication) → last ≡ k + n → is_found (λ m. m.adds) (λ i. nat_le i last) a k ms ≡ is_added_by n ms a
found_up_to a zero k last [] e = refl
found_up_to a (suc n) k last [] e = refl
found_up_to a zero k last (m ∷ ms) e =
    found_more (λ m. m.adds) (λ i. nat_le i last) a k m ms
    ∙ alone (is_listed m.adds a) (nat_le k last) (is_found (λ m. m.adds) (λ i. nat_le i last) a (k + 1) ms) (within k last (omega (arith, e)))
    (none_found (λ m. m.adds) (λ i. nat_le i last) a (k + 1) ms (λ n le. beyond n last (omega (arith, e, le))))
found_up_to a (suc n) k last (m ∷ ms) e =
    found_more (λ m. m.adds) (λ i. nat_le i last) a k m ms
    ∙ joined (is_listed m.adds a) (nat_le k last) (is_found (λ m. m.adds) (λ i. nat_le i last) a (k + 1) ms) (is_added_by n ms a) (within k last (omega (arith, e))) (found_up_to a n (k + 1) last ms (omega (arith, e)))

here : (k place : ℕ) → k ≡ place → (k == place) ≡ true
here k place e = grind (arith, nat_tests)

elsewhere : (k place : ℕ) → (k ≡ place → ⊥) → (k == place) ≡ false
elsewhere k place e = grind (arith, nat_tests)

pub found_in : (a : SegId) (n k place : ℕ) (ms : List Publication) → place ≡ k + n → is_found (λ m. m.empties) (λ i. i == place) a k ms ≡ lists_empty a (at_place n ms)
found_in a zero k place [] e = refl
found_in a (suc n) k place [] e = refl
found_in a zero k place (m ∷ ms) e =
    found_more (λ m. m.empties) (λ i. i == place) a k m ms
    ∙ alone (is_listed m.empties a) (k == place) (is_found (λ m. m.empties) (λ i. i == place) a (k + 1) ms) (here k place (omega (arith, e)))
    (none_found (λ m. m.empties) (λ i. i == place) a (k + 1) ms (λ n le. elsewhere n place (λ same. absurd (omega (arith, e, le, same)))))
found_in a (suc n) k place (m ∷ ms) e =
    found_more (λ m. m.empties) (λ i. i == place) a k m ms
    ∙ passed (is_listed m.empties a) (k == place) (is_found (λ m. m.empties) (λ i. i == place) a (k + 1) ms) (lists_empty a (at_place n ms)) (elsewhere k place (λ same. absurd (omega (arith, e, same)))) (found_in a n (k + 1) place ms (omega (arith, e)))
