-- Lists of ids in id order, and of numbers ascending, have the same members.
use Rattle.std.proofs.Common.{Bool, List, [], arith, cond, false, inl, inr, length, nat_le, refl, sym, subst, suc, true, zero, ℕ, ◌+◌, ◌<◌, ◌==◌, ◌∙◌, ◌∷◌, ◌≡◌, ◌⊎◌}
use Rattle.std.proofs.lemmas.Bool.{and_parts, cases_Bool, false≢true}
use Rattle.std.proofs.lemmas.Bool.Decides.{Decides-eqb}
use Rattle.std.proofs.lemmas.Cmp.{int_cmp_total, nat_cmp_total, nat_list_cmp_total, on_total, then_total}
use Rattle.std.proofs.lemmas.Map.Lookups.{exact_bytes, exact_signed, exact_unsigned}
use Rattle.std.specs.Cmp.{IsTotalOrder}
use Rattle.std.specs.Cmp.Lexicographic.{slice_cmp}
use Rattle.std.specs.List.{AllByRecursion, range_with_len}
use Rattle.std.specs.Ordering.{int_cmp, nat_cmp, ordering_reverse, ordering_then}
use Rattle.std.specs.declared.cmp.Ordering.{Ordering}
use Rattle.seg_names.specs.Ids.{extent_cmp, id_cmp, same_id}
use Rattle.seg_names.specs.declared.seg_id.SegId.{SegId}
use Rattle.book_rows.specs.Ids.{id_before, in_order, is_less, put_by, put_id}
use Rattle.book_rows.specs.Lists.{In, Pairs, list_links, ascending, inserted, merged, same_numbers}
use Rattle.laws_chunks.proofs.Spans.{extents, ids_from_fields, same_id_means}
use Rattle.std.specs.declared.cmp.Ordering.TheVariants as Orderings

-- ---- ids

then_equal : (o p : Ordering) → ordering_then o p ≡ Orderings.Equal → (o ≡ Orderings.Equal) × (p ≡ Orderings.Equal)
then_equal Orderings.Less p h = cc
then_equal Orderings.Equal p h = (refl, h)
then_equal Orderings.Greater p h = cc

-- ids that are neither before nor after one another are one
equal_is : (a b : SegId) → id_cmp a b ≡ Orderings.Equal → a ≡ b
equal_is a b h =
    let one = then_equal (slice_cmp nat_cmp a.source b.source) (ordering_then (extent_cmp a.span b.span) (ordering_then (int_cmp a.version b.version) (nat_cmp a.part b.part))) h in
    let two = then_equal (extent_cmp a.span b.span) (ordering_then (int_cmp a.version b.version) (nat_cmp a.part b.part)) one.1 in
    let three = then_equal (int_cmp a.version b.version) (nat_cmp a.part b.part) two.1 in
    let ends = then_equal (int_cmp a.span.start b.span.start) (int_cmp a.span.end b.span.end) two.0 in
    ids_from_fields a b (exact_bytes a.source b.source one.0) (extents (exact_signed a.span.start b.span.start ends.0) (exact_signed a.span.end b.span.end ends.1)) (exact_signed a.version b.version three.0) (exact_unsigned a.part b.part three.1)

put_In : (a x : SegId) (bs : List SegId) → (x ≡ a) ⊎ In x bs → In x (put_id a bs)
put_In a x [] (inl e) = inl e
put_In a x [] (inr i) = absurd i
put_In a x (b ∷ bs) h = go (id_cmp a b) refl h (λ k. put_In a x bs k) where
  go : (o : Ordering) → id_cmp a b ≡ o → (x ≡ a) ⊎ In x (b ∷ bs) → ((x ≡ a) ⊎ In x bs → In x (put_id a bs)) → In x (put_by o a b bs (put_id a bs))
  go Orderings.Less e (inl is) later = inl is
  go Orderings.Less e (inr i) later = inr i
  go Orderings.Equal e (inl is) later = inl (is ∙ equal_is a b e)
  go Orderings.Equal e (inr i) later = i
  go Orderings.Greater e (inl is) later = inr (later (inl is))
  go Orderings.Greater e (inr (inl is)) later = inl is
  go Orderings.Greater e (inr (inr i)) later = inr (later (inr i))

pub in_order_In : (x : SegId) (xs : List SegId) → In x xs → In x (in_order xs)
in_order_In x [] i = absurd i
in_order_In x (y ∷ ys) (inl e) = put_In y x (in_order ys) (inl e)
in_order_In x (y ∷ ys) (inr i) = put_In y x (in_order ys) (inr (in_order_In x ys i))

-- ---- numbers

pub same_numbers_means : (ns ms : List ℕ) → same_numbers ns ms ≡ true → ns ≡ ms
same_numbers_means [] [] h = refl
same_numbers_means [] (m ∷ ms) h = absurd (false≢true h)
same_numbers_means (n ∷ ns) [] h = absurd (false≢true h)
same_numbers_means (n ∷ ns) (m ∷ ms) h = let both = and_parts (n == m) (same_numbers ns ms) h in rw ((Decides-eqb n m).0 both.0, same_numbers_means ns ms both.1) refl

inserted_back : (x n : ℕ) (ms : List ℕ) → In x (inserted n ms) → (x ≡ n) ⊎ In x ms
inserted_back x n [] (inl e) = inl e
inserted_back x n [] (inr i) = absurd i
inserted_back x n (m ∷ ms) i = go (nat_le n m) (inserted_back x n ms) i where
  go : (b : Bool) → (In x (inserted n ms) → (x ≡ n) ⊎ In x ms) → In x (cond b (n ∷ m ∷ ms) (m ∷ inserted n ms)) → (x ≡ n) ⊎ In x (m ∷ ms)
  go true rest (inl e) = inl e
  go true rest (inr j) = inr j
  go false rest (inl e) = inr (inl e)
  go false rest (inr j) = elim (rest j) [ inl e ↦ inl e | inr k ↦ inr (inr k) ]

pub ascending_back : (x : ℕ) (ns : List ℕ) → In x (ascending ns) → In x ns
ascending_back x [] i = i
ascending_back x (n ∷ ns) i = elim (inserted_back x n (merged ns []) i) [ inl e ↦ inl e | inr j ↦ inr (ascending_back x ns j) ]

length_inserted : (n : ℕ) (ms : List ℕ) → length (inserted n ms) ≡ length ms + 1
length_inserted n [] = refl
length_inserted n (m ∷ ms) = go (nat_le n m) (length_inserted n ms) where
  go : (b : Bool) → length (inserted n ms) ≡ length ms + 1 → length (cond b (n ∷ m ∷ ms) (m ∷ inserted n ms)) ≡ length (m ∷ ms) + 1
  go true rest = omega arith
  go false rest = omega (arith, rest)

pub length_ascending : (ns : List ℕ) → length (ascending ns) ≡ length ns
length_ascending [] = refl
length_ascending (n ∷ ns) =
    let here : length (inserted n (merged ns [])) ≡ length (merged ns []) + 1 = length_inserted n (merged ns []) in
    let rest : length (merged ns []) ≡ length ns = length_ascending ns in
    omega (arith, here, rest)

pub range_In : (i a n : ℕ) → i < n → In (a + i) (range_with_len a n)
range_In i a zero h = absurd (omega arith)
range_In zero a (suc n) h = inl (omega arith)
range_In (suc i) a (suc n) h = inr (subst (λ x. In x (range_with_len (a + 1) n)) (shift a i) (range_In i (a + 1) n (omega (arith, h)))) where
  shift : (a i : ℕ) → (a + 1) + i ≡ a + suc i
  shift a i = omega arith

-- ---- ascending ids are distinct

pub id_total : IsTotalOrder id_cmp
id_total =
    then_total (on_total (λ (a : SegId). a.source) nat_list_cmp_total)
    (then_total (then_total (on_total (λ (a : SegId). a.span.start) int_cmp_total) (on_total (λ (a : SegId). a.span.end) int_cmp_total))
    (then_total (on_total (λ (a : SegId). a.version) int_cmp_total) (on_total (λ (a : SegId). a.part) nat_cmp_total)))

less_is : (o : Ordering) → is_less o ≡ true → o ≡ Orderings.Less
less_is Orderings.Less h = refl
less_is Orderings.Equal h = absurd (false≢true h)
less_is Orderings.Greater h = absurd (false≢true h)

all_later : (a b : SegId) (ids : List SegId) → id_cmp a b ≡ Orderings.Less → AllByRecursion (λ c. id_cmp b c ≡ Orderings.Less) ids → AllByRecursion (λ c. id_cmp a c ≡ Orderings.Less) ids
all_later a b [] e h = tt
all_later a b (c ∷ ids) e h = (id_total.trans a b c e h.0, all_later a b ids e h.1)

all_ascend : (ids : List SegId) → list_links id_before ids ≡ true → Pairs (λ a b. id_cmp a b ≡ Orderings.Less) ids
all_ascend [] h = tt
all_ascend (a ∷ []) h = (tt, tt)
all_ascend (a ∷ b ∷ ids) h =
    let both = and_parts (id_before a b) (list_links id_before (b ∷ ids)) h in
    let rest = all_ascend (b ∷ ids) both.1 in
    let first = less_is (id_cmp a b) both.0 in
    ((first, all_later a b ids first rest.0), rest)

less_differs : (a b : SegId) → id_cmp a b ≡ Orderings.Less → same_id a b ≡ false
less_differs a b e = elim (cases_Bool (same_id a b)) [
  | inr off ↦ off
  | inl on ↦ absurd (not_before a (subst (λ (b : SegId). id_cmp a b ≡ Orderings.Less) (sym (same_id_means a b on)) e))
] where
  turned : (o : Ordering) → o ≡ Orderings.Less → o ≡ ordering_reverse o → ⊥
  turned Orderings.Less e f = cc
  turned Orderings.Equal e f = cc
  turned Orderings.Greater e f = cc

  not_before : (a : SegId) → id_cmp a a ≡ Orderings.Less → ⊥
  not_before a e = turned (id_cmp a a) e (id_total.antisymm a a)

module _ {X : Type 0} (R S : X → X → Type 0) (f : (x y : X) → R x y → S x y) where
  all_weaker : (x : X) (ys : List X) → AllByRecursion (R x) ys → AllByRecursion (S x) ys
  all_weaker x [] k = tt
  all_weaker x (y ∷ ys) k = (f x y k.0, all_weaker x ys k.1)

  pairs_weaker : (xs : List X) → Pairs R xs → Pairs S xs
  pairs_weaker [] h = tt
  pairs_weaker (x ∷ xs) h = (all_weaker x xs h.0, pairs_weaker xs h.1)

pub ascending_differ : (ids : List SegId) → list_links id_before ids ≡ true → Pairs (λ a b. same_id a b ≡ false) ids
ascending_differ ids h = pairs_weaker (λ a b. id_cmp a b ≡ Orderings.Less) (λ a b. same_id a b ≡ false) less_differs ids (all_ascend ids h)
