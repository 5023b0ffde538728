-- Ids that are put in order are the same ids, each once.
use Rattle.std.proofs.Common.{List, [], inl, inr, refl, true, ◌∷◌, ◌≡◌, ◌⊎◌}
use Rattle.std.proofs.lemmas.Bool.{and_from, and_parts}
use Rattle.std.specs.Ordering.{ordering_reverse}
use Rattle.std.specs.declared.cmp.Ordering.{Ordering}
use Rattle.seg_names.specs.Ids.{id_cmp}
use Rattle.seg_names.specs.declared.seg_id.SegId.{SegId}
use Rattle.book_rows.specs.Ids.{id_before, in_order, is_less, put_by, put_id}
use Rattle.book_rows.specs.Lists.{In, list_links}
use Rattle.laws_chunks.proofs.IdOrder.{id_total}
use Rattle.std.specs.declared.cmp.Ordering.TheVariants as Orderings

-- ---- the same ids

put_back : (a x : SegId) (bs : List SegId) → In x (put_id a bs) → (x ≡ a) ⊎ In x bs
put_back a x [] (inl e) = inl e
put_back a x [] (inr i) = absurd i
put_back a x (b ∷ bs) i = go (id_cmp a b) (put_back a x bs) i where
  go : (o : Ordering) → (In x (put_id a bs) → (x ≡ a) ⊎ In x bs) → In x (put_by o a b bs (put_id a bs)) → (x ≡ a) ⊎ In x (b ∷ bs)
  go Orderings.Less rest (inl e) = inl e
  go Orderings.Less rest (inr k) = inr k
  go Orderings.Equal rest k = inr k
  go Orderings.Greater rest (inl e) = inr (inl e)
  go Orderings.Greater rest (inr k) = elim (rest k) [ inl e ↦ inl e | inr l ↦ inr (inr l) ]

pub in_order_back : (x : SegId) (xs : List SegId) → In x (in_order xs) → In x xs
in_order_back x [] i = absurd i
in_order_back x (y ∷ ys) i = elim (put_back y x (in_order ys) i) [ inl e ↦ inl e | inr k ↦ inr (in_order_back x ys k) ]

-- ---- in order

turned : (o p : Ordering) → p ≡ ordering_reverse o → o ≡ Orderings.Greater → is_less p ≡ true
turned o p e f = rw (e, f) refl

before_by : (a b : SegId) → id_cmp a b ≡ Orderings.Greater → id_before b a ≡ true
before_by a b e = turned (id_cmp a b) (id_cmp b a) (id_total.antisymm b a) e

less_by : (a b : SegId) → id_cmp a b ≡ Orderings.Less → id_before a b ≡ true
less_by a b e = rw e refl

put_between : (b a : SegId) (bs : List SegId) → id_before b a ≡ true → list_links id_before (b ∷ bs) ≡ true → list_links id_before (b ∷ put_id a bs) ≡ true
put_between b a [] h links = and_from (id_before b a) (list_links id_before (a ∷ [])) h refl
put_between b a (c ∷ bs) h links = go (id_cmp a c) refl (put_between c a bs) (and_parts (id_before b c) (list_links id_before (c ∷ bs)) links) where
  go : (o : Ordering) → id_cmp a c ≡ o → (id_before c a ≡ true → list_links id_before (c ∷ bs) ≡ true → list_links id_before (c ∷ put_id a bs) ≡ true) → (id_before b c ≡ true) × (list_links id_before (c ∷ bs) ≡ true) → list_links id_before (b ∷ put_by o a c bs (put_id a bs)) ≡ true
  go Orderings.Less e rest both = and_from (id_before b a) (list_links id_before (a ∷ c ∷ bs)) h (and_from (id_before a c) (list_links id_before (c ∷ bs)) (less_by a c e) both.1)
  go Orderings.Equal e rest both = links
  go Orderings.Greater e rest both = and_from (id_before b c) (list_links id_before (c ∷ put_id a bs)) both.0 (rest (before_by a c e) both.1)

put_in_order : (a : SegId) (bs : List SegId) → list_links id_before bs ≡ true → list_links id_before (put_id a bs) ≡ true
put_in_order a [] links = refl
put_in_order a (b ∷ bs) links = go (id_cmp a b) refl where
  go : (o : Ordering) → id_cmp a b ≡ o → list_links id_before (put_by o a b bs (put_id a bs)) ≡ true
  go Orderings.Less e = and_from (id_before a b) (list_links id_before (b ∷ bs)) (less_by a b e) links
  go Orderings.Equal e = links
  go Orderings.Greater e = put_between b a bs (before_by a b e) links

pub in_order_links : (ids : List SegId) → list_links id_before (in_order ids) ≡ true
in_order_links [] = refl
in_order_links (a ∷ ids) = put_in_order a (in_order ids) (in_order_links ids)
