-- The first of two lists in id order is the earlier of the first of each.
use Rattle.std.proofs.Common.{Bool, List, None, Option, Some, [], cond, false, find, inl, inr, refl, subst, sym, true, ◌++◌, ◌∙◌, ◌∷◌, ◌≡◌, ap}
use Rattle.std.proofs.lemmas.Bool.{and_parts, cases_Bool, false≢true}
use Rattle.std.proofs.lemmas.Cmp.{int_cmp_total, nat_cmp_total, nat_list_cmp_total, on_total, then_total}
use Rattle.std.proofs.lemmas.List.{append-nil}
use Rattle.std.proofs.lemmas.Map.Lookups.{exact_bytes, exact_signed, exact_unsigned}
use Rattle.std.specs.Cmp.{IsTotalOrder}
use Rattle.std.specs.Cmp.Lexicographic.{slice_cmp}
use Rattle.std.specs.List.{AllByRecursion}
use Rattle.std.specs.Ordering.{int_cmp, nat_cmp, ordering_reverse, ordering_then}
use Rattle.std.specs.declared.cmp.Ordering.{Ordering}
use Rattle.seg_names.specs.Ids.{extent_cmp, id_cmp}
use Rattle.seg_names.specs.declared.seg_id.SegId.{SegId}
use Rattle.book_rows.specs.Ids.{id_before, in_order, is_less, put_by, put_id}
use Rattle.book_rows.specs.Lists.{Pairs, list_links}
use Rattle.book_rows.specs.Over.{both_in_order}
use Rattle.publish_core.specs.Both.{earlier}
use Rattle.std.specs.declared.cmp.Ordering.TheVariants as Orderings

-- ---- the order

id_total : IsTotalOrder id_cmp
id_total =
    then_total (on_total (λ (a : SegId). a.source) nat_list_cmp_total)
    (then_total (then_total (on_total (λ (a : SegId). a.span.start) int_cmp_total) (on_total (λ (a : SegId). a.span.end) int_cmp_total))
    (then_total (on_total (λ (a : SegId). a.version) int_cmp_total) (on_total (λ (a : SegId). a.part) nat_cmp_total)))

then_equal : (o p : Ordering) → ordering_then o p ≡ Orderings.Equal → (o ≡ Orderings.Equal) × (p ≡ Orderings.Equal)
then_equal Orderings.Less p h = cc
then_equal Orderings.Equal p h = (refl, h)
then_equal Orderings.Greater p h = cc

same_parts : (a b : SegId) → a.source ≡ b.source → a.span.start ≡ b.span.start → a.span.end ≡ b.span.end → a.version ≡ b.version → a.part ≡ b.part → a ≡ b
same_parts a b p q r s t = λ i. record { source = p i; span = record { start = q i; end = r i }; version = s i; part = t i }

-- ids that are neither before nor after one another are one
equal_is : (a b : SegId) → id_cmp a b ≡ Orderings.Equal → a ≡ b
equal_is a b h =
    let one = then_equal (slice_cmp nat_cmp a.source b.source) (ordering_then (extent_cmp a.span b.span) (ordering_then (int_cmp a.version b.version) (nat_cmp a.part b.part))) h in
    let two = then_equal (extent_cmp a.span b.span) (ordering_then (int_cmp a.version b.version) (nat_cmp a.part b.part)) one.1 in
    let three = then_equal (int_cmp a.version b.version) (nat_cmp a.part b.part) two.1 in
    let ends = then_equal (int_cmp a.span.start b.span.start) (int_cmp a.span.end b.span.end) two.0 in
    same_parts a b (exact_bytes a.source b.source one.0) (exact_signed a.span.start b.span.start ends.0) (exact_signed a.span.end b.span.end ends.1) (exact_signed a.version b.version three.0)
    (exact_unsigned a.part b.part three.1)

less_is : (o : Ordering) → is_less o ≡ true → o ≡ Orderings.Less
less_is Orderings.Less h = refl
less_is Orderings.Equal h = absurd (false≢true h)
less_is Orderings.Greater h = absurd (false≢true h)

not_less : (o p : Ordering) → p ≡ ordering_reverse o → o ≡ Orderings.Less → is_less p ≡ false
not_less o p e f = rw (e, f) refl

-- what comes before another doesn't come after it
not_after : (a b : SegId) → id_cmp a b ≡ Orderings.Less → id_before b a ≡ false
not_after a b e = not_less (id_cmp a b) (id_cmp b a) (id_total.antisymm b a) e

reversed : (o p : Ordering) → p ≡ ordering_reverse o → o ≡ Orderings.Greater → p ≡ Orderings.Less
reversed o p e f = rw (e, f) refl

greater_turned : (a b : SegId) → id_cmp a b ≡ Orderings.Greater → id_cmp b a ≡ Orderings.Less
greater_turned a b e = reversed (id_cmp a b) (id_cmp b a) (id_total.antisymm b a) e

abbrev ComeAfter : SegId → List SegId → Type 0
ComeAfter a bs = AllByRecursion (λ b. id_cmp a b ≡ Orderings.Less) bs

abbrev Ascend : List SegId → Type 0
Ascend as' = Pairs (λ a b. id_cmp a b ≡ Orderings.Less) as'

still_after : (a b : SegId) (bs : List SegId) → id_cmp a b ≡ Orderings.Less → ComeAfter b bs → ComeAfter a bs
still_after a b [] e h = tt
still_after a b (c ∷ bs) e h = (id_total.trans a b c e h.0, still_after a b bs e h.1)

ascend_from : (as' : List SegId) → list_links id_before as' ≡ true → Ascend as'
ascend_from [] h = tt
ascend_from (a ∷ []) h = (tt, tt)
ascend_from (a ∷ b ∷ as') h =
    let both = and_parts (id_before a b) (list_links id_before (b ∷ as')) h in
    let rest : Ascend (b ∷ as') = ascend_from (b ∷ as') both.1 in
    let first : id_cmp a b ≡ Orderings.Less = less_is (id_cmp a b) both.0 in
    ((first, still_after a b as' first rest.0), rest)

put_after : (c a : SegId) (bs : List SegId) → id_cmp c a ≡ Orderings.Less → ComeAfter c bs → ComeAfter c (put_id a bs)
put_after c a [] e h = (e, tt)
put_after c a (b ∷ bs) e h = go (id_cmp a b) (put_after c a bs e h.1) where
  go : (o : Ordering) → ComeAfter c (put_id a bs) → ComeAfter c (put_by o a b bs (put_id a bs))
  go Orderings.Less rest = (e, h)
  go Orderings.Equal rest = h
  go Orderings.Greater rest = (h.0, rest)

put_ascends : (a : SegId) (bs : List SegId) → Ascend bs → Ascend (put_id a bs)
put_ascends a [] h = (tt, tt)
put_ascends a (b ∷ bs) h = go (id_cmp a b) refl (put_ascends a bs h.1) where
  go : (o : Ordering) → id_cmp a b ≡ o → Ascend (put_id a bs) → Ascend (put_by o a b bs (put_id a bs))
  go Orderings.Less e rest = ((e, still_after a b bs e h.0), h)
  go Orderings.Equal e rest = h
  go Orderings.Greater e rest = (put_after b a bs (greater_turned a b e) h.0, rest)

in_order_ascends : (as' : List SegId) → Ascend (in_order as')
in_order_ascends [] = tt
in_order_ascends (a ∷ as') = put_ascends a (in_order as') (in_order_ascends as')

-- ---- the first that passes

earlier_alone : (o : Option SegId) → earlier o None ≡ o
earlier_alone None = refl
earlier_alone (Some a) = refl

earlier_same : (a : SegId) → earlier (Some a) (Some a) ≡ Some a
earlier_same a = go (id_before a a) where
  go : (b : Bool) → cond b (Some a) (Some a) ≡ Some a
  go true = refl
  go false = refl

module _ (test : SegId → Bool) where
  found_after : (a : SegId) (bs : List SegId) → ComeAfter a bs → (x : SegId) → find test bs ≡ Some x → id_cmp a x ≡ Orderings.Less
  found_after a [] h x e = cc
  found_after a (b ∷ bs) h x e = go (test b) e (found_after a bs h.1 x) where
    go : (t : Bool) → cond t (Some b) (find test bs) ≡ Some x → (find test bs ≡ Some x → id_cmp a x ≡ Orderings.Less) → id_cmp a x ≡ Orderings.Less
    go true f rest = (let same : b ≡ x = cc in subst (λ (y : SegId). id_cmp a y ≡ Orderings.Less) same h.0)
    go false f rest = rest f

  -- one that passes stands before all others
  stands_first : (a : SegId) (o : Option SegId) → ((x : SegId) → o ≡ Some x → id_cmp a x ≡ Orderings.Less) → earlier (Some a) o ≡ Some a
  stands_first a None h = refl
  stands_first a (Some x) h = rw (not_after a x (h x refl)) refl

  abbrev picked : SegId → Option SegId
  picked a = cond (test a) (Some a) None

  put_first : (a : SegId) (bs : List SegId) → ComeAfter a bs → earlier (picked a) (find test bs) ≡ find test (a ∷ bs)
  put_first a bs h = go (test a) where
    go : (t : Bool) → earlier (cond t (Some a) None) (find test bs) ≡ cond t (Some a) (find test bs)
    go true = stands_first a (find test bs) (found_after a bs h)
    go false = refl

  find_put : (a : SegId) (bs : List SegId) → Ascend bs → find test (put_id a bs) ≡ earlier (picked a) (find test bs)
  find_put a [] h = sym (earlier_alone (picked a))
  find_put a (b ∷ bs) h = go (id_cmp a b) refl (find_put a bs h.1) where
    same : (t : Bool) → cond t (Some b) (find test bs) ≡ earlier (cond t (Some b) None) (cond t (Some b) (find test bs))
    same true = sym (earlier_same b)
    same false = refl

    at_greater : (t s : Bool) → id_before b a ≡ true → cond s (Some b) (earlier (cond t (Some a) None) (find test bs)) ≡ earlier (cond t (Some a) None) (cond s (Some b) (find test bs))
    at_greater true true before = rw before refl
    at_greater false true before = refl
    at_greater t false before = refl

    is_before : id_cmp b a ≡ Orderings.Less → id_before b a ≡ true
    is_before e = rw e refl

    go : (o : Ordering) → id_cmp a b ≡ o → find test (put_id a bs) ≡ earlier (picked a) (find test bs) → find test (put_by o a b bs (put_id a bs)) ≡ earlier (picked a) (find test (b ∷ bs))
    go Orderings.Less e rest = sym (put_first a (b ∷ bs) (e, still_after a b bs e h.0))
    go Orderings.Equal e rest = same (test b) ∙ ap (λ (x : SegId). earlier (cond (test x) (Some x) None) (find test (b ∷ bs))) (sym (equal_is a b e))
    go Orderings.Greater e rest = ap (λ (o : Option SegId). cond (test b) (Some b) o) rest ∙ at_greater (test a) (test b) (is_before (greater_turned a b e))

  -- of three the first is the earlier of one and the earlier of the others
  through : (a : SegId) (o p : Option SegId) → ((x : SegId) → o ≡ Some x → id_cmp a x ≡ Orderings.Less) → earlier (Some a) (earlier o p) ≡ earlier (Some a) p
  through a None p h = refl
  through a (Some x) None h = stands_first a (Some x) h
  through a (Some x) (Some z) h = go (id_before z x) refl where
    before_both : id_before z x ≡ false → id_before z a ≡ false
    before_both off = elim (cases_Bool (id_before z a)) [
      | inr other ↦ other
      | inl on ↦
          let less : id_cmp z x ≡ Orderings.Less = id_total.trans z a x (less_is (id_cmp z a) on) (h x refl) in
          absurd (false≢true (sym off ∙ ap is_less less))
    ]

    go : (b : Bool) → id_before z x ≡ b → earlier (Some a) (cond b (Some z) (Some x)) ≡ earlier (Some a) (Some z)
    go true e = refl
    go false e = stands_first a (Some x) h ∙ sym (rw (before_both e) refl)

  find_in_order : (as' bs : List SegId) → Ascend as' → find test (in_order (as' ++ bs)) ≡ earlier (find test as') (find test (in_order bs))
  find_in_order [] bs h = refl
  find_in_order (a ∷ as') bs h =
      find_put a (in_order (as' ++ bs)) (in_order_ascends (as' ++ bs))
      ∙ (ap (λ (o : Option SegId). earlier (picked a) o) (find_in_order as' bs h.1) ∙ go (test a)) where
        go : (t : Bool) → earlier (cond t (Some a) None) (earlier (find test as') (find test (in_order bs))) ≡ earlier (cond t (Some a) (find test as')) (find test (in_order bs))
        go true = through a (find test as') (find test (in_order bs)) (found_after a as' h.0)
        go false = refl

  pub find_in_both : (ids tombs : List SegId) → list_links id_before ids ≡ true → list_links id_before tombs ≡ true → find test (both_in_order ids tombs) ≡ earlier (find test ids) (find test tombs)
  find_in_both ids tombs h k =
      find_in_order ids tombs (ascend_from ids h)
      ∙ ap (λ (o : Option SegId). earlier (find test ids) o)
      (
      ap (λ (xs : List SegId). find test (in_order xs)) (sym (append-nil tombs))
      ∙ (find_in_order tombs [] (ascend_from tombs k) ∙ earlier_alone (find test tombs))
      )
