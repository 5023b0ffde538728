-- The ids of one chunk, found among sorted ids.
use Rattle.std.proofs.Common.{Bool, List, [], ap, arith, false, filter, get_or, inl, inr, length, not, refl, subst, suc, sym, take, true, ℕ, ◌&&◌, ◌+◌, ◌-◌, ◌<◌, ◌≤◌, ◌∙◌, ◌++◌, ◌∷◌, ◌≡◌, ◌⊎◌, ◌||◌, bytes_eq, int_le, int_lt, ℤ}
use Rattle.std.specs.Prelude.{None, Some}
use Rattle.std.specs.List.{slice_get}
use Rattle.std.specs.List.Sorted.{IsPartitionPoint, IsPartitionedBy, IsPermutation, IsSorted}
use Rattle.std.specs.Cmp.Lexicographic.{slice_cmp}
use Rattle.std.specs.Ordering.{int_cmp, int_eq, is_lt, nat_cmp, ordering_reverse, ordering_then}
use Rattle.std.specs.declared.cmp.Ordering.{Ordering}
use Rattle.std.proofs.lemmas.Bool.{and_from, and_parts, false≢true, or_cases, or_left, or_right}
use Rattle.std.proofs.lemmas.Cmp.{nat_list_cmp_total, tied_itself}
use Rattle.std.proofs.lemmas.Int.{ints}
use Rattle.std.proofs.lemmas.Slice.Eq.{bytes_eq-Decides}
use Rattle.std.proofs.lemmas.Bool.Decides.{Decides-int_eq}
use Rattle.std.proofs.lemmas.List.{get_or-take, get_or_default, length-take}
use Rattle.std.proofs.lemmas.List.Sorted.{IsPermutation-sym, ranks_by, sorted_far}
use Rattle.iv_span.specs.Extent.{Extent}
use Rattle.seg_names.specs.Ids.{extent_cmp, id_cmp, same_extent, same_id}
use Rattle.seg_names.specs.declared.seg_id.SegId.{SegId}
use Rattle.book_rows.specs.Ids.{id_before, is_less, put_by, put_id}
use Rattle.book_rows.specs.Lists.{In, list_links}
use Rattle.book_rows.specs.Shown.{used_rows}
use Rattle.book_rows.specs.declared.rows.SegmentRow.{SegmentRow}
use Rattle.laws_chunks.proofs.IdOrder.{id_total, in_order_In}
use Rattle.laws_chunks.proofs.Members.{In-append, In-filter, In-left, In-map, In-right, filter_In, map_In}
use Rattle.laws_chunks.proofs.Spans.{extents, le_cases, lt_not_self, same_extent_from, same_extent_means, same_id_from, same_id_means}
use Rattle.book_rows.specs.declared.replies.TimelinePart.{TimelinePart}
use Rattle.timeline_view.specs.declared.sweep.Stretch.{Stretch}
use Rattle.timeline_view.specs.Chunks.{AreChunkIds, AreIdsIn, ArePartsOf, HaveOneSource, IsPartOf, cover_of, is_before, is_in, last_is, named_ids}
use Rattle.timeline_view.specs.declared.sweep.Cover.{Cover}
use Rattle.timeline_view.proofs.Covers.{covers_whole}
use Rattle.timeline_view.proofs.Places.{In_at, In_permuted, In_take_later, In_take_more, In_take_or, In_take_this, at_In, take_In}
use Rattle.laws_parts.proofs.Unique.{none_not_some, some_same}
use Rattle.std.specs.declared.cmp.Ordering.TheVariants as Orderings

-- ---- the last id

pub last_none : (ids : List SegId) (a : SegId) → length ids ≤ 0 → last_is ids a ≡ false
last_none [] a h = refl
last_none (b ∷ ids) a h = absurd (omega (arith, h))

pub last_at : (ids : List SegId) (a b : SegId) → Some b ≡ slice_get ids (length ids - 1) → last_is ids a ≡ same_id b a
last_at [] a b h = absurd (none_not_some None b refl (sym h))
last_at (c ∷ []) a b h = ap (λ (x : SegId). same_id x a) (sym (some_same b c h))
last_at (c ∷ d ∷ ids) a b h = last_at (d ∷ ids) a b (h ∙ shorter) where
  shorter : slice_get (c ∷ d ∷ ids) (length (c ∷ d ∷ ids) - 1) ≡ slice_get (d ∷ ids) (length (d ∷ ids) - 1)
  shorter = ap (λ (n : ℕ). slice_get (c ∷ d ∷ ids) n) two ∙ sym (ap (λ (n : ℕ). slice_get (d ∷ ids) n) one) where
    two : length (c ∷ d ∷ ids) - 1 ≡ suc (length ids)
    two = omega arith

    one : length (d ∷ ids) - 1 ≡ length ids
    one = omega arith

last_In : (ids : List SegId) (a : SegId) → last_is ids a ≡ true → In a ids
last_In [] a h = absurd (false≢true h)
last_In (b ∷ []) a h = inl (sym (same_id_means b a h))
last_In (b ∷ c ∷ ids) a h = inr (last_In (c ∷ ids) a h)

-- ---- order

equal_is : (a b : SegId) → id_cmp a b ≡ Orderings.Equal → a ≡ b
equal_is a b e = one (subst (λ (o : Ordering). In a (put_by o a b [] (put_id a []))) e (in_order_In a (a ∷ b ∷ []) (inl refl))) where
  one : In a (b ∷ []) → a ≡ b
  one (inl s) = s
  one (inr k) = absurd k

before_from : (a b : SegId) (o p : Ordering) → id_cmp a b ≡ o → id_cmp b a ≡ p → is_lt p ≡ false → same_id a b ≡ false → is_less o ≡ true
before_from a b Orderings.Less p e f h k = refl
before_from a b Orderings.Equal p e f h k = absurd (false≢true (sym k ∙ same)) where
  same : same_id a b ≡ true
  same = same_id_from a b (equal_is a b e)
before_from a b Orderings.Greater p e f h k = absurd (false≢true (sym h ∙ turned (id_cmp a b) (id_cmp b a) e p f (id_total.antisymm b a))) where
  turned : (o q : Ordering) → o ≡ Orderings.Greater → (p : Ordering) → q ≡ p → q ≡ ordering_reverse o → is_lt p ≡ true
  turned o q g p f r = subst (λ (x : Ordering). is_lt x ≡ true) f (rw (r, g) refl)

links_push : (ids : List SegId) (a : SegId) → list_links id_before ids ≡ true → ((b : SegId) → In b ids → is_lt (id_cmp a b) ≡ false) → last_is ids a ≡ false → list_links id_before (ids ++ a ∷ []) ≡ true
links_push [] a links low off = refl
links_push (b ∷ []) a links low off = and_from (id_before b a) true (before_from b a (id_cmp b a) (id_cmp a b) refl refl (low b (inl refl)) off) refl
links_push (b ∷ c ∷ ids) a links low off = let both = and_parts (id_before b c) (list_links id_before (c ∷ ids)) links in
    and_from (id_before b c) (list_links id_before (c ∷ (ids ++ a ∷ []))) both.0 (links_push (c ∷ ids) a both.1 (λ x i. low x (inr i)) off)

-- ---- what is found among the first i

module _ (test : SegId → Bool) (ids : List SegId) (sorted : IsSorted id_cmp ids) where
  not_after : (a : SegId) (i : ℕ) → i < length ids → a ≡ get_or ids i a → (b : SegId) → In b (take i ids) → is_lt (id_cmp a b) ≡ false
  not_after a i lt is b k = go (In_at (take i ids) b k) where
    go : (j : ℕ) × (j < length (take i ids)) × (get_or (take i ids) j b ≡ b) → is_lt (id_cmp a b) ≡ false
    go w = rw (a_is, b_is) far where
      before : w.0 < i
      before = omega (arith, w.1, length-take i ids)

      far : is_lt (id_cmp (get_or ids i a) (get_or ids w.0 a)) ≡ false
      far = sorted_far (λ x y. is_lt (id_cmp x y)) (ranks_by id_total (λ (x : SegId). x)) ids sorted w.0 i a (omega (arith, before)) lt

      a_is : a ≡ get_or ids i a
      a_is = is

      b_is : b ≡ get_or ids w.0 a
      b_is = sym w.2 ∙ get_or-take i ids w.0 b before ∙ get_or_default ids w.0 b a (omega (arith, before, lt))

  pub one_found : (found : List SegId) (i : ℕ) (a : SegId) → i < length ids → a ≡ get_or ids i a → AreIdsIn test (take i ids) found → test a ≡ true → last_is found a ≡ false → AreIdsIn test (take (i + 1) ids) (found ++ a ∷ [])
  one_found found i a lt is w on new = record {
    linked = links_push found a w.linked (λ b k. not_after a i lt is b (w.from b k).0) new;
    from = λ b k. from b (In-append b found (a ∷ []) k);
    all = λ b k h. all b h (In_take_more ids b a i lt k);
  } where
    from : (b : SegId) → In b found ⊎ In b (a ∷ []) → In b (take (i + 1) ids) × (test b ≡ true)
    from b (inl k) = let f = w.from b k in (In_take_later ids b a i lt f.0, f.1)
    from b (inr (inl e)) = (In_take_this ids b a i lt (e ∙ is), subst (λ (x : SegId). test x ≡ true) (sym e) on)
    from b (inr (inr k)) = absurd k

    all : (b : SegId) → test b ≡ true → In b (take i ids) ⊎ (b ≡ get_or ids i a) → In b (found ++ a ∷ [])
    all b h (inl k) = In-left b found (a ∷ []) (w.all b k h)
    all b h (inr e) = In-right b found (a ∷ []) (inl (e ∙ sym is))

  pub found_before : (found : List SegId) (i : ℕ) (a : SegId) → i < length ids → a ≡ get_or ids i a → AreIdsIn test (take i ids) found → last_is found a ≡ true → AreIdsIn test (take (i + 1) ids) found
  found_before found i a lt is w last = record {
    linked = w.linked;
    from = λ b k. let f = w.from b k in (In_take_later ids b a i lt f.0, f.1);
    all = λ b k h. all b h (In_take_more ids b a i lt k);
  } where
    all : (b : SegId) → test b ≡ true → In b (take i ids) ⊎ (b ≡ get_or ids i a) → In b found
    all b h (inl k) = w.all b k h
    all b h (inr e) = subst (λ (x : SegId). In x found) (sym (e ∙ sym is)) (last_In found a last)

-- ---- ids that follow one another

then_left : (x y : Ordering) → x ≡ Orderings.Equal → ordering_then x y ≡ y
then_left x y e = rw e refl

-- the second id doesn't stand before the first, by span and version
record Follows (a b : SegId) : Type 0 where
  start : int_le a.span.start b.span.start ≡ true
  end : a.span.start ≡ b.span.start → int_le a.span.end b.span.end ≡ true
  version : a.span.start ≡ b.span.start → a.span.end ≡ b.span.end → int_le a.version b.version ≡ true

by_start : (a b : ℤ) (x y : Ordering) → is_lt (ordering_then (ordering_then (int_cmp b a) x) y) ≡ false → int_le a b ≡ true
by_start a b x y h = grind (arith, ints)

by_end : (a b c d : ℤ) (y : Ordering) → a ≡ b → is_lt (ordering_then (ordering_then (int_cmp b a) (int_cmp d c)) y) ≡ false → int_le c d ≡ true
by_end a b c d y e h = grind (arith, ints)

by_version : (a b c d v w : ℤ) (y : Ordering) → a ≡ b → c ≡ d → is_lt (ordering_then (ordering_then (int_cmp b a) (int_cmp d c)) (ordering_then (int_cmp w v) y)) ≡ false → int_le v w ≡ true
by_version a b c d v w y e f h = grind (arith, ints)

follows : (a b : SegId) → a.source ≡ b.source → is_lt (id_cmp b a) ≡ false → Follows a b
follows a b same h = record {
  start = by_start a.span.start b.span.start (int_cmp b.span.end a.span.end) (ordering_then (int_cmp b.version a.version) (nat_cmp b.part a.part)) rest;
  end = λ e. by_end a.span.start b.span.start a.span.end b.span.end (ordering_then (int_cmp b.version a.version) (nat_cmp b.part a.part)) e rest;
  version = λ e f. by_version a.span.start b.span.start a.span.end b.span.end a.version b.version (nat_cmp b.part a.part) e f rest;
} where
  equal : slice_cmp nat_cmp b.source a.source ≡ Orderings.Equal
  equal = subst (λ (x : List ℕ). slice_cmp nat_cmp b.source x ≡ Orderings.Equal) (sym same) (tied_itself nat_list_cmp_total b.source)

  rest : is_lt (ordering_then (extent_cmp b.span a.span) (ordering_then (int_cmp b.version a.version) (nat_cmp b.part a.part))) ≡ false
  rest = ap is_lt (sym (then_left (slice_cmp nat_cmp b.source a.source) (ordering_then (extent_cmp b.span a.span) (ordering_then (int_cmp b.version a.version) (nat_cmp b.part a.part))) equal)) ∙ h

eq_itself : (x y : ℤ) → x ≡ y → int_eq x y ≡ true
eq_itself x y e = (Decides-int_eq x y).1 e

le_lt_lt : (a b c : ℤ) → int_le a b ≡ true → int_lt b c ≡ true → int_lt a c ≡ true
le_lt_lt a b c h k = grind (arith, ints)

lt_same : (a b c : ℤ) → int_lt a b ≡ true → b ≡ c → int_lt a c ≡ true
lt_same a b c h e = subst (λ (x : ℤ). int_lt a x ≡ true) e h

-- what stands before those of a chunk, by its first part that differs
module _ (c : Cover) (a : SegId) where
  at_start : int_lt a.span.start c.span.start ≡ true → is_before c a ≡ true
  at_start h = or_left (int_lt a.span.start c.span.start) (int_eq a.span.start c.span.start && (int_lt a.span.end c.span.end || (int_eq a.span.end c.span.end && int_lt a.version c.version))) h

  at_end : a.span.start ≡ c.span.start → int_lt a.span.end c.span.end ≡ true → is_before c a ≡ true
  at_end e h = or_right (int_lt a.span.start c.span.start) (int_eq a.span.start c.span.start && (int_lt a.span.end c.span.end || (int_eq a.span.end c.span.end && int_lt a.version c.version)))
      (and_from (int_eq a.span.start c.span.start) (int_lt a.span.end c.span.end || (int_eq a.span.end c.span.end && int_lt a.version c.version)) (eq_itself a.span.start c.span.start e)
      (or_left (int_lt a.span.end c.span.end) (int_eq a.span.end c.span.end && int_lt a.version c.version) h))

  at_version : a.span.start ≡ c.span.start → a.span.end ≡ c.span.end → int_lt a.version c.version ≡ true → is_before c a ≡ true
  at_version e f h = or_right (int_lt a.span.start c.span.start) (int_eq a.span.start c.span.start && (int_lt a.span.end c.span.end || (int_eq a.span.end c.span.end && int_lt a.version c.version)))
      (and_from (int_eq a.span.start c.span.start) (int_lt a.span.end c.span.end || (int_eq a.span.end c.span.end && int_lt a.version c.version)) (eq_itself a.span.start c.span.start e)
      (or_right (int_lt a.span.end c.span.end) (int_eq a.span.end c.span.end && int_lt a.version c.version) (and_from (int_eq a.span.end c.span.end) (int_lt a.version c.version) (eq_itself a.span.end c.span.end f) h)))

  by_first : (P : Type 0) → (int_lt a.span.start c.span.start ≡ true → P) → (a.span.start ≡ c.span.start → int_lt a.span.end c.span.end ≡ true → P) → (a.span.start ≡ c.span.start → a.span.end ≡ c.span.end → int_lt a.version c.version ≡ true → P) → is_before c a ≡ true → P
  by_first P start end version h = elim (or_cases (int_lt a.span.start c.span.start) (int_eq a.span.start c.span.start && (int_lt a.span.end c.span.end || (int_eq a.span.end c.span.end && int_lt a.version c.version))) h) [
    | inl lt ↦ start lt
    | inr both ↦ (let one = and_parts (int_eq a.span.start c.span.start) (int_lt a.span.end c.span.end || (int_eq a.span.end c.span.end && int_lt a.version c.version)) both in
        let e : a.span.start ≡ c.span.start = (Decides-int_eq a.span.start c.span.start).0 one.0 in
        elim (or_cases (int_lt a.span.end c.span.end) (int_eq a.span.end c.span.end && int_lt a.version c.version) one.1) [
          | inl lt ↦ end e lt
          | inr last ↦ (let two = and_parts (int_eq a.span.end c.span.end) (int_lt a.version c.version) last in version e ((Decides-int_eq a.span.end c.span.end).0 two.0) two.1)
        ])
  ]

-- what follows an id that doesn't stand before those of a chunk doesn't either
before_down : (c : Cover) (a b : SegId) → Follows a b → is_before c b ≡ true → is_before c a ≡ true
before_down c a b w = by_first c b (is_before c a ≡ true) start end version where
  start : int_lt b.span.start c.span.start ≡ true → is_before c a ≡ true
  start lt = at_start c a (le_lt_lt a.span.start b.span.start c.span.start w.start lt)

  end : b.span.start ≡ c.span.start → int_lt b.span.end c.span.end ≡ true → is_before c a ≡ true
  end e lt = elim (le_cases a.span.start b.span.start w.start) [
    | inl s ↦ at_end c a (s ∙ e) (le_lt_lt a.span.end b.span.end c.span.end (w.end s) lt)
    | inr less ↦ at_start c a (lt_same a.span.start b.span.start c.span.start less e)
  ]

  version : b.span.start ≡ c.span.start → b.span.end ≡ c.span.end → int_lt b.version c.version ≡ true → is_before c a ≡ true
  version e f lt = elim (le_cases a.span.start b.span.start w.start) [
    | inl s ↦ elim (le_cases a.span.end b.span.end (w.end s)) [
      | inl t ↦ at_version c a (s ∙ e) (t ∙ f) (le_lt_lt a.version b.version c.version (w.version s t) lt)
      | inr less ↦ at_end c a (s ∙ e) (lt_same a.span.end b.span.end c.span.end less f)
    ]
    | inr less ↦ at_start c a (lt_same a.span.start b.span.start c.span.start less e)
  ]

-- an id of the chunk doesn't stand before those of the chunk
in_not_before : (c : Cover) (a : SegId) → is_in c a ≡ true → is_before c a ≡ true → ⊥
in_not_before c a on = by_first c a ⊥ (λ lt. lt_not_self a.span.start c.span.start (sym (ap (λ (e : Extent). e.start) span)) lt) (λ e lt. lt_not_self a.span.end c.span.end (sym (ap (λ (e : Extent). e.end) span)) lt) (λ e f lt. lt_not_self a.version c.version (sym version) lt) where
  both : (int_eq c.version a.version ≡ true) × (same_extent c.span a.span ≡ true)
  both = and_parts (int_eq c.version a.version) (same_extent c.span a.span) on

  version : c.version ≡ a.version
  version = (Decides-int_eq c.version a.version).0 both.0

  span : c.span ≡ a.span
  span = same_extent_means c.span a.span both.1

in_from : (c : Cover) (a : SegId) → c.version ≡ a.version → c.span ≡ a.span → is_in c a ≡ true
in_from c a e f = and_from (int_eq c.version a.version) (same_extent c.span a.span) (eq_itself c.version a.version e) (same_extent_from c.span a.span f)

-- between an id that doesn't stand before those of the chunk and one of them stand only others of them
between_in : (c : Cover) (a b : SegId) → Follows a b → is_before c a ≡ false → is_in c b ≡ true → is_in c a ≡ true
between_in c a b w off on = first (le_cases a.span.start b.span.start w.start) where
  both : (int_eq c.version b.version ≡ true) × (same_extent c.span b.span ≡ true)
  both = and_parts (int_eq c.version b.version) (same_extent c.span b.span) on

  version : b.version ≡ c.version
  version = sym ((Decides-int_eq c.version b.version).0 both.0)

  span : b.span ≡ c.span
  span = sym (same_extent_means c.span b.span both.1)

  clash : is_before c a ≡ true → ⊥
  clash h = false≢true (sym off ∙ h)

  third : a.span.start ≡ b.span.start → a.span.end ≡ b.span.end → (a.version ≡ b.version) ⊎ (int_lt a.version b.version ≡ true) → is_in c a ≡ true
  third s t (inl v) = in_from c a (sym (v ∙ version)) (sym (extents s t ∙ span))
  third s t (inr less) = absurd (clash (at_version c a (s ∙ ap (λ (e : Extent). e.start) span) (t ∙ ap (λ (e : Extent). e.end) span) (lt_same a.version b.version c.version less version)))

  second : a.span.start ≡ b.span.start → (a.span.end ≡ b.span.end) ⊎ (int_lt a.span.end b.span.end ≡ true) → is_in c a ≡ true
  second s (inl t) = third s t (le_cases a.version b.version (w.version s t))
  second s (inr less) = absurd (clash (at_end c a (s ∙ ap (λ (e : Extent). e.start) span) (lt_same a.span.end b.span.end c.span.end less (ap (λ (e : Extent). e.end) span))))

  first : (a.span.start ≡ b.span.start) ⊎ (int_lt a.span.start b.span.start ≡ true) → is_in c a ≡ true
  first (inl s) = second s (le_cases a.span.end b.span.end (w.end s))
  first (inr less) = absurd (clash (at_start c a (lt_same a.span.start b.span.start c.span.start less (ap (λ (e : Extent). e.start) span))))

-- ---- where the ids of a chunk begin and end

module _ (c : Cover) (ids : List SegId) (sorted : IsSorted id_cmp ids) (one : HaveOneSource ids) where
  far : (i j : ℕ) (d : SegId) → i ≤ j → j < length ids → Follows (get_or ids i d) (get_or ids j d)
  far i j d le lt = follows (get_or ids i d) (get_or ids j d) (one (get_or ids i d) (get_or ids j d) (there i (omega (arith, le, lt))) (there j lt)) (sorted_far (λ x y. is_lt (id_cmp x y)) (ranks_by id_total (λ (x : SegId). x)) ids sorted i j d le lt) where
    there : (k : ℕ) → k < length ids → In (get_or ids k d) ids
    there k in' = at_In ids (get_or ids k d) k in' (get_or_default ids k (get_or ids k d) d in')

  pub before_splits : IsPartitionedBy (is_before c) ids
  before_splits i j d le lt on = before_down c (get_or ids i d) (get_or ids j d) (far i j d le lt) on

  -- none of the first is of the chunk
  pub none_before : (from : ℕ) → IsPartitionPoint (λ a. is_before c a ≡ true) (λ a. is_before c a ≡ false) ids from → AreIdsIn (is_in c) (take from ids) []
  none_before from w = record { linked = refl; from = λ a i. absurd i; all = λ a i on. absurd (none a (In_at (take from ids) a i) on) } where
    none : (a : SegId) → (k : ℕ) × (k < length (take from ids)) × (get_or (take from ids) k a ≡ a) → is_in c a ≡ true → ⊥
    none a k on = in_not_before c a on (subst (λ (x : SegId). is_before c x ≡ true) (sym (get_or-take from ids k.0 a less) ∙ k.2) (w.0 k.0 a (omega arith) less)) where
      less : k.0 < from
      less = omega (arith, k.1, length-take from ids)

  -- nor any from one on that is neither of the chunk nor before it
  pub none_after : (found : List SegId) (i : ℕ) (a : SegId) → i < length ids → a ≡ get_or ids i a → is_before c a ≡ false → is_in c a ≡ false → AreIdsIn (is_in c) (take i ids) found → AreIdsIn (is_in c) ids found
  none_after found i a lt is later off w = record {
    linked = w.linked;
    from = λ b k. let f = w.from b k in (take_In ids b i f.0, f.1);
    all = λ b k on. all b on (In_take_or ids b i k);
  } where
    all : (b : SegId) → is_in c b ≡ true → In b (take i ids) ⊎ ((j : ℕ) × (i ≤ j) × (j < length ids) × (get_or ids j b ≡ b)) → In b found
    all b on (inl k) = w.all b k on
    all b on (inr k) = absurd (false≢true (sym off ∙ between_in c a b here later on)) where
      here : Follows a b
      here = subst (λ (x : SegId). Follows x b) (get_or_default ids i b a lt ∙ sym is) (subst (λ (y : SegId). Follows (get_or ids i b) y) k.3 (far i k.0 b k.1 k.2))

-- ---- so they are those of the chunk

pub chunk_ids : (rows : List SegmentRow) (c : Cover) (ids found : List SegId) → IsPermutation (named_ids rows) ids → AreIdsIn (is_in c) ids found → AreChunkIds rows c found
chunk_ids rows c ids found perm w = record { linked = w.linked; from = from; all = λ r i on is. w.all r.id (In_permuted (named_ids rows) ids r.id perm (map_In (λ (r : SegmentRow). r.id) r (filter (λ (r : SegmentRow). not r.tombstone) rows) (filter_In (λ (r : SegmentRow). not r.tombstone) r rows i on))) (in_from c r.id (sym (ap (λ (x : Cover). x.version) is)) (sym (ap (λ (x : Cover). x.span) is))) } where
  from : (a : SegId) → In a found → (r : SegmentRow) × In r rows × (not r.tombstone ≡ true) × (r.id ≡ a) × (cover_of r ≡ c)
  from a i =
      let f = w.from a i in
      let m = In-map (λ (r : SegmentRow). r.id) a (filter (λ (r : SegmentRow). not r.tombstone) rows) (In_permuted ids (named_ids rows) a (IsPermutation-sym (named_ids rows) ids perm) f.0) in
      let g = In-filter (λ (r : SegmentRow). not r.tombstone) m.0 rows m.1 in
      let both = and_parts (int_eq c.version a.version) (same_extent c.span a.span) f.1 in
      (m.0, g.0, g.1, sym m.2, covers_whole (cover_of m.0) c (ap (λ (x : SegId). x.version) (sym m.2) ∙ sym ((Decides-int_eq c.version a.version).0 both.0)) (ap (λ (x : SegId). x.span) (sym m.2) ∙ sym (same_extent_means c.span a.span both.1)))

-- the ids of rows of one source have that source
pub named_have_one : (rows : List SegmentRow) (source : List ℕ) (ids : List SegId) → IsPermutation (named_ids (used_rows rows source)) ids → HaveOneSource ids
named_have_one rows source ids perm a b i j = of_source a i ∙ sym (of_source b j) where
  of_source : (x : SegId) → In x ids → x.source ≡ source
  of_source x k =
      let m = In-map (λ (r : SegmentRow). r.id) x (filter (λ (r : SegmentRow). not r.tombstone) (used_rows rows source)) (In_permuted ids (named_ids (used_rows rows source)) x (IsPermutation-sym (named_ids (used_rows rows source)) ids perm) k) in
      let f = In-filter (λ (r : SegmentRow). not r.tombstone) m.0 (used_rows rows source) m.1 in
      let g = In-filter (λ (r : SegmentRow). r.used && bytes_eq r.id.source source) m.0 rows f.0 in
      ap (λ (y : SegId). y.source) m.2 ∙ (bytes_eq-Decides m.0.id.source source).0 (and_parts m.0.used (bytes_eq m.0.id.source source) g.1).1

pub parts_push : (rows : List SegmentRow) (ps : List Stretch) (qs : List TimelinePart) (p : Stretch) (q : TimelinePart) → ArePartsOf rows ps qs → IsPartOf rows p q → ArePartsOf rows (ps ++ p ∷ []) (qs ++ q ∷ [])
parts_push rows [] [] p q w h = (h, tt)
parts_push rows [] (y ∷ qs) p q w h = absurd w
parts_push rows (x ∷ ps) [] p q w h = absurd w
parts_push rows (x ∷ ps) (y ∷ qs) p q w h = (w.0, parts_push rows ps qs p q w.1 h)
