-- Parts that stand in order: those before a place and those from it on, and the edges of what a change touches.
use Rattle.std.proofs.Common.{Bool, List, [], ap, arith, drop, false, get_or, inl, inr, int_le, int_lt, length, map, refl, slice_get, subst, suc, sym, take, true, zero, ℕ, ℤ, ◌+◌, ◌<◌, ◌≤◌, ◌∙◌, ◌∷◌, ◌++◌, ◌≡◌, ◌⊎◌}
use Rattle.std.specs.Prelude.{Some}
use Rattle.std.specs.Int.{int_max, int_min}
use Rattle.std.specs.List.Sorted.{IsPartitionPoint, IsPartitionedBy}
use Rattle.std.proofs.lemmas.Int.{clamps, ints}
use Rattle.std.proofs.lemmas.List.{drop_more, get_or-drop, get_or-map, get_or-take, get_or_default, length-drop, length-map, length-take-le, take-append-drop, take_more}
use Rattle.book_rows.specs.Lists.{In}
use Rattle.book_rows.specs.Shown.{ChunkPart, timeline_part}
use Rattle.book_rows.specs.declared.replies.TimelinePart.{TimelinePart}
use Rattle.laws_chunks.proofs.Members.{In-append, In-right}
use Rattle.timeline_kept.specs.Edges.{IsLeftEdge, IsRightEdge, Splits, ends_before, starts_by}
use Rattle.timeline_kept.specs.PartLists.{with_chunk}
use Rattle.timeline_kept.specs.Shown.{AreMaximal}
use Rattle.timeline_kept.proofs.Showing.{later, rest_maximal}
use Rattle.timeline_view.proofs.Places.{In_at, at_In, got}

-- ---- one before another

pub cross_order : (xs ys : List ChunkPart) → AreMaximal (xs ++ ys) → (p q : ChunkPart) → In p xs → In q ys → int_le p.span.end q.span.start ≡ true
cross_order [] ys w p q i j = absurd i
cross_order (x ∷ xs) ys w p q (inl e) j = subst (λ (y : ChunkPart). int_le y.span.end q.span.start ≡ true) (sym e) (later x (xs ++ ys) w q (In-right q xs ys j))
cross_order (x ∷ xs) ys w p q (inr i) j = cross_order xs ys (rest_maximal x (xs ++ ys) w) p q i j

item_In : (ps : List ChunkPart) (i : ℕ) (d : ChunkPart) → i < length ps → In (get_or ps i d) ps
item_In ps i d lt = at_In ps (get_or ps i d) i lt (get_or_default ps i (get_or ps i d) d lt)

ascends : (ps : List ChunkPart) → AreMaximal ps → (i j : ℕ) (d : ChunkPart) → i < j → j < length ps → int_le (get_or ps i d).span.end (get_or ps j d).span.start ≡ true
ascends [] w i j d less in' = absurd (omega (arith, in'))
ascends (p ∷ ps) w i zero d less in' = absurd (omega (arith, less))
ascends (p ∷ ps) w zero (suc j) d less in' = later p ps w (get_or ps j d) (item_In ps j d (omega (arith, in')))
ascends (p ∷ ps) w (suc i) (suc j) d less in' = ascends ps (rest_maximal p ps w) i j d (omega (arith, less)) (omega (arith, in'))

le_split : (i j : ℕ) → i ≤ j → (i < j) ⊎ (i ≡ j)
le_split zero zero h = inr refl
le_split zero (suc j) h = inl (omega arith)
le_split (suc i) zero h = absurd (omega (arith, h))
le_split (suc i) (suc j) h = elim (le_split i j (omega (arith, h))) [ inl less ↦ inl (omega (arith, less)) | inr same ↦ inr (ap suc same) ]

-- ---- tests that split the list

-- a test that passes for what comes before a part for which it passes
abbrev IsEarly : (TimelinePart → Bool) → List ChunkPart → Type 0
IsEarly test ps = (p q : ChunkPart) → In p ps → In q ps → int_le p.span.end q.span.start ≡ true → test (timeline_part q) ≡ true → test (timeline_part p) ≡ true

parted : (test : TimelinePart → Bool) (ps : List ChunkPart) → AreMaximal ps → IsEarly test ps → IsPartitionedBy test (map timeline_part ps)
parted test ps w early i j d le lt on = subst (λ (x : TimelinePart). test x ≡ true) (sym (get_or-map timeline_part ps i e d short)) (go (le_split i j le)) where
  e : ChunkPart
  e = with_chunk d d.span

  long : j < length ps
  long = subst (λ (n : ℕ). j < n) (length-map ps timeline_part) lt

  short : i < length ps
  short = omega (arith, le, long)

  at : test (timeline_part (get_or ps j e)) ≡ true
  at = subst (λ (x : TimelinePart). test x ≡ true) (get_or-map timeline_part ps j e d long) on

  go : (i < j) ⊎ (i ≡ j) → test (timeline_part (get_or ps i e)) ≡ true
  go (inl less) = early (get_or ps i e) (get_or ps j e) (item_In ps i e short) (item_In ps j e long) (ascends ps w i j e less long) at
  go (inr same) = subst (λ (k : ℕ). test (timeline_part (get_or ps k e)) ≡ true) (sym same) at

end_early : (e s z t : ℤ) → int_le e s ≡ true → int_lt s z ≡ true → int_lt z t ≡ true → int_lt e t ≡ true
end_early e s z t h k l = grind (arith, ints)

start_early : (s e z t : ℤ) → int_lt s e ≡ true → int_le e z ≡ true → int_le z t ≡ true → int_le s t ≡ true
start_early s e z t h k l = grind (arith, ints)

pub ended_part : (t : ℤ) (ps : List ChunkPart) → AreMaximal ps → IsPartitionedBy (ends_before t) (map timeline_part ps)
ended_part t ps w = parted (ends_before t) ps w (λ p q i j le on. end_early p.span.end q.span.start q.span.end t le (w.proper q j) on)

pub started_part : (t : ℤ) (ps : List ChunkPart) → AreMaximal ps → IsPartitionedBy (starts_by t) (map timeline_part ps)
started_part t ps w = parted (starts_by t) ps w (λ p q i j le on. start_early p.span.start p.span.end q.span.start t (w.proper p i) le on)

pub splits : (test : TimelinePart → Bool) (ps : List ChunkPart) (k : ℕ) → IsPartitionPoint (λ p. test p ≡ true) (λ p. test p ≡ false) (map timeline_part ps) k → k ≤ length ps → Splits test ps k
splits test ps k point le = record {
  bound = le;
  before = λ p i. low p (In_at (take k ps) p i);
  after = λ p i. high p (In_at (drop k ps) p i);
} where
  low : (p : ChunkPart) → (j : ℕ) × (j < length (take k ps)) × (get_or (take k ps) j p ≡ p) → test (timeline_part p) ≡ true
  low p (j, lt, e) =
      let in' : j < k = subst (λ (n : ℕ). j < n) (length-take-le k ps le) lt in
      let at : get_or ps j p ≡ p = sym (get_or-take k ps j p in') ∙ e in
      subst (λ (x : ChunkPart). test (timeline_part x) ≡ true) at (subst (λ (x : TimelinePart). test x ≡ true) (get_or-map timeline_part ps j p (timeline_part p) (omega (arith, in', le))) (point.0 j (timeline_part p) (omega arith) in'))

  high : (p : ChunkPart) → (j : ℕ) × (j < length (drop k ps)) × (get_or (drop k ps) j p ≡ p) → test (timeline_part p) ≡ false
  high p (j, lt, e) =
      let in' : k + j < length ps = omega (arith, subst (λ (n : ℕ). j < n) (length-drop k ps) lt) in
      let at : get_or ps (k + j) p ≡ p = sym (get_or-drop k ps j p) ∙ e in
      subst (λ (x : ChunkPart). test (timeline_part x) ≡ false) at (subst (λ (x : TimelinePart). test x ≡ false) (get_or-map timeline_part ps (k + j) p (timeline_part p) in')
      (point.1 (k + j) (timeline_part p) (omega arith) (subst (λ (n : ℕ). k + j < n) (sym (length-map ps timeline_part)) in')))

-- ---- edges

module _ (ps : List ChunkPart) (w : AreMaximal ps) (t : ℤ) (k : ℕ) where
  cut : AreMaximal (take k ps ++ drop k ps)
  cut = subst AreMaximal (sym (take-append-drop k ps)) w

  le_itself : (a : ℤ) → int_le a a ≡ true
  le_itself a = grind (arith, ints)

  lt_is_le : (a b : ℤ) → int_lt a b ≡ true → int_le a b ≡ true
  lt_is_le a b h = grind (arith, ints)

  min_second : (a b : ℤ) → int_le (int_min a b) b ≡ true
  min_second a b = grind (arith, ints, clamps)

  le_min : (e a b : ℤ) → int_le e a ≡ true → int_lt e b ≡ true → int_le e (int_min a b) ≡ true
  le_min e a b h k = grind (arith, ints, clamps)

  min_first : (a b : ℤ) → int_le (int_min a b) a ≡ true
  min_first a b = grind (arith, ints, clamps)

  min_later : (a b e s : ℤ) → int_lt a e ≡ true → int_le e s ≡ true → int_le (int_min a b) s ≡ true
  min_later a b e s h k = grind (arith, ints, clamps)

  min_is : (a b : ℤ) → (int_min a b ≡ b) ⊎ (a ≡ int_min a b)
  min_is a b = elim (cases (int_le a b) refl) [ inl h ↦ inr (first a b h) | inr h ↦ inl (second a b h) ] where
    cases : (x : Bool) → int_le a b ≡ x → (int_le a b ≡ true) ⊎ (int_le a b ≡ false)
    cases true h = inl h
    cases false h = inr h

    first : (a b : ℤ) → int_le a b ≡ true → a ≡ int_min a b
    first a b h = grind (arith, ints, clamps)

    second : (a b : ℤ) → int_le a b ≡ false → int_min a b ≡ b
    second a b h = grind (arith, ints, clamps)

  -- all parts end before the instant
  pub left_behind : Splits (ends_before t) ps k → length ps ≤ k → IsLeftEdge ps t k t
  left_behind s le = record {
    bound = s.bound;
    low = le_itself t;
    before = λ p i. (s.before p i, lt_is_le p.span.end t (s.before p i));
    after = λ p i. none p (In_at (drop k ps) p i);
    own = inl refl;
  } where
    none : (p : ChunkPart) → (j : ℕ) × (j < length (drop k ps)) × (get_or (drop k ps) j p ≡ p) → int_le t p.span.start ≡ true
    none p (j, lt, e) = absurd (omega (arith, le, subst (λ (n : ℕ). j < n) (length-drop k ps) lt))

  pub left_of : (p : ChunkPart) → Splits (ends_before t) ps k → slice_get ps k ≡ Some p → IsLeftEdge ps t k (int_min p.span.start t)
  left_of p s there = record {
    bound = s.bound;
    low = min_second p.span.start t;
    before = λ q i. (s.before q i, le_min q.span.end p.span.start t (cross_order (take k ps) (drop k ps) cut q p i here) (s.before q i));
    after = λ q i. later_on q (subst (λ (xs : List ChunkPart). In q xs) from i);
    own = by (min_is p.span.start t);
  } where
    g : (k < length ps) × (p ≡ get_or ps k p)
    g = got ps k p there

    from : drop k ps ≡ p ∷ drop (k + 1) ps
    from = drop_more ps k p g.0 ∙ ap (λ (x : ChunkPart). x ∷ drop (k + 1) ps) (sym g.1)

    here : In p (drop k ps)
    here = subst (λ (xs : List ChunkPart). In p xs) (sym from) (inl refl)

    order : AreMaximal ((take k ps ++ p ∷ []) ++ drop (k + 1) ps)
    order = subst (λ (xs : List ChunkPart). AreMaximal (xs ++ drop (k + 1) ps)) (take_more ps k p g.0 ∙ ap (λ (x : ChunkPart). take k ps ++ x ∷ []) (sym g.1)) (subst AreMaximal (sym (take-append-drop (k + 1) ps)) w)

    later_on : (q : ChunkPart) → In q (p ∷ drop (k + 1) ps) → int_le (int_min p.span.start t) q.span.start ≡ true
    later_on q (inl e) = subst (λ (x : ChunkPart). int_le (int_min p.span.start t) x.span.start ≡ true) (sym e) (min_first p.span.start t)
    later_on q (inr i) = min_later p.span.start t p.span.end q.span.start (w.proper p (at_In ps p k g.0 (sym g.1)))
        (cross_order (take k ps ++ p ∷ []) (drop (k + 1) ps) order p q (In-right p (take k ps) (p ∷ []) (inl refl)) i)

    by : (int_min p.span.start t ≡ t) ⊎ (p.span.start ≡ int_min p.span.start t) → (int_min p.span.start t ≡ t) ⊎ ((q : ChunkPart) × In q (drop k ps) × (q.span.start ≡ int_min p.span.start t))
    by (inl e) = inl e
    by (inr e) = inr (p, here, e)

  max_second : (a b : ℤ) → int_le b (int_max a b) ≡ true
  max_second a b = grind (arith, ints, clamps)

  max_first : (a b : ℤ) → int_le a (int_max a b) ≡ true
  max_first a b = grind (arith, ints, clamps)

  max_earlier : (a b e s : ℤ) → int_le e s ≡ true → int_lt s a ≡ true → int_le e (int_max a b) ≡ true
  max_earlier a b e s h k = grind (arith, ints, clamps)

  max_le : (a b s : ℤ) → int_le a s ≡ true → int_lt b s ≡ true → int_le (int_max a b) s ≡ true
  max_le a b s h k = grind (arith, ints, clamps)

  max_is : (a b : ℤ) → (int_max a b ≡ b) ⊎ (a ≡ int_max a b)
  max_is a b = elim (cases (int_le a b) refl) [ inl h ↦ inl (first a b h) | inr h ↦ inr (second a b h) ] where
    cases : (x : Bool) → int_le a b ≡ x → (int_le a b ≡ true) ⊎ (int_le a b ≡ false)
    cases true h = inl h
    cases false h = inr h

    first : (a b : ℤ) → int_le a b ≡ true → int_max a b ≡ b
    first a b h = grind (arith, ints, clamps)

    second : (a b : ℤ) → int_le a b ≡ false → a ≡ int_max a b
    second a b h = grind (arith, ints, clamps)

  not_le_lt : (a b : ℤ) → int_le a b ≡ false → int_lt b a ≡ true
  not_le_lt a b h = grind (arith, ints)

-- all parts start behind the instant
pub right_before : (ps : List ChunkPart) (t : ℤ) → Splits (starts_by t) ps 0 → IsRightEdge ps t 0 t
right_before ps t s = record {
  bound = s.bound;
  high = le t;
  after = λ p i. (not_le p.span.start t (s.after p i), less p.span.start t (s.after p i));
  before = λ p i. absurd i;
  own = inl refl;
} where
  le : (a : ℤ) → int_le a a ≡ true
  le a = grind (arith, ints)

  not_le : (a b : ℤ) → int_le a b ≡ false → int_lt b a ≡ true
  not_le a b h = grind (arith, ints)

  less : (a b : ℤ) → int_le a b ≡ false → int_le b a ≡ true
  less a b h = grind (arith, ints)

pub right_of : (ps : List ChunkPart) → AreMaximal ps → (t : ℤ) (k : ℕ) (p : ChunkPart) → Splits (starts_by t) ps (k + 1) → slice_get ps k ≡ Some p → IsRightEdge ps t (k + 1) (int_max p.span.end t)
right_of ps w t k p s there = record {
  bound = s.bound;
  high = max_second ps w t k p.span.end t;
  after = λ q i. let late = not_le_lt ps w t k q.span.start t (s.after q i) in (late, max_le ps w t k p.span.end t q.span.start (cross_order (take k ps ++ p ∷ []) (drop (k + 1) ps) order p q (In-right p (take k ps) (p ∷ []) (inl refl)) i) late);
  before = λ q i. early q (In-append q (take k ps) (p ∷ []) (subst (λ (xs : List ChunkPart). In q xs) upto i));
  own = by (max_is ps w t k p.span.end t);
} where
  g : (k < length ps) × (p ≡ get_or ps k p)
  g = got ps k p there

  upto : take (k + 1) ps ≡ take k ps ++ p ∷ []
  upto = take_more ps k p g.0 ∙ ap (λ (x : ChunkPart). take k ps ++ x ∷ []) (sym g.1)

  order : AreMaximal ((take k ps ++ p ∷ []) ++ drop (k + 1) ps)
  order = subst (λ (xs : List ChunkPart). AreMaximal (xs ++ drop (k + 1) ps)) upto (subst AreMaximal (sym (take-append-drop (k + 1) ps)) w)

  from : drop k ps ≡ p ∷ drop (k + 1) ps
  from = drop_more ps k p g.0 ∙ ap (λ (x : ChunkPart). x ∷ drop (k + 1) ps) (sym g.1)

  early : (q : ChunkPart) → In q (take k ps) ⊎ In q (p ∷ []) → int_le q.span.end (int_max p.span.end t) ≡ true
  early q (inl i) = max_earlier ps w t k p.span.end t q.span.end p.span.start (cross_order (take k ps) (drop k ps) (cut ps w t k) q p i (subst (λ (xs : List ChunkPart). In p xs) (sym from) (inl refl))) (w.proper p (at_In ps p k g.0 (sym g.1)))
  early q (inr (inl e)) = subst (λ (x : ChunkPart). int_le x.span.end (int_max p.span.end t) ≡ true) (sym e) (max_first ps w t k p.span.end t)
  early q (inr (inr i)) = absurd i

  by : (int_max p.span.end t ≡ t) ⊎ (p.span.end ≡ int_max p.span.end t) → (int_max p.span.end t ≡ t) ⊎ ((q : ChunkPart) × In q (take (k + 1) ps) × (q.span.end ≡ int_max p.span.end t))
  by (inl e) = inl e
  by (inr e) = inr (p, subst (λ (xs : List ChunkPart). In p xs) (sym upto) (In-right p (take k ps) (p ∷ []) (inl refl)), e)
