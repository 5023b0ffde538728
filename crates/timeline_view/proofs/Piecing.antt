-- The contents, built piece by piece within the stretches.
use Rattle.std.proofs.Common.{Bool, List, [], ap, arith, false, get_or, inl, inr, int_le, int_lt, length, pos, refl, slice_get, subst, sym, take, true, ℕ, ℤ, ◌+◌, ◌<◌, ◌≤◌, ◌∙◌, ◌∷◌, ◌≡◌, ◌⊎◌, ◌&&◌, ◌<ℤ◌, suc, zero}
use Rattle.std.specs.Prelude.{None, Option, Some}
use Rattle.std.specs.Ordering.{int_eq}
use Rattle.std.proofs.lemmas.Bool.{and_from, and_parts, false≢true}
use Rattle.std.proofs.lemmas.Bool.Decides.{Decides-int_eq}
use Rattle.std.proofs.lemmas.Int.{ints}
use Rattle.std.proofs.lemmas.List.{get_or-take, get_or_default, length-take}
use Rattle.iv_span.specs.Extent.{has}
use Rattle.seg_names.specs.declared.seg_id.SegId.{SegId}
use Rattle.book_rows.specs.Lists.{In, list_links}
use Rattle.book_rows.specs.Shown.{roots_agree}
use Rattle.book_rows.specs.declared.replies.ContentsPart.{ContentsPart}
use Rattle.laws_chunks.proofs.Spans.{le_cases}
use Rattle.laws_parts.specs.Laws.{some_roots}
use Rattle.laws_parts.specs.Parts.{AreBuilt, goes_on}
use Rattle.laws_parts.proofs.Building.{built_all, built_empty, built_part, built_same, nothing_yet}
use Rattle.laws_parts.proofs.Determined.{roots_join}
use Rattle.laws_parts.proofs.Unique.{all_after}
use Rattle.timeline_view.specs.Contents.{AreAscending, AreContentsOf, AreGiven, Between, Built, Passed, Waiting, Within, put_roots}
use Rattle.row_index.specs.Index.{IsIndexed, IsLess, IsMore, Shows}
use Rattle.timeline_view.specs.Marks.{AreRootsOf, current, mark_keys}
use Rattle.timeline_view.specs.Sweep.{AreStretches, stretch_span, stretches_agree}
use Rattle.timeline_view.specs.Turns.{AreTurns, DoTurnsRise, IsTurnOf}
use Rattle.timeline_view.specs.declared.marks.Mark.{Mark}
use Rattle.timeline_view.specs.declared.sweep.Cover.{Cover}
use Rattle.timeline_view.specs.declared.sweep.Stretch.{Stretch}
use Rattle.timeline_view.specs.declared.turns.Turn.{Turn}
use Rattle.timeline_view.proofs.Places.{In_at, In_take_more, In_take_or, at_In, got, got_In}
use Rattle.timeline_view.proofs.Sweeping.{le_itself', not_lt_le'}
use Rattle.timeline_view.proofs.Turning.{Entries, ahead, all_indexed, keys_turned, passed_more, roots_stay, turn_of}

le_le_le : (a b c : ℤ) → int_le a b ≡ true → int_le b c ≡ true → int_le a c ≡ true
le_le_le a b c h k = grind (arith, ints)

lt_le : (a b : ℤ) → int_lt a b ≡ true → int_le a b ≡ true
lt_le a b h = grind (arith, ints)

lt_le_lt : (a b c : ℤ) → int_lt a b ≡ true → int_le b c ≡ true → int_lt a c ≡ true
lt_le_lt a b c h k = grind (arith, ints)

lt_is : (a b : ℤ) → int_lt a b ≡ true → a <ℤ b
lt_is a b h = grind (arith, ints)

-- an instant outside of a span
off_before : (s e t : ℤ) → int_lt t s ≡ true → has (record { start = s; end = e }) t ≡ false
off_before s e t h = grind (arith, ints)

off_after : (s e t : ℤ) → int_le e t ≡ true → has (record { start = s; end = e }) t ≡ false
off_after s e t h = grind (arith, ints)

-- ---- stretches ascend

pub stretches_ascend : (cs : List Cover) (ps : List Stretch) → AreStretches cs ps → AreAscending ps
stretches_ascend cs ps w = record { proper = w.proper; apart = λ i j d less in'. apart ps w.linked w.proper i j d less in' } where
  apart : (ps : List Stretch) → list_links (goes_on stretch_span stretches_agree) ps ≡ true → ((p : Stretch) → In p ps → int_lt p.start p.end ≡ true) → (i j : ℕ) (d : Stretch) → i < j → j < length ps → int_le (get_or ps i d).end (get_or ps j d).start ≡ true
  apart [] links proper i j d less in' = absurd (omega (arith, in'))
  apart (p ∷ ps) links proper i zero d less in' = absurd (omega (arith, less))
  apart (p ∷ ps) links proper zero (suc j) d less in' = all_after stretch_span stretches_agree p ps links (λ q i. proper q (inr i)) (get_or ps j d) (at_In ps (get_or ps j d) j (omega (arith, in')) (get_or_default ps j (get_or ps j d) d (omega (arith, in'))))
  apart (p ∷ ps) links proper (suc i) (suc j) d less in' = apart ps (rest ps links) (λ q k. proper q (inr k)) i j d (omega (arith, less)) (omega (arith, in')) where
    rest : (qs : List Stretch) → list_links (goes_on stretch_span stretches_agree) (p ∷ qs) ≡ true → list_links (goes_on stretch_span stretches_agree) qs ≡ true
    rest [] links = refl
    rest (q ∷ qs) links = (and_parts (goes_on stretch_span stretches_agree p q) (list_links (goes_on stretch_span stretches_agree) (q ∷ qs)) links).1

-- the turn at a place comes before an instant that each such turn comes before
pub turn_early : (xs : List Turn) (i : ℕ) (x : Turn) (p : Stretch) → slice_get xs i ≡ Some x → ((d : Turn) → int_lt (get_or xs i d).at p.end ≡ true) → int_lt x.at p.end ≡ true
turn_early xs i x p there early = subst (λ (y : Turn). int_lt y.at p.end ≡ true) (sym (got xs i x there).1) (early x)

module _ (ps : List Stretch) (ms : List Mark) (xs : List Turn) (turned : AreTurns ms xs) (rise : DoTurnsRise xs) where
  -- ---- one piece

  pub piece_built : (p : Stretch) (from to : ℤ) (i : ℕ) (roots : List SegId) (parts : List ContentsPart) → In p ps → int_le p.start from ≡ true → int_lt from to ≡ true → int_le to p.end ≡ true
      → Passed ms xs p.top.version i from → ((x : Turn) → In x xs → In x (take i xs) ⊎ (int_le to x.at ≡ true)) → AreRootsOf ms p.top.version from roots → Built ps ms from parts → Built ps ms to (put_roots parts from to roots)
  piece_built p from to i roots parts among low some high passed next w built given g = go roots gives where
    gives : (t : ℤ) → has (record { start = from; end = to }) t ≡ true → given t ≡ some_roots roots
    gives t h = let both = and_parts (int_le from t) (int_lt t to) h in
        g.inside p t roots among (and_from (int_le p.start t) (int_lt t p.end) (le_le_le p.start from t low both.0) (lt_le_lt t to p.end both.1 high)) (roots_stay ms xs turned rise p.top.version from to i passed next t both.0 both.1 roots w)

    go : (rs : List SegId) → ((t : ℤ) → has (record { start = from; end = to }) t ≡ true → given t ≡ some_roots rs) → AreBuilt (λ (q : ContentsPart). q.span) (λ (q : ContentsPart). q.roots) roots_agree given to (put_roots parts from to rs)
    go [] h = built_empty roots_join given from to parts some h (built given g)
    go (a ∷ rs) h = built_part roots_join given from to parts (record { span = record { start = from; end = to }; roots = a ∷ rs }) some refl h (built given g)

  -- ---- a turn within a stretch

  module _ (p : Stretch) (i : ℕ) (x : Turn) (m : Mark) (ks : Entries) (old : List ContentsPart) (from : ℤ) (there : slice_get xs i ≡ Some x) (own : slice_get ms x.place ≡ Some m) (w : Within ps ms xs p i ks old from) where
    in' : In x xs
    in' = got_In xs i x there

    lt : i < length xs
    lt = (got xs i x there).0

    is : x ≡ get_or xs i x
    is = (got xs i x there).1

    of : IsTurnOf ms x m
    of = turn_of ms xs turned rise x m in' own

    -- what isn't taken comes no earlier
    next : (y : Turn) → In y xs → In y (take i xs) ⊎ (int_le x.at y.at ≡ true)
    next y k = go (ahead ms xs turned rise i x y lt k) where
      go : In y (take i xs) ⊎ (int_le (get_or xs i x).at y.at ≡ true) → In y (take i xs) ⊎ (int_le x.at y.at ≡ true)
      go (inl l) = inl l
      go (inr l) = inr (subst (λ (z : Turn). int_le z.at y.at ≡ true) (sym is) l)

    module _ (on : (int_eq m.version p.top.version && int_lt from x.at) ≡ true) where
      some : int_lt from x.at ≡ true
      some = (and_parts (int_eq m.version p.top.version) (int_lt from x.at) on).1

      pub piece_proper : from <ℤ x.at
      piece_proper = lt_is from x.at some

      pub piece_indexed : IsIndexed mark_keys (λ s. current p.top.version from (slice_get ms s)) ks
      piece_indexed = all_indexed ms xs turned rise p.top.version from x.at i w.passed next ks some w.waiting

      pub turn_cut : (new : Entries) (parts : List ContentsPart) → In p ps → int_lt x.at p.end ≡ true → (roots : List SegId) × AreRootsOf ms p.top.version from roots × (parts ≡ put_roots old from x.at roots)
          → (x.enters ≡ true → IsMore ks new) → (x.enters ≡ true → Shows (mark_keys m) x.place new) → (x.enters ≡ false → IsLess x.place ks new) → Within ps ms xs p (i + 1) new parts x.at
      turn_cut new parts among early put more key less = record {
        waiting = keys_turned ms xs turned rise i x m ks new lt is of w.waiting more key less;
        passed = passed_more ms xs turned rise p.top.version from x.at i x m lt is of (lt_le from x.at some) (λ same. le_itself' x.at) w.passed;
        low = le_le_le p.start from x.at w.low (lt_le from x.at some);
        high = early;
        built = subst (λ (qs : List ContentsPart). Built ps ms x.at qs) (sym put.2) (piece_built p from x.at i put.0 old among w.low some (lt_le x.at p.end early) w.passed next put.1 w.built);
      }

    pub turn_passed : (new : Entries) → (int_eq m.version p.top.version && int_lt from x.at) ≡ false → (x.enters ≡ true → IsMore ks new) → (x.enters ≡ true → Shows (mark_keys m) x.place new) → (x.enters ≡ false → IsLess x.place ks new) → Within ps ms xs p (i + 1) new old from
    turn_passed new off more key less = record {
      waiting = keys_turned ms xs turned rise i x m ks new lt is of w.waiting more key less;
      passed = passed_more ms xs turned rise p.top.version from from i x m lt is of (le_itself' from) here w.passed;
      low = w.low;
      high = w.high;
      built = w.built;
    } where
      here : m.version ≡ p.top.version → int_le x.at from ≡ true
      here same = not_lt_le' from x.at (other (int_eq m.version p.top.version) (int_lt from x.at) ((Decides-int_eq m.version p.top.version).1 same) off) where
        other : (a b : Bool) → a ≡ true → (a && b) ≡ false → b ≡ false
        other true b e h = h
        other false b e h = absurd (false≢true e)

  -- ---- the end of a stretch

  module _ (p : Stretch) (to : ℕ) (ks : Entries) (old : List ContentsPart) (from : ℤ) (late : (k : ℕ) (d : Turn) → to ≤ k → k < length xs → int_lt (get_or xs k d).at p.end ≡ false) (w : Within ps ms xs p to ks old from) where
    later : (y : Turn) → In y xs → In y (take to xs) ⊎ (int_le p.end y.at ≡ true)
    later y k = go (In_take_or xs y to k) where
      go : In y (take to xs) ⊎ ((j : ℕ) × (to ≤ j) × (j < length xs) × (get_or xs j y ≡ y)) → In y (take to xs) ⊎ (int_le p.end y.at ≡ true)
      go (inl l) = inl l
      go (inr v) = inr (not_lt_le' y.at p.end (subst (λ (z : Turn). int_lt z.at p.end ≡ false) v.3 (late v.0 y v.1 v.2)))

    pub last_proper : from <ℤ p.end
    last_proper = lt_is from p.end w.high

    pub last_indexed : IsIndexed mark_keys (λ s. current p.top.version from (slice_get ms s)) ks
    last_indexed = all_indexed ms xs turned rise p.top.version from p.end to w.passed later ks w.high w.waiting

    pub last_built : (parts : List ContentsPart) → In p ps → (roots : List SegId) × AreRootsOf ms p.top.version from roots × (parts ≡ put_roots old from p.end roots) → Built ps ms p.end parts
    last_built parts among put = subst (λ (qs : List ContentsPart). Built ps ms p.end qs) (sym put.2) (piece_built p from p.end to put.0 old among w.low w.high (le_itself' p.end) w.passed later put.1 w.built)

-- ---- from stretch to stretch

module _ (ps : List Stretch) (ms : List Mark) (xs : List Turn) (up : AreAscending ps) where
  -- the stretch at a place starts no later than those behind it
  starts_rise : (i j : ℕ) (d : Stretch) → i ≤ j → j < length ps → int_le (get_or ps i d).start (get_or ps j d).start ≡ true
  starts_rise i j d le lt = elim (cases_le i j le) [
    | inl e ↦ subst (λ (k : ℕ). int_le (get_or ps i d).start (get_or ps k d).start ≡ true) e (le_itself' (get_or ps i d).start)
    | inr less ↦ le_le_le (get_or ps i d).start (get_or ps i d).end (get_or ps j d).start (lt_le (get_or ps i d).start (get_or ps i d).end (up.proper (get_or ps i d) (at_In ps (get_or ps i d) i (omega (arith, less, lt)) (get_or_default ps i (get_or ps i d) d (omega (arith, less, lt)))))) (up.apart i j d less lt)
  ] where
    cases_le : (i j : ℕ) → i ≤ j → (i ≡ j) ⊎ (i < j)
    cases_le zero zero h = inl refl
    cases_le zero (suc j) h = inr (omega arith)
    cases_le (suc i) zero h = absurd (omega (arith, h))
    cases_le (suc i) (suc j) h = elim (cases_le i j (omega (arith, h))) [ inl e ↦ inl (ap suc e) | inr less ↦ inr (omega (arith, less)) ]

  -- nothing is given where each stretch ends before or starts after
  not_given : (given : ℤ → Option (List SegId)) (g : AreGiven ps ms given) (i : ℕ) (t : ℤ) → ((p : Stretch) → In p (take i ps) → int_le p.end t ≡ true) → ((j : ℕ) (d : Stretch) → i ≤ j → j < length ps → int_lt t (get_or ps j d).start ≡ true) → given t ≡ None
  not_given given g i t before after = g.outside t (λ p k. off p (In_take_or ps p i k)) where
    off : (p : Stretch) → In p (take i ps) ⊎ ((j : ℕ) × (i ≤ j) × (j < length ps) × (get_or ps j p ≡ p)) → has (stretch_span p) t ≡ false
    off p (inl k) = off_after p.start p.end t (before p k)
    off p (inr w) = off_before p.start p.end t (subst (λ (y : Stretch). int_lt t y.start ≡ true) w.3 (after w.0 p w.1 w.2))

  pub starts : (ks : Entries) (parts : List ContentsPart) → parts ≡ [] → Between ps ms xs 0 0 ks parts
  starts ks parts none = go ps refl where
    first_built : (c : ℤ) → ((j : ℕ) (d : Stretch) → 0 ≤ j → j < length ps → int_le c (get_or ps j d).start ≡ true) → Built ps ms c parts
    first_built c low given g = subst (λ (qs : List ContentsPart). AreBuilt (λ (q : ContentsPart). q.span) (λ (q : ContentsPart). q.roots) roots_agree given c qs) (sym none) (nothing_yet roots_join given c (λ t lt. not_given given g 0 t (λ p k. absurd k) (λ j d le in'. lt_le_lt t c (get_or ps j d).start lt (low j d le in'))))

    from_cut : (c : ℤ) → ((j : ℕ) (d : Stretch) → 0 ≤ j → j < length ps → int_le c (get_or ps j d).start ≡ true) → Between ps ms xs 0 0 ks parts
    from_cut c low = record {
      waiting = λ s m g k l. absurd k;
      bound = omega arith;
      cut = c;
      passed = λ x k. absurd k;
      before = λ p k. absurd k;
      after = low;
      built = first_built c low;
    }

    go : (qs : List Stretch) → ps ≡ qs → Between ps ms xs 0 0 ks parts
    go [] e = from_cut (pos 0) (λ j d le lt. absurd (empty j (subst (λ (zs : List Stretch). j < length zs) e lt))) where
      empty : (j : ℕ) → j < 0 → ⊥
      empty j h = omega (arith, h)
    go (q ∷ qs) e = from_cut q.start (λ j d le lt. subst (λ (zs : List Stretch). int_le (get_or zs 0 d).start (get_or ps j d).start ≡ true) e (starts_rise 0 j d le lt))

  module _ (i n : ℕ) (ks : Entries) (parts : List ContentsPart) (p : Stretch) (lt : i < length ps) (is : p ≡ get_or ps i p) (w : Between ps ms xs i n ks parts) where
    among : In p ps
    among = at_In ps p i lt (sym is)

    to_start : int_le w.cut p.start ≡ true
    to_start = subst (λ (y : Stretch). int_le w.cut y.start ≡ true) (sym is) (w.after i p (omega arith) lt)

    pub enters_stretch : Within ps ms xs p n ks parts p.start
    enters_stretch = record {
      waiting = w.waiting;
      passed = λ x m k own same. le_le_le x.at w.cut p.start (w.passed x k) to_start;
      low = le_itself' p.start;
      high = up.proper p among;
      built = λ given g. gap given g (le_cases w.cut p.start to_start);
    } where
      gap : (given : ℤ → Option (List SegId)) (g : AreGiven ps ms given) → (w.cut ≡ p.start) ⊎ (int_lt w.cut p.start ≡ true) → AreBuilt (λ (q : ContentsPart). q.span) (λ (q : ContentsPart). q.roots) roots_agree given p.start parts
      gap given g (inl e) = built_same roots_join given w.cut p.start parts e (w.built given g)
      gap given g (inr less) = built_empty roots_join given w.cut p.start parts less (λ t h. let both = and_parts (int_le w.cut t) (int_lt t p.start) h in
          not_given given g i t (λ q k. le_le_le q.end w.cut t (w.before q k) both.0)
          (λ j d le in'. lt_le_lt t p.start (get_or ps j d).start both.1 (subst (λ (y : Stretch). int_le y.start (get_or ps j d).start ≡ true) (get_or_default ps i d p lt ∙ sym is) (starts_rise i j d le in')))) (w.built given g)

    -- turns that come before a stretch's end are no fewer than those before
    pub no_fewer : (to : ℕ) → ((k : ℕ) (d : Turn) → to ≤ k → k < length xs → int_lt (get_or xs k d).at p.end ≡ false) → n ≤ to
    no_fewer to late = go (cases to n) where
      cases : (a b : ℕ) → (b ≤ a) ⊎ (a < b)
      cases a zero = inl (omega arith)
      cases zero (suc b) = inr (omega arith)
      cases (suc a) (suc b) = elim (cases a b) [ inl h ↦ inl (omega (arith, h)) | inr h ↦ inr (omega (arith, h)) ]

      clash : to < n → ⊥
      clash less = none (get_some xs to (omega (arith, less, w.bound))) where
        get_some : (ys : List Turn) (k : ℕ) → k < length ys → (d : Turn) × In d ys × (get_or ys k d ≡ d)
        get_some [] k in' = absurd (omega (arith, in'))
        get_some (y ∷ ys) zero in' = (y, inl refl, refl)
        get_some (y ∷ ys) (suc k) in' = let r = get_some ys k (omega (arith, in')) in (r.0, inr r.1, r.2)

        none : (d : Turn) × In d xs × (get_or xs to d ≡ d) → ⊥
        none d = false≢true (sym (late to d.0 (omega arith) (omega (arith, less, w.bound))) ∙ subst (λ (y : Turn). int_lt y.at p.end ≡ true) (sym d.2) early) where
          in_take : In d.0 (take n xs)
          in_take = at_In (take n xs) d.0 to (omega (arith, less, w.bound, length-take n xs)) (get_or-take n xs to d.0 less ∙ d.2)

          early : int_lt d.0.at p.end ≡ true
          early = le_le_lt d.0.at w.cut p.start p.end (w.passed d.0 in_take) to_start (up.proper p among) where
            le_le_lt : (a b c e : ℤ) → int_le a b ≡ true → int_le b c ≡ true → int_lt c e ≡ true → int_lt a e ≡ true
            le_le_lt a b c e h k l = grind (arith, ints)

      go : (n ≤ to) ⊎ (to < n) → n ≤ to
      go (inl h) = h
      go (inr h) = absurd (clash h)

    pub leaves_stretch : (to : ℕ) (new : Entries) (after : List ContentsPart) → to ≤ length xs → ((k : ℕ) (d : Turn) → k < to → int_lt (get_or xs k d).at p.end ≡ true) → Waiting ms xs to new → Built ps ms p.end after → Between ps ms xs (i + 1) to new after
    leaves_stretch to new after in' early waiting built = record {
      waiting = waiting;
      bound = in';
      cut = p.end;
      passed = λ x k. taken x (In_at (take to xs) x k);
      before = λ q k. before q (In_take_more ps q p i lt k);
      after = λ j d le less. subst (λ (y : Stretch). int_le y.end (get_or ps j d).start ≡ true) (get_or_default ps i d p lt ∙ sym is) (up.apart i j d (omega (arith, le)) less);
      built = built;
    } where
      taken : (x : Turn) → (k : ℕ) × (k < length (take to xs)) × (get_or (take to xs) k x ≡ x) → int_le x.at p.end ≡ true
      taken x k = lt_le x.at p.end (subst (λ (y : Turn). int_lt y.at p.end ≡ true) (sym (get_or-take to xs k.0 x less) ∙ k.2) (early k.0 x less)) where
        less : k.0 < to
        less = omega (arith, k.1, length-take to xs)

      before : (q : Stretch) → In q (take i ps) ⊎ (q ≡ get_or ps i p) → int_le q.end p.end ≡ true
      before q (inl k) = le_le_le q.end w.cut p.end (w.before q k) (le_le_le w.cut p.start p.end to_start (lt_le p.start p.end (up.proper p among)))
      before q (inr e) = subst (λ (y : Stretch). int_le y.end p.end ≡ true) (sym (e ∙ sym is)) (le_itself' p.end)

  pub all_built : (i n : ℕ) (ks : Entries) (parts : List ContentsPart) → length ps ≤ i → Between ps ms xs i n ks parts → AreContentsOf ps ms parts
  all_built i n ks parts all w given g = built_all roots_join given w.cut parts (λ t from. not_given given g i t (λ p k. le_le_le p.end w.cut t (w.before p k) from) (λ j d le lt. absurd (omega (arith, all, le, lt)))) (w.built given g)
