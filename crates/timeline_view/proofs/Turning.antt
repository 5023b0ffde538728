-- Turns that are taken in their order: which marks have their key, and what is the same throughout a piece.
use Rattle.std.proofs.Common.{Bool, List, [], ap, arith, cond, false, get_or, inl, inr, int_le, int_lt, length, refl, slice_get, subst, suc, sym, take, true, zero, ℕ, ℤ, ◌&&◌, ◌+◌, ◌<◌, ◌≤◌, ◌≤ℤ◌, ◌∙◌, ◌++◌, ◌∷◌, ◌≡◌, ◌⊎◌}
use Rattle.std.specs.Prelude.{None, Option, Some, ⊤}
use Rattle.std.specs.Ordering.{int_cmp, int_eq, is_lt, ordering_then}
use Rattle.std.specs.List.Sorted.{IsPartitionedBy, IsPermutation, IsSortedBy}
use Rattle.std.proofs.lemmas.Bool.{and_from, and_parts, false≢true}
use Rattle.std.proofs.lemmas.Bool.Decides.{Decides-int_eq}
use Rattle.std.proofs.lemmas.Int.{ints}
use Rattle.std.proofs.lemmas.List.{get_or_default, length-take, take_more}
use Rattle.std.proofs.lemmas.List.Sorted.{IsPermutation-sym}
use Rattle.seg_names.specs.declared.seg_id.SegId.{SegId}
use Rattle.book_rows.specs.Lists.{In}
use Rattle.laws_parts.proofs.Unique.{none_not_some, some_same}
use Rattle.row_index.specs.Index.{IsIndexed, IsLess, IsMore, Shows}
use Rattle.timeline_view.specs.Contents.{Passed, Waiting}
use Rattle.timeline_view.specs.Marks.{AreRootsOf, current, is_current, mark_keys}
use Rattle.timeline_view.specs.Turns.{AreTurns, DoTurnsRise, IsTurnOf, end_turn, is_turn_before, start_turn, turn_rest, turns_from}
use Rattle.timeline_view.specs.declared.marks.Mark.{Mark}
use Rattle.timeline_view.specs.declared.turns.Turn.{Turn}
use Rattle.timeline_view.proofs.SweepEnds.{lower, rises}
use Rattle.timeline_view.proofs.Places.{In_permuted, In_take_later, In_take_more, In_take_or, In_take_this, got, place_of}
use Rattle.timeline_view.proofs.Sweeping.{le_not_lt}

abbrev pub Entries : Type 0
Entries = List (((ℕ × ℤ) × ℕ) × ⊤)

-- ---- the turns of marks

pub turns_push : (s : ℕ) (ms : List Mark) (m : Mark) → turns_from s (ms ++ m ∷ []) ≡ turns_from s ms ++ start_turn (s + length ms) m ∷ end_turn (s + length ms) m ∷ []
turns_push s [] m = (let e : s + 0 ≡ s = omega arith in rw e refl)
turns_push s (x ∷ ms) m = (let e : (s + 1) + length ms ≡ s + length (x ∷ ms) = omega arith in
    ap (λ (xs : List Turn). start_turn s x ∷ end_turn s x ∷ xs) (turns_push (s + 1) ms m ∙ ap (λ (n : ℕ). turns_from (s + 1) ms ++ start_turn n m ∷ end_turn n m ∷ []) e))

start_In : (s : ℕ) (ms : List Mark) (k : ℕ) (m : Mark) → slice_get ms k ≡ Some m → In (start_turn (s + k) m) (turns_from s ms)
start_In s [] zero m h = absurd (none_not_some None m refl h)
start_In s [] (suc k) m h = absurd (none_not_some None m refl h)
start_In s (x ∷ ms) zero m h = (let e : s + 0 ≡ s = omega arith in inl (rw e (ap (start_turn s) (sym (some_same x m h)))))
start_In s (x ∷ ms) (suc k) m h = (let e : (s + 1) + k ≡ s + suc k = omega arith in inr (inr (subst (λ (n : ℕ). In (start_turn n m) (turns_from (s + 1) ms)) e (start_In (s + 1) ms k m h))))

end_In : (s : ℕ) (ms : List Mark) (k : ℕ) (m : Mark) → slice_get ms k ≡ Some m → In (end_turn (s + k) m) (turns_from s ms)
end_In s [] zero m h = absurd (none_not_some None m refl h)
end_In s [] (suc k) m h = absurd (none_not_some None m refl h)
end_In s (x ∷ ms) zero m h = (let e : s + 0 ≡ s = omega arith in inr (inl (rw e (ap (end_turn s) (sym (some_same x m h))))))
end_In s (x ∷ ms) (suc k) m h = (let e : (s + 1) + k ≡ s + suc k = omega arith in inr (inr (subst (λ (n : ℕ). In (end_turn n m) (turns_from (s + 1) ms)) e (end_In (s + 1) ms k m h))))

-- a turn is that of a mark, at the mark's place
record IsFrom (s : ℕ) (ms : List Mark) (x : Turn) : Type 0 where
  place : ℕ
  mark : Mark
  found : slice_get ms place ≡ Some mark
  is : (x ≡ start_turn (s + place) mark) ⊎ (x ≡ end_turn (s + place) mark)

turn_from : (s : ℕ) (ms : List Mark) (x : Turn) → In x (turns_from s ms) → IsFrom s ms x
turn_from s [] x i = absurd i
turn_from s (m ∷ ms) x (inl e) = record { place = 0; mark = m; found = refl; is = inl (e ∙ ap (λ (n : ℕ). start_turn n m) (omega arith)) }
turn_from s (m ∷ ms) x (inr (inl e)) = record { place = 0; mark = m; found = refl; is = inr (e ∙ ap (λ (n : ℕ). end_turn n m) (omega arith)) }
turn_from s (m ∷ ms) x (inr (inr i)) = later (turn_from (s + 1) ms x i) where
  later : IsFrom (s + 1) ms x → IsFrom s (m ∷ ms) x
  later w = record { place = suc w.place; mark = w.mark; found = w.found; is = moved w.is } where
    same : (s + 1) + w.place ≡ s + suc w.place
    same = omega arith

    moved : (x ≡ start_turn ((s + 1) + w.place) w.mark) ⊎ (x ≡ end_turn ((s + 1) + w.place) w.mark) → (x ≡ start_turn (s + suc w.place) w.mark) ⊎ (x ≡ end_turn (s + suc w.place) w.mark)
    moved (inl e) = inl (e ∙ ap (λ (n : ℕ). start_turn n w.mark) same)
    moved (inr e) = inr (e ∙ ap (λ (n : ℕ). end_turn n w.mark) same)

pub turns_are : (ms : List Mark) (built sorted : List Turn) → built ≡ turns_from 0 ms → IsPermutation built sorted → AreTurns ms sorted
turns_are ms built sorted is p = record {
  starts = λ s m g. In_permuted built sorted (start_turn s m) p (subst (λ (xs : List Turn). In (start_turn s m) xs) (sym is) (subst (λ (n : ℕ). In (start_turn n m) (turns_from 0 ms)) (at_zero s) (start_In 0 ms s m g)));
  ends = λ s m g. In_permuted built sorted (end_turn s m) p (subst (λ (xs : List Turn). In (end_turn s m) xs) (sym is) (subst (λ (n : ℕ). In (end_turn n m) (turns_from 0 ms)) (at_zero s) (end_In 0 ms s m g)));
  of = λ x i. of x (turn_from 0 ms x (subst (λ (xs : List Turn). In x xs) is (In_permuted sorted built x (IsPermutation-sym built sorted p) i)));
} where
  at_zero : (s : ℕ) → 0 + s ≡ s
  at_zero s = omega arith

  of : (x : Turn) → IsFrom 0 ms x → (m : Mark) × IsTurnOf ms x m
  of x w = (w.mark, at w.is) where
    at : (x ≡ start_turn (0 + w.place) w.mark) ⊎ (x ≡ end_turn (0 + w.place) w.mark) → IsTurnOf ms x w.mark
    at (inl e) = let same : x.place ≡ w.place = ap (λ (y : Turn). y.place) e ∙ at_zero w.place in
        (subst (λ (n : ℕ). slice_get ms n ≡ Some w.mark) (sym same) w.found, inl (e ∙ ap (λ (n : ℕ). start_turn n w.mark) (at_zero w.place ∙ sym same)))
    at (inr e) = let same : x.place ≡ w.place = ap (λ (y : Turn). y.place) e ∙ at_zero w.place in
        (subst (λ (n : ℕ). slice_get ms n ≡ Some w.mark) (sym same) w.found, inr (e ∙ ap (λ (n : ℕ). end_turn n w.mark) (at_zero w.place ∙ sym same)))

-- those of one more mark
pub turns_more : (ms : List Mark) (k : ℕ) (m : Mark) (old new : List Turn) → slice_get ms k ≡ Some m → old ≡ turns_from 0 (take k ms) → new ≡ old ++ start_turn k m ∷ end_turn k m ∷ [] → new ≡ turns_from 0 (take (k + 1) ms)
turns_more ms k m old new there was is = is ∙ ap (λ (xs : List Turn). xs ++ start_turn k m ∷ end_turn k m ∷ []) was
    ∙ ap (λ (n : ℕ). turns_from 0 (take k ms) ++ start_turn n m ∷ end_turn n m ∷ []) at ∙ sym (turns_push 0 (take k ms) m) ∙ ap (turns_from 0) (sym more) where
      lt : k < length ms
      lt = (got ms k m there).0

      at : k ≡ 0 + length (take k ms)
      at = omega (arith, length-take k ms, lt)

      more : take (k + 1) ms ≡ take k ms ++ m ∷ []
      more = take_more ms k m lt ∙ ap (λ (y : Mark). take k ms ++ y ∷ []) (sym (got ms k m there).1)

-- ---- their order

le_is : (a b : ℤ) → a ≤ℤ b → int_le a b ≡ true
le_is a b h = grind (arith, ints)

le_lt_lt : (a b c : ℤ) → int_le a b ≡ true → int_lt b c ≡ true → int_lt a c ≡ true
le_lt_lt a b c h k = grind (arith, ints)

lt_le_lt : (a b c : ℤ) → int_lt a b ≡ true → int_le b c ≡ true → int_lt a c ≡ true
lt_le_lt a b c h k = grind (arith, ints)

le_le_le : (a b c : ℤ) → int_le a b ≡ true → int_le b c ≡ true → int_le a c ≡ true
le_le_le a b c h k = grind (arith, ints)

cross : (a b : ℤ) → int_le a b ≡ true → int_lt b a ≡ true → ⊥
cross a b h k = false≢true (sym (le_not_lt a b h) ∙ k)

pub turns_rise : (xs : List Turn) → IsSortedBy (λ x y. is_lt (ordering_then (int_cmp x.at y.at) (turn_rest x y))) xs → DoTurnsRise xs
turns_rise xs up = rises (λ (x : Turn). x.at) {lt = λ x y. is_lt (ordering_then (int_cmp x.at y.at) (turn_rest x y))} (λ a b h. lower a.at b.at (turn_rest b a) h) xs up

pub before_splits : (t : ℤ) (xs : List Turn) → DoTurnsRise xs → IsPartitionedBy (is_turn_before t) xs
before_splits t xs rise i j d le lt on = le_lt_lt (get_or xs i d).at (get_or xs j d).at t (le_is (get_or xs i d).at (get_or xs j d).at (rise i j d le lt)) on

-- ---- marks that have an instant

pub current_is : (version t : ℤ) (o : Option Mark) (m : Mark) → current version t o ≡ Some m → (o ≡ Some m) × (is_current version t m ≡ true)
current_is version t None m h = absurd (none_not_some None m refl h)
current_is version t (Some n) m h = go (is_current version t n) refl h where
  go : (b : Bool) → is_current version t n ≡ b → cond b (Some n) None ≡ Some m → (Some n ≡ Some m) × (is_current version t m ≡ true)
  go true on e = (e, subst (λ (y : Mark). is_current version t y ≡ true) (some_same n m e) on)
  go false off e = absurd (none_not_some None m refl e)

-- ---- turns that are taken

module _ (ms : List Mark) (xs : List Turn) (turned : AreTurns ms xs) (rise : DoTurnsRise xs) where
  pub ahead : (i : ℕ) (d x : Turn) → i < length xs → In x xs → In x (take i xs) ⊎ (int_le (get_or xs i d).at x.at ≡ true)
  ahead i d x lt h = go (In_take_or xs x i h) where
    go : In x (take i xs) ⊎ ((j : ℕ) × (i ≤ j) × (j < length xs) × (get_or xs j x ≡ x)) → In x (take i xs) ⊎ (int_le (get_or xs i d).at x.at ≡ true)
    go (inl k) = inl k
    go (inr w) = inr (subst (λ (y : Turn). int_le y.at x.at ≡ true) (get_or_default xs i x d lt) (subst (λ (y : Turn). int_le (get_or xs i x).at y.at ≡ true) w.3 (le_is (get_or xs i x).at (get_or xs w.0 x).at (rise i w.0 x w.1 w.2))))

  one_mark : (s : ℕ) (m n : Mark) → slice_get ms s ≡ Some m → slice_get ms s ≡ Some n → m ≡ n
  one_mark s m n g h = some_same m n (sym g ∙ h)

  module _ (i : ℕ) (x : Turn) (m : Mark) (ks new : Entries) (lt : i < length xs) (is : x ≡ get_or xs i x) (of : IsTurnOf ms x m) (w : Waiting ms xs i ks) where
    pub enters : x.enters ≡ true → IsMore ks new → Shows (mark_keys m) x.place new → Waiting ms xs (i + 1) new
    enters on more own s n g started running = go (In_take_more xs (start_turn s n) x i lt started) where
      go : In (start_turn s n) (take i xs) ⊎ (start_turn s n ≡ get_or xs i x) → Shows (mark_keys n) s new
      go (inl k) = λ key there. more (key, s) (w s n g k (λ e. running (In_take_later xs (end_turn s n) x i lt e)) key there)
      go (inr e) =
          let at : s ≡ x.place = ap (λ (y : Turn). y.place) (e ∙ sym is) in
          let same : m ≡ n = one_mark x.place m n of.0 (subst (λ (p : ℕ). slice_get ms p ≡ Some n) at g) in
          subst (λ (p : ℕ). Shows (mark_keys n) p new) (sym at) (subst (λ (y : Mark). Shows (mark_keys y) x.place new) same own)

    pub leaves : x.enters ≡ false → IsLess x.place ks new → Waiting ms xs (i + 1) new
    leaves off less s n g started running = go (In_take_more xs (start_turn s n) x i lt started) where
      ends : x ≡ end_turn x.place m
      ends = by of.1 where
        by : (x ≡ start_turn x.place m) ⊎ (x ≡ end_turn x.place m) → x ≡ end_turn x.place m
        by (inr e) = e
        by (inl e) = absurd (false≢true (sym off ∙ ap (λ (y : Turn). y.enters) e))

      other : s ≡ x.place → ⊥
      other at =
          let same : m ≡ n = one_mark x.place m n of.0 (subst (λ (p : ℕ). slice_get ms p ≡ Some n) at g) in
          running (In_take_this xs (end_turn s n) x i lt (ap (λ (p : ℕ). end_turn p n) at ∙ ap (λ (y : Mark). end_turn x.place y) (sym same) ∙ sym ends ∙ is))

      go : In (start_turn s n) (take i xs) ⊎ (start_turn s n ≡ get_or xs i x) → Shows (mark_keys n) s new
      go (inl k) = λ key there. less (key, s) other (w s n g k (λ e. running (In_take_later xs (end_turn s n) x i lt e)) key there)
      go (inr e) = absurd (false≢true (sym off ∙ sym (ap (λ (y : Turn). y.enters) (e ∙ sym is))))

  -- its key comes with its start, and goes with its end
  pub keys_turned : (i : ℕ) (x : Turn) (m : Mark) (ks new : Entries) → i < length xs → x ≡ get_or xs i x → IsTurnOf ms x m → Waiting ms xs i ks → (x.enters ≡ true → IsMore ks new) → (x.enters ≡ true → Shows (mark_keys m) x.place new) → (x.enters ≡ false → IsLess x.place ks new) → Waiting ms xs (i + 1) new
  keys_turned i x m ks new lt is of w more own less = go x.enters refl where
    go : (b : Bool) → x.enters ≡ b → Waiting ms xs (i + 1) new
    go true e = enters i x m ks new lt is of w e (more e) (own e)
    go false e = leaves i x m ks new lt is of w e (less e)

  -- the mark of a turn is that at its place
  pub turn_of : (x : Turn) (m : Mark) → In x xs → slice_get ms x.place ≡ Some m → IsTurnOf ms x m
  turn_of x m i g = let f = turned.of x i in (g, subst (λ (n : Mark). (x ≡ start_turn x.place n) ⊎ (x ≡ end_turn x.place n)) (one_mark x.place f.0 m f.1.0 g) f.1.1)

  pub place_within : (x : Turn) → In x xs → x.place < length ms
  place_within x i = let f = turned.of x i in (got ms x.place f.0 f.1.0).0

  pub passed_more : (version from next : ℤ) (i : ℕ) (x : Turn) (m : Mark) → i < length xs → x ≡ get_or xs i x → IsTurnOf ms x m → int_le from next ≡ true → (m.version ≡ version → int_le x.at next ≡ true) → Passed ms xs version i from → Passed ms xs version (i + 1) next
  passed_more version from next i x m lt is of later here w y n k own same = go (In_take_more xs y x i lt k) where
    go : In y (take i xs) ⊎ (y ≡ get_or xs i x) → int_le y.at next ≡ true
    go (inl l) = le_le_le y.at from next (w y n l own same) later
    go (inr e) =
        let as_x : y ≡ x = e ∙ sym is in
        let one : m ≡ n = one_mark x.place m n of.0 (subst (λ (z : Turn). slice_get ms z.place ≡ Some n) as_x own.0) in
        subst (λ (z : Turn). int_le z.at next ≡ true) (sym as_x) (here (ap (λ (z : Mark). z.version) one ∙ same))

  -- ---- a piece in which no mark of the version turns

  module _ (version from to : ℤ) (i : ℕ) (passed : Passed ms xs version i from) (next : (x : Turn) → In x xs → In x (take i xs) ⊎ (int_le to x.at ≡ true)) where
    started : (t : ℤ) (s : ℕ) (m : Mark) → slice_get ms s ≡ Some m → int_le m.start t ≡ true → int_lt t to ≡ true → In (start_turn s m) (take i xs)
    started t s m g low high = go (next (start_turn s m) (turned.starts s m g)) where
      go : In (start_turn s m) (take i xs) ⊎ (int_le to m.start ≡ true) → In (start_turn s m) (take i xs)
      go (inl k) = k
      go (inr h) = absurd (cross to t (le_le_le to m.start t h low) high)

    running : (s : ℕ) (m : Mark) → slice_get ms s ≡ Some m → m.version ≡ version → int_lt from m.end ≡ true → In (end_turn s m) (take i xs) → ⊥
    running s m g same later k = cross m.end from (passed (end_turn s m) m k (g, inr refl) same) later

    record IsCurrent (t : ℤ) (m : Mark) : Type 0 where
      same : m.version ≡ version
      low : int_le m.start t ≡ true
      high : int_lt t m.end ≡ true

    current_means : (t : ℤ) (m : Mark) → is_current version t m ≡ true → IsCurrent t m
    current_means t m on =
        let one = and_parts (int_eq m.version version) (int_le m.start t && int_lt t m.end) on in
        let two = and_parts (int_le m.start t) (int_lt t m.end) one.1 in
        record { same = (Decides-int_eq m.version version).0 one.0; low = two.0; high = two.1 }

    current_from : (t : ℤ) (m : Mark) → IsCurrent t m → is_current version t m ≡ true
    current_from t m w = and_from (int_eq m.version version) (int_le m.start t && int_lt t m.end) ((Decides-int_eq m.version version).1 w.same) (and_from (int_le m.start t) (int_lt t m.end) w.low w.high)

    -- each mark that has the first instant has its key
    pub all_indexed : (ks : Entries) → int_lt from to ≡ true → Waiting ms xs i ks → IsIndexed mark_keys (λ s. current version from (slice_get ms s)) ks
    all_indexed ks some w s m h =
        let is = current_is version from (slice_get ms s) m h in
        let c = current_means from m is.1 in
        w s m is.0 (started from s m is.0 c.low some) (running s m is.0 c.same c.high)

    module _ (t : ℤ) (low : int_le from t ≡ true) (high : int_lt t to ≡ true) where
      back : (s : ℕ) (m : Mark) → slice_get ms s ≡ Some m → is_current version t m ≡ true → is_current version from m ≡ true
      back s m g on = let c = current_means t m on in
          current_from from m (record { same = c.same; low = passed (start_turn s m) m (started t s m g c.low high) (g, inl refl) c.same; high = le_lt_lt from t m.end low c.high })

      on : (s : ℕ) (m : Mark) → slice_get ms s ≡ Some m → is_current version from m ≡ true → is_current version t m ≡ true
      on s m g at = let c = current_means from m at in
          current_from t m (record { same = c.same; low = le_le_le m.start from t c.low low; high = ends c (next (end_turn s m) (turned.ends s m g)) }) where
            ends : IsCurrent from m → In (end_turn s m) (take i xs) ⊎ (int_le to m.end ≡ true) → int_lt t m.end ≡ true
            ends c (inl k) = absurd (running s m g c.same c.high k)
            ends c (inr h) = lt_le_lt t to m.end high h

      -- so the roots are those of its first instant
      pub roots_stay : (roots : List SegId) → AreRootsOf ms version from roots → AreRootsOf ms version t roots
      roots_stay roots w = record {
        linked = w.linked;
        from = λ a k. let f = w.from a k in let p = place_of ms f.0 f.1 in (f.0, f.1, on p.0 f.0 p.1 f.2, f.3);
        all = λ m k h. let p = place_of ms m k in w.all m k (back p.0 m p.1 h);
      }
