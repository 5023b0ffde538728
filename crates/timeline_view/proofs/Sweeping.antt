-- The sweep over the starts and ends of covers.
use Rattle.std.proofs.Common.{Bool, List, [], ap, arith, false, get_or, inl, inr, int_le, int_lt, length, refl, subst, sym, take, true, ℕ, ℤ, ◌&&◌, ◌+◌, ◌<◌, ◌≤◌, ◌≤ℤ◌, ◌∙◌, ◌∷◌, ◌≡◌, ◌⊎◌}
use Rattle.std.specs.Prelude.{None, Some}
use Rattle.std.specs.List.Sorted.{IsPermutation}
use Rattle.std.proofs.lemmas.Bool.{and_from, and_parts, false≢true}
use Rattle.std.proofs.lemmas.Int.{ints}
use Rattle.std.proofs.lemmas.List.{get_or_default, take_all}
use Rattle.std.proofs.lemmas.List.Sorted.{IsPermutation-sym}
use Rattle.iv_span.specs.Extent.{has}
use Rattle.book_rows.specs.Lists.{In}
use Rattle.timeline_view.specs.Sweep.{AreEnds, AreStretches, DoRise, IsTopAfter, KeepsLater, end_of, put_stretch, start_of, stretch_span, stretches_agree, top_of}
use Rattle.timeline_view.specs.declared.sweep.Cover.{Cover}
use Rattle.timeline_view.specs.declared.sweep.Event.{Event}
use Rattle.timeline_view.specs.declared.sweep.Stretch.{Stretch}
use Rattle.laws_parts.specs.Parts.{AreBuilt}
use Rattle.laws_parts.proofs.Building.{built_all, built_empty, built_part, nothing_yet}
use Rattle.timeline_view.proofs.Covers.{none_is, stretches_join, top_is}
use Rattle.laws_parts.proofs.Unique.{none_not_some}
use Rattle.timeline_view.proofs.Places.{In_permuted, In_take_more, In_take_or, at_this}

-- the first i events have been swept: what has started and ends later is in the heap, and the stretches are built up to now
pub record Sweeping (cs : List Cover) (es : List Event) (heap : List Cover) (parts : List Stretch) (now : ℤ) (i : ℕ) : Type 0 where
  pub built : AreBuilt stretch_span (λ (p : Stretch). p.top) stretches_agree (top_of cs) now parts
  pub passed : (e : Event) → In e (take i es) → int_le e.at now ≡ true
  pub waiting : (c : Cover) → In (start_of c) (take i es) → int_lt now c.span.end ≡ true → In c heap
  pub among : (c : Cover) → In c heap → In c cs
  pub started : (c : Cover) → In c heap → int_le c.span.start now ≡ true

-- ---- order

le_to : (a b : ℤ) → a ≤ℤ b → int_le a b ≡ true
le_to a b h = grind (arith, ints)

lt_le_lt : (a b c : ℤ) → int_lt a b ≡ true → int_le b c ≡ true → int_lt a c ≡ true
lt_le_lt a b c h k = grind (arith, ints)

le_lt_lt : (a b c : ℤ) → int_le a b ≡ true → int_lt b c ≡ true → int_lt a c ≡ true
le_lt_lt a b c h k = grind (arith, ints)

le_le_le : (a b c : ℤ) → int_le a b ≡ true → int_le b c ≡ true → int_le a c ≡ true
le_le_le a b c h k = grind (arith, ints)

lt_le : (a b : ℤ) → int_lt a b ≡ true → int_le a b ≡ true
lt_le a b h = grind (arith, ints)

pub le_not_lt : (a b : ℤ) → int_le a b ≡ true → int_lt b a ≡ false
le_not_lt a b h = grind (arith, ints)

pub le_itself' : (a : ℤ) → int_le a a ≡ true
le_itself' a = grind (arith, ints)

pub not_lt_le' : (a b : ℤ) → int_lt a b ≡ false → int_le b a ≡ true
not_lt_le' a b h = grind (arith, ints)

cross : (a b : ℤ) → int_le a b ≡ true → int_lt b a ≡ true → ⊥
cross a b h k = false≢true (sym (le_not_lt a b h) ∙ k)

and_off : (a b : Bool) → b ≡ false → (a && b) ≡ false
and_off a b h = grind arith

off_and : (a b : Bool) → a ≡ false → (a && b) ≡ false
off_and a b h = grind arith

lt_not_le : (a b : ℤ) → int_lt a b ≡ true → int_le b a ≡ false
lt_not_le a b h = grind (arith, ints)

module _ (cs : List Cover) (es : List Event) (ends : AreEnds cs es) (rise : DoRise es) where
  -- what isn't among the first i comes no earlier than the next
  ahead : (x : Event) (i : ℕ) (d : Event) → i < length es → In x es → In x (take i es) ⊎ (int_le (get_or es i d).at x.at ≡ true)
  ahead x i d lt h = go (In_take_or es x i h) where
    go : In x (take i es) ⊎ ((j : ℕ) × (i ≤ j) × (j < length es) × (get_or es j x ≡ x)) → In x (take i es) ⊎ (int_le (get_or es i d).at x.at ≡ true)
    go (inl k) = inl k
    go (inr w) = inr (subst (λ (y : Event). int_le y.at x.at ≡ true) (get_or_default es i x d lt) (subst (λ (y : Event). int_le (get_or es i x).at y.at ≡ true) w.3 (le_to (get_or es i x).at (get_or es w.0 x).at (rise i w.0 x w.1 w.2))))

  pub sweep_starts : (first : Event) → 0 < length es → first ≡ get_or es 0 first → Sweeping cs es [] [] first.at 0
  sweep_starts first some is = record {
    built = nothing_yet stretches_join (top_of cs) first.at (λ t before. none_is cs t (λ c i. off_and (int_le c.span.start t) (int_lt t c.span.end) (early t before c i)));
    passed = λ e i. absurd i;
    waiting = λ c i h. absurd i;
    among = λ c i. absurd i;
    started = λ c i. absurd i;
  } where
    early : (t : ℤ) → int_lt t first.at ≡ true → (c : Cover) → In c cs → int_le c.span.start t ≡ false
    early t before c i = go (ahead (start_of c) 0 first some (ends.starts c i)) where
      go : In (start_of c) [] ⊎ (int_le (get_or es 0 first).at c.span.start ≡ true) → int_le c.span.start t ≡ false
      go (inl k) = absurd k
      go (inr h) = lt_not_le t c.span.start (lt_le_lt t first.at c.span.start before (subst (λ (y : Event). int_le y.at c.span.start ≡ true) (sym is) h))

  module _ (heap new : List Cover) (parts : List Stretch) (now : ℤ) (i : ℕ) (e : Event) (lt : i < length es) (is : e ≡ get_or es i e) (w : Sweeping cs es heap parts now i) (later : int_lt now e.at ≡ true) (keeps : KeepsLater now heap new) where
    next_from : (x : Event) → In x es → In x (take i es) ⊎ (int_le e.at x.at ≡ true)
    next_from x h = go (ahead x i e lt h) where
      go : In x (take i es) ⊎ (int_le (get_or es i e).at x.at ≡ true) → In x (take i es) ⊎ (int_le e.at x.at ≡ true)
      go (inl k) = inl k
      go (inr l) = inr (subst (λ (y : Event). int_le y.at x.at ≡ true) (sym is) l)

    -- what has an instant of the piece is in the heap
    here_In : (t : ℤ) (c : Cover) → int_le now t ≡ true → int_lt t e.at ≡ true → In c cs → has c.span t ≡ true → In c new
    here_In t c low high i' h = go (next_from (start_of c) (ends.starts c i')) where
      both : (int_le c.span.start t ≡ true) × (int_lt t c.span.end ≡ true)
      both = and_parts (int_le c.span.start t) (int_lt t c.span.end) h

      ends_later : int_lt now c.span.end ≡ true
      ends_later = le_lt_lt now t c.span.end low both.1

      go : In (start_of c) (take i es) ⊎ (int_le e.at c.span.start ≡ true) → In c new
      go (inl k) = keeps.kept c (w.waiting c k ends_later) ends_later
      go (inr l) = absurd (cross e.at t (le_le_le e.at c.span.start t l both.0) high)

    -- and what is in the heap and ends later has each instant of the piece
    In_here : (t : ℤ) (c : Cover) → int_le now t ≡ true → int_lt t e.at ≡ true → In c new → int_lt now c.span.end ≡ true → has c.span t ≡ true
    In_here t c low high k ends_later = and_from (int_le c.span.start t) (int_lt t c.span.end) (le_le_le c.span.start now t (w.started c (keeps.back c k)) low) (go (next_from (end_of c) (ends.ends c (w.among c (keeps.back c k))))) where
      go : In (end_of c) (take i es) ⊎ (int_le e.at c.span.end ≡ true) → int_lt t c.span.end ≡ true
      go (inl l) = absurd (cross c.span.end now (w.passed (end_of c) l) ends_later)
      go (inr l) = lt_le_lt t e.at c.span.end high l

    moved : (after : List Stretch) → AreBuilt stretch_span (λ (p : Stretch). p.top) stretches_agree (top_of cs) e.at after → Sweeping cs es new after e.at i
    moved after built = record {
      built = built;
      passed = λ x k. le_le_le x.at now e.at (w.passed x k) (lt_le now e.at later);
      waiting = λ c k h. keeps.kept c (w.waiting c k (before c h)) (before c h);
      among = λ c k. w.among c (keeps.back c k);
      started = λ c k. le_le_le c.span.start now e.at (w.started c (keeps.back c k)) (lt_le now e.at later);
    } where
      lt_lt : (a b c : ℤ) → int_lt a b ≡ true → int_lt b c ≡ true → int_lt a c ≡ true
      lt_lt a b c h k = grind (arith, ints)

      before : (c : Cover) → int_lt e.at c.span.end ≡ true → int_lt now c.span.end ≡ true
      before c h = lt_lt now e.at c.span.end later h

    pub piece_with : (c : Cover) → IsTopAfter now new c → Sweeping cs es new (put_stretch parts (record { start = now; end = e.at; top = c })) e.at i
    piece_with c top = moved (put_stretch parts (record { start = now; end = e.at; top = c })) (built_part stretches_join (top_of cs) now e.at parts (record { start = now; end = e.at; top = c }) later refl shows w.built) where
      shows : (t : ℤ) → has (record { start = now; end = e.at }) t ≡ true → top_of cs t ≡ Some c
      shows t h = let both = and_parts (int_le now t) (int_lt t e.at) h in
          top_is cs t c (w.among c (keeps.back c top.among)) (In_here t c both.0 both.1 top.among top.later) (λ d k l. top.greatest d (here_In t d both.0 both.1 k l))

    pub piece_without : new ≡ [] → Sweeping cs es new parts e.at i
    piece_without none = moved parts (built_empty stretches_join (top_of cs) now e.at parts later shows w.built) where
      not_In : (c : Cover) → In c new → ⊥
      not_In c k = subst (λ (xs : List Cover). In c xs) none k

      shows : (t : ℤ) → has (record { start = now; end = e.at }) t ≡ true → top_of cs t ≡ None
      shows t h = let both = and_parts (int_le now t) (int_lt t e.at) h in none_is cs t (λ c k. off c both k (has c.span t) refl) where
        off : (c : Cover) → (int_le now t ≡ true) × (int_lt t e.at ≡ true) → In c cs → (b : Bool) → has c.span t ≡ b → has c.span t ≡ false
        off c both k true on = absurd (not_In c (here_In t c both.0 both.1 k on))
        off c both k false o = o

  -- the event itself
  module _ (heap new : List Cover) (parts : List Stretch) (now : ℤ) (i : ℕ) (e : Event) (lt : i < length es) (is : e ≡ get_or es i e) (w : Sweeping cs es heap parts now i) (reached : int_le e.at now ≡ true) where
    now_passed : (x : Event) → In x (take (i + 1) es) → int_le x.at now ≡ true
    now_passed x k = go (In_take_more es x e i lt k) where
      go : In x (take i es) ⊎ (x ≡ get_or es i e) → int_le x.at now ≡ true
      go (inl l) = w.passed x l
      go (inr s) = subst (λ (y : Event). int_le y.at now ≡ true) (sym (s ∙ sym is)) reached

    pub enters : e.enters ≡ true → IsPermutation (e.cover ∷ heap) new → Sweeping cs es new parts now (i + 1)
    enters on perm = record {
      built = w.built;
      passed = now_passed;
      waiting = λ c k h. In_permuted (e.cover ∷ heap) new c perm (wait c h (In_take_more es (start_of c) e i lt k));
      among = λ c k. from c (In_permuted new (e.cover ∷ heap) c (IsPermutation-sym (e.cover ∷ heap) new perm) k);
      started = λ c k. at c (In_permuted new (e.cover ∷ heap) c (IsPermutation-sym (e.cover ∷ heap) new perm) k);
    } where
      wait : (c : Cover) → int_lt now c.span.end ≡ true → In (start_of c) (take i es) ⊎ (start_of c ≡ get_or es i e) → In c (e.cover ∷ heap)
      wait c h (inl l) = inr (w.waiting c l h)
      wait c h (inr s) = inl (ap (λ (y : Event). y.cover) (s ∙ sym is))

      from : (c : Cover) → In c (e.cover ∷ heap) → In c cs
      from c (inl s) = subst (λ (x : Cover). In x cs) (sym s) (ends.cover_of e (at_this es e e i lt is))
      from c (inr k) = w.among c k

      at : (c : Cover) → In c (e.cover ∷ heap) → int_le c.span.start now ≡ true
      at c (inl s) = subst (λ (x : Cover). int_le x.span.start now ≡ true) (sym s) (subst (λ (t : ℤ). int_le t now ≡ true) (ends.start_is e (at_this es e e i lt is) on) reached)
      at c (inr k) = w.started c k

    pub leaves : e.enters ≡ false → Sweeping cs es heap parts now (i + 1)
    leaves off = record {
      built = w.built;
      passed = now_passed;
      waiting = λ c k h. wait c h (In_take_more es (start_of c) e i lt k);
      among = w.among;
      started = w.started;
    } where
      wait : (c : Cover) → int_lt now c.span.end ≡ true → In (start_of c) (take i es) ⊎ (start_of c ≡ get_or es i e) → In c heap
      wait c h (inl l) = w.waiting c l h
      wait c h (inr s) = absurd (false≢true (sym off ∙ ap (λ (y : Event). y.enters) (sym (s ∙ sym is))))

  -- all of it
  pub swept : (heap : List Cover) (parts : List Stretch) (now : ℤ) (i : ℕ) → length es ≤ i → Sweeping cs es heap parts now i → AreStretches cs parts
  swept heap parts now i all w = built_all stretches_join (top_of cs) now parts (λ t from. none_is cs t (λ c k. and_off (int_le c.span.start t) (int_lt t c.span.end) (le_not_lt c.span.end t (le_le_le c.span.end now t (w.passed (end_of c) (subst (λ (xs : List Event). In (end_of c) xs) (sym (take_all i es all)) (ends.ends c k))) from)))) w.built

  pub nothing_swept : length es ≤ 0 → (parts : List Stretch) → parts ≡ [] → AreStretches cs parts
  nothing_swept none parts e = subst (λ (xs : List Stretch). AreStretches cs xs) (sym e) (record { linked = refl; proper = λ p i. absurd i; right = λ p t i h. absurd i; covers = λ t v h. absurd (some t v h) }) where
    no : (c : Cover) → In c cs → ⊥
    no c i = subst (λ (xs : List Event). In (start_of c) xs) (sym (take_all 0 es none)) (ends.starts c i)

    some : (t : ℤ) (v : Cover) → top_of cs t ≡ Some v → ⊥
    some t v h = none_not_some (top_of cs t) v (none_is cs t (λ c i. absurd (no c i))) h
