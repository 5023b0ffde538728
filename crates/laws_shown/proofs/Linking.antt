-- Parts of ascending pieces ascend, and where neighbours that agree are joined no two that touch agree.
use Rattle.std.proofs.Common.{Bool, List, [], ap, arith, cond, false, inl, inr, int_le, int_lt, map, not, refl, subst, sym, true, ℤ, ◌&&◌, ◌++◌, ◌∙◌, ◌∷◌, ◌≡◌, ◌⊎◌}
use Rattle.std.proofs.lemmas.Bool.{and_from, and_parts}
use Rattle.std.proofs.lemmas.Int.{ints}
use Rattle.iv_span.specs.Extent.{Extent, has}
use Rattle.book_rows.specs.Lists.{In, gathered, list_links}
use Rattle.book_rows.specs.Spans.{pieces}
use Rattle.laws_chunks.proofs.Spans.{le_itself}
use Rattle.laws_shown.proofs.Joining.{IsJoin}
use Rattle.laws_shown.proofs.Pieces.{Ascend}

le_lt_le : (a b c : ℤ) → int_le a b ≡ true → int_lt b c ≡ true → int_le a c ≡ true
le_lt_le a b c h k = grind (arith, ints)

module _ {X : Type 0} (span : X → Extent) where
  -- the first part, if there is one, doesn't start before the instant
  abbrev pub StartsFrom : ℤ → List X → Type 0
  StartsFrom t [] = Unit {0}
  StartsFrom t (p ∷ ps) = int_le t (span p).start ≡ true

  -- the second part doesn't start before the end of the first
  abbrev pub follows : X → X → Bool
  follows p q = int_le (span p).end (span q).start

  -- ---- parts of pieces

  front : (p : X) (ps : List X) → StartsFrom (span p).end ps → list_links follows ps ≡ true → list_links follows (p ∷ ps) ≡ true
  front p [] h links = refl
  front p (q ∷ qs) h links = and_from (follows p q) (list_links follows (q ∷ qs)) h links

  -- a piece gives one part of its own span, or none
  abbrev pub IsOneOrNone : Extent → List X → Type 0
  IsOneOrNone e ps = (ps ≡ []) ⊎ ((p : X) × (ps ≡ p ∷ []) × (span p ≡ e))

  -- they ascend, from no earlier than the first cut
  pub record AreFrom (c : ℤ) (ps : List X) : Type 0 where
    pub linked : list_links follows ps ≡ true
    pub from : (t : ℤ) → int_le t c ≡ true → StartsFrom t ps

  more_from : (c d : ℤ) (ps qs : List X) → int_lt c d ≡ true → IsOneOrNone (record { start = c; end = d }) ps → AreFrom d qs → AreFrom c (ps ++ qs)
  more_from c d ps qs lt (inl none) h = subst (λ (xs : List X). AreFrom c (xs ++ qs)) (sym none) (record { linked = h.linked; from = λ t low. h.from t (le_lt_le t c d low lt) })
  more_from c d ps qs lt (inr w) h = subst (λ (xs : List X). AreFrom c (xs ++ qs)) (sym w.1) (record {
    linked = front w.0 qs (h.from (span w.0).end (subst (λ (e : Extent). int_le e.end d ≡ true) (sym w.2) (le_itself d))) h.linked;
    from = λ t low. subst (λ (e : Extent). int_le t e.start ≡ true) (sym w.2) low;
  })

  pub pieces_linked : (f : Extent → List X) → ((e : Extent) → IsOneOrNone e (f e)) → (c : ℤ) (cs : List ℤ) → Ascend (c ∷ cs) → AreFrom c (gathered f (pieces (c ∷ cs)))
  pieces_linked f one c [] h = record { linked = refl; from = λ t low. tt }
  pieces_linked f one c (d ∷ cs) h = more_from c d (f (record { start = c; end = d })) (gathered f (pieces (d ∷ cs))) h.0.0 (one (record { start = c; end = d })) (pieces_linked f one d cs h.1)

  pub cuts_linked : (f : Extent → List X) → ((e : Extent) → IsOneOrNone e (f e)) → (cs : List ℤ) → Ascend cs → list_links follows (gathered f (pieces cs)) ≡ true
  cuts_linked f one [] h = refl
  cuts_linked f one (c ∷ cs) h = (pieces_linked f one c cs h).linked

  -- ---- joined parts

  -- the second follows the first, and where they touch they differ
  abbrev pub is_next : (X → X → Bool) → X → X → Bool
  is_next agrees p q = follows p q && not (agrees p q)

module _ {X : Type 0} {span : X → Extent} {agrees : X → X → Bool} {merge : X → X → X} {join : X → List X → List X} {joins : List X → List X} (j : IsJoin span agrees merge join joins)
    (last : (p q r : X) → agrees p q ≡ true → agrees (merge p q) r ≡ agrees q r) where
  joined_from : (t : ℤ) (p : X) (ps : List X) → int_le t (span p).start ≡ true → StartsFrom span t (join p ps)
  joined_from t p [] h = subst (StartsFrom span t) (sym (j.alone p)) h
  joined_from t p (q ∷ qs) h = subst (StartsFrom span t) (sym (j.next p q qs)) (go (agrees p q)) where
    go : (b : Bool) → StartsFrom span t (cond b (merge p q ∷ qs) (p ∷ q ∷ qs))
    go true = subst (λ (e : Extent). int_le t e.start ≡ true) (sym (j.merged p q)) h
    go false = h

  joins_from : (t : ℤ) (ps : List X) → StartsFrom span t ps → StartsFrom span t (joins ps)
  joins_from t [] h = subst (StartsFrom span t) (sym j.none) tt
  joins_from t (p ∷ ps) h = subst (StartsFrom span t) (sym (j.more p ps)) (joined_from t p (joins ps) h)

  merged_links : (p q : X) (qs : List X) → agrees p q ≡ true → list_links (is_next span agrees) (q ∷ qs) ≡ true → list_links (is_next span agrees) (merge p q ∷ qs) ≡ true
  merged_links p q [] on links = refl
  merged_links p q (r ∷ rs) on links =
      let both = and_parts (is_next span agrees q r) (list_links (is_next span agrees) (r ∷ rs)) links in
      and_from (is_next span agrees (merge p q) r) (list_links (is_next span agrees) (r ∷ rs)) (same ∙ both.0) both.1 where
        same : is_next span agrees (merge p q) r ≡ is_next span agrees q r
        same = ap (λ (e : Extent). int_le e.end (span r).start && not (agrees (merge p q) r)) (j.merged p q) ∙ ap (λ (b : Bool). int_le (span q).end (span r).start && not b) (last p q r on)

  join_links : (p : X) (ps : List X) → StartsFrom span (span p).end ps → list_links (is_next span agrees) ps ≡ true → list_links (is_next span agrees) (join p ps) ≡ true
  join_links p [] h links = subst (λ (xs : List X). list_links (is_next span agrees) xs ≡ true) (sym (j.alone p)) refl
  join_links p (q ∷ qs) h links = subst (λ (xs : List X). list_links (is_next span agrees) xs ≡ true) (sym (j.next p q qs)) (go (agrees p q) refl) where
    go : (b : Bool) → agrees p q ≡ b → list_links (is_next span agrees) (cond b (merge p q ∷ qs) (p ∷ q ∷ qs)) ≡ true
    go true on = merged_links p q qs on links
    go false off = and_from (is_next span agrees p q) (list_links (is_next span agrees) (q ∷ qs)) (and_from (follows span p q) (not (agrees p q)) h (ap not off)) links

  tail_follows : (p : X) (ps : List X) → list_links (follows span) (p ∷ ps) ≡ true → StartsFrom span (span p).end ps × (list_links (follows span) ps ≡ true)
  tail_follows p [] links = (tt, refl)
  tail_follows p (q ∷ qs) links = let both = and_parts (follows span p q) (list_links (follows span) (q ∷ qs)) links in (both.0, both.1)

  pub joins_links : (ps : List X) → list_links (follows span) ps ≡ true → list_links (is_next span agrees) (joins ps) ≡ true
  joins_links [] links = subst (λ (xs : List X). list_links (is_next span agrees) xs ≡ true) (sym j.none) refl
  joins_links (p ∷ ps) links =
      let tail = tail_follows p ps links in
      subst (λ (xs : List X). list_links (is_next span agrees) xs ≡ true) (sym (j.more p ps)) (join_links p (joins ps) (joins_from (span p).end ps tail.0) (joins_links ps tail.1))

-- links of a mapped list, and links by a weaker test
pub links_map : {X Y : Type 0} (strong : X → X → Bool) (weak : Y → Y → Bool) (f : X → Y) → ((x y : X) → strong x y ≡ true → weak (f x) (f y) ≡ true) → (xs : List X) → list_links strong xs ≡ true → list_links weak (map f xs) ≡ true
links_map strong weak f h [] links = refl
links_map strong weak f h (x ∷ []) links = refl
links_map strong weak f h (x ∷ y ∷ xs) links = let both = and_parts (strong x y) (list_links strong (y ∷ xs)) links in and_from (weak (f x) (f y)) (list_links weak (map f (y ∷ xs))) (h x y both.0) (links_map strong weak f h (y ∷ xs) both.1)

pub links_weaker : {X : Type 0} (strong weak : X → X → Bool) → ((x y : X) → strong x y ≡ true → weak x y ≡ true) → (xs : List X) → list_links strong xs ≡ true → list_links weak xs ≡ true
links_weaker strong weak h [] links = refl
links_weaker strong weak h (x ∷ []) links = refl
links_weaker strong weak h (x ∷ y ∷ xs) links = let both = and_parts (strong x y) (list_links strong (y ∷ xs)) links in and_from (weak x y) (list_links weak (y ∷ xs)) (h x y both.0) (links_weaker strong weak h (y ∷ xs) both.1)

-- ---- parts that have one instant

first_follows : {X : Type 0} (test : X → X → Bool) (x y : X) (xs : List X) → list_links test (x ∷ y ∷ xs) ≡ true → test x y ≡ true
first_follows test x y xs links = (and_parts (test x y) (list_links test (y ∷ xs)) links).0

rest_linked : {X : Type 0} (test : X → X → Bool) (x : X) (xs : List X) → list_links test (x ∷ xs) ≡ true → list_links test xs ≡ true
rest_linked test x [] links = refl
rest_linked test x (y ∷ xs) links = (and_parts (test x y) (list_links test (y ∷ xs)) links).1

le_through : (a b c d : ℤ) → int_le a b ≡ true → int_le b c ≡ true → int_le c d ≡ true → int_le a d ≡ true
le_through a b c d h k l = grind (arith, ints)

-- an instant isn't in two spans of which one starts where the other has ended
apart : (a b : Extent) (t : ℤ) → int_le a.end b.start ≡ true → has a t ≡ true → has b t ≡ true → ⊥
apart a b t h here there = no_room a.end b.start t h (and_parts (int_le a.start t) (int_lt t a.end) here).1 (and_parts (int_le b.start t) (int_lt t b.end) there).0 where
  no_room : (x y t : ℤ) → int_le x y ≡ true → int_lt t x ≡ true → int_le y t ≡ true → ⊥
  no_room x y t h k l = grind (arith, ints)

module _ {X : Type 0} (span : X → Extent) where
  abbrev AreProper : List X → Type 0
  AreProper ps = (p : X) → In p ps → int_le (span p).start (span p).end ≡ true

  -- none starts before the end of one before it
  all_follow : (p : X) (ps : List X) → list_links (follows span) (p ∷ ps) ≡ true → AreProper ps → (q : X) → In q ps → int_le (span p).end (span q).start ≡ true
  all_follow p [] links proper q i = absurd i
  all_follow p (x ∷ ps) links proper q (inl e) = subst (λ (y : X). int_le (span p).end (span y).start ≡ true) (sym e) (first_follows (follows span) p x ps links)
  all_follow p (x ∷ ps) links proper q (inr i) = le_through (span p).end (span x).start (span x).end (span q).start (first_follows (follows span) p x ps links) (proper x (inl refl))
      (all_follow x ps (rest_linked (follows span) p (x ∷ ps) links) (λ y k. proper y (inr k)) q i)

  -- so two that have an instant are one
  pub one_at : (ps : List X) → list_links (follows span) ps ≡ true → AreProper ps → (t : ℤ) (p q : X) → In p ps → In q ps → has (span p) t ≡ true → has (span q) t ≡ true → p ≡ q
  one_at [] links proper t p q i j h k = absurd i
  one_at (x ∷ ps) links proper t p q (inl e) (inl f) h k = e ∙ sym f
  one_at (x ∷ ps) links proper t p q (inl e) (inr j) h k = absurd (apart (span p) (span q) t (subst (λ (y : X). int_le (span y).end (span q).start ≡ true) (sym e) (all_follow x ps links (λ y l. proper y (inr l)) q j)) h k)
  one_at (x ∷ ps) links proper t p q (inr i) (inl f) h k = absurd (apart (span q) (span p) t (subst (λ (y : X). int_le (span y).end (span p).start ≡ true) (sym f) (all_follow x ps links (λ y l. proper y (inr l)) p i)) k h)
  one_at (x ∷ ps) links proper t p q (inr i) (inr j) h k = one_at ps (rest_linked (follows span) x ps links) (λ y l. proper y (inr l)) t p q i j h k
