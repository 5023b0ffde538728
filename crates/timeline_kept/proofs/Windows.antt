-- A list of parts in which a window is replaced: what stands left and right of it stays, and touches nothing in it.
use Rattle.std.proofs.Common.{Bool, List, [], ap, arith, cond, drop, false, inl, inr, int_le, int_lt, length, not, refl, subst, suc, sym, take, true, zero, ℕ, ℤ, ◌&&◌, ◌<◌, ◌≤◌, ◌∙◌, ◌∷◌, ◌++◌, ◌≡◌, ◌⊎◌}
use Rattle.std.specs.Prelude.{None, Option, Some}
use Rattle.std.specs.Int.{int_max}
use Rattle.std.proofs.lemmas.Bool.{and_from, and_parts, cases_Bool}
use Rattle.std.proofs.lemmas.Int.{clamps, ints}
use Rattle.std.proofs.lemmas.List.{take-append-drop}
use Rattle.iv_span.specs.Extent.{has}
use Rattle.book_rows.specs.Lists.{In, list_links}
use Rattle.book_rows.specs.Shown.{ChunkPart, agree}
use Rattle.laws_chunks.proofs.Members.{In-append, In-left, In-right}
use Rattle.laws_chunks.proofs.Spans.{lt_is_le, lt_not_self, not_lt_le}
use Rattle.laws_parts.specs.Laws.{ChunkShown, chunk_body}
use Rattle.laws_parts.specs.Parts.{HasInstant, goes_on}
use Rattle.laws_parts.proofs.Determined.{chunks_means_body, chunks_means_touch, chunks_touch}
use Rattle.laws_parts.proofs.Unique.{first_goes_on, le_le_same, none_not_some, not_both, some_same}
use Rattle.timeline_kept.specs.Edges.{IsLeftEdge, IsRightEdge}
use Rattle.timeline_kept.specs.Filling.{Built}
use Rattle.timeline_kept.specs.Shown.{AreMaximal, AreShown, given_from, span_of}
use Rattle.timeline_kept.proofs.Showing.{later, maximal, rest_maximal}

-- ---- lists in two

module _ {X : Type 0} (R : X → X → Bool) where
  links_both : (xs ys : List X) → list_links R xs ≡ true → list_links R ys ≡ true → ((x y : X) → In x xs → In y ys → R x y ≡ true) → list_links R (xs ++ ys) ≡ true
  links_both [] ys v w b = w
  links_both (x ∷ []) [] v w b = refl
  links_both (x ∷ []) (y ∷ ys) v w b = and_from (R x y) (list_links R (y ∷ ys)) (b x y (inl refl) (inl refl)) w
  links_both (x ∷ z ∷ xs) ys v w b = let both = and_parts (R x z) (list_links R (z ∷ xs)) v in and_from (R x z) (list_links R ((z ∷ xs) ++ ys)) both.0 (links_both (z ∷ xs) ys both.1 w (λ a c i j. b a c (inr i) j))

  links_first : (xs ys : List X) → list_links R (xs ++ ys) ≡ true → list_links R xs ≡ true
  links_first [] ys v = refl
  links_first (x ∷ []) ys v = refl
  links_first (x ∷ z ∷ xs) ys v = let both = and_parts (R x z) (list_links R ((z ∷ xs) ++ ys)) v in and_from (R x z) (list_links R (z ∷ xs)) both.0 (links_first (z ∷ xs) ys both.1)

  links_tail : (x : X) (xs : List X) → list_links R (x ∷ xs) ≡ true → list_links R xs ≡ true
  links_tail x [] v = refl
  links_tail x (y ∷ xs) v = (and_parts (R x y) (list_links R (y ∷ xs)) v).1

  links_second : (xs ys : List X) → list_links R (xs ++ ys) ≡ true → list_links R ys ≡ true
  links_second [] ys v = v
  links_second (x ∷ xs) ys v = links_second xs ys (links_tail x (xs ++ ys) v)

-- ---- a part before the cut and one behind it

first_two : (xs ys : List ChunkPart) → AreMaximal (xs ++ ys) → AreMaximal xs × AreMaximal ys
first_two xs ys w = (
  record { linked = links_first (goes_on span_of agree) xs ys w.linked; proper = λ p i. w.proper p (In-left p xs ys i) },
  record { linked = links_second (goes_on span_of agree) xs ys w.linked; proper = λ p i. w.proper p (In-right p xs ys i) },
)

cross : (e s z t : ℤ) → int_le e s ≡ true → int_lt s z ≡ true → int_le z t ≡ true → e ≡ t → ⊥
cross e s z t h k l m = grind (arith, ints)

next_apart : (p : ChunkPart) (rs : List ChunkPart) → AreMaximal (p ∷ rs) → (q : ChunkPart) → In q rs → p.span.end ≡ q.span.start → chunk_body p ≡ chunk_body q → ⊥
next_apart p [] w q i e f = absurd i
next_apart p (r ∷ rs) w q (inl s) e f = not_both (agree p r) (chunks_touch p r (e ∙ ap (λ (x : ChunkPart). x.span.start) s) (f ∙ ap chunk_body s)) (first_goes_on span_of agree p r rs w.linked).1
next_apart p (r ∷ rs) w q (inr i) e f = cross p.span.end r.span.start r.span.end q.span.start (later p (r ∷ rs) w r (inl refl)) (w.proper r (inr (inl refl))) (later r rs (rest_maximal p (r ∷ rs) w) q i) e

pub no_touch : (xs ys : List ChunkPart) → AreMaximal (xs ++ ys) → (p q : ChunkPart) → In p xs → In q ys → p.span.end ≡ q.span.start → chunk_body p ≡ chunk_body q → ⊥
no_touch [] ys w p q i j e f = absurd i
no_touch (x ∷ xs) ys w p q (inr i) j e f = no_touch xs ys (rest_maximal x (xs ++ ys) w) p q i j e f
no_touch (x ∷ xs) ys w p q (inl s) j e f = next_apart x (xs ++ ys) w q (In-right q xs ys j) (ap (λ (y : ChunkPart). y.span.end) (sym s) ∙ e) (ap chunk_body (sym s) ∙ f)

-- ---- numbers

le_le : (a b c : ℤ) → int_le a b ≡ true → int_le b c ≡ true → int_le a c ≡ true
le_le a b c h k = grind (arith, ints)

le_lt : (a b c : ℤ) → int_le a b ≡ true → int_lt b c ≡ true → int_lt a c ≡ true
le_lt a b c h k = grind (arith, ints)

lt_le : (a b c : ℤ) → int_lt a b ≡ true → int_le b c ≡ true → int_lt a c ≡ true
lt_le a b c h k = grind (arith, ints)

has_start : (s e : ℤ) → int_lt s e ≡ true → (int_le s s && int_lt s e) ≡ true
has_start s e h = grind (arith, ints)

before_span : (s e t z : ℤ) → int_le e z ≡ true → (int_le s t && int_lt t e) ≡ true → int_lt t z ≡ true
before_span s e t z h k = grind (arith, ints)

from_span : (s e t z : ℤ) → int_le z s ≡ true → (int_le s t && int_lt t e) ≡ true → int_le z t ≡ true
from_span s e t z h k = grind (arith, ints)

not_before : (s e t z : ℤ) → int_le z s ≡ true → (int_le s t && int_lt t e) ≡ true → int_lt t z ≡ true → ⊥
not_before s e t z h k l = grind (arith, ints)

not_after : (s e t z : ℤ) → int_le e z ≡ true → (int_le s t && int_lt t e) ≡ true → int_lt t z ≡ false → ⊥
not_after s e t z h k l = grind (arith, ints)

le_off : (a t : ℤ) → int_le a t ≡ true → int_lt t a ≡ false
le_off a t h = grind (arith, ints)

-- an instant at which two spans end together, and which comes behind another
common : (a b c e : ℤ) → int_lt a e ≡ true → int_lt b e ≡ true → int_lt c e ≡ true → ((int_le a (int_max a (int_max b c)) && int_lt (int_max a (int_max b c)) e) ≡ true) × ((int_le b (int_max a (int_max b c)) && int_lt (int_max a (int_max b c)) e) ≡ true) × (int_le c (int_max a (int_max b c)) ≡ true)
common a b c e h k l = (grind (arith, ints, clamps), grind (arith, ints, clamps), grind (arith, ints, clamps))

-- ---- the list with another window

module _ (given old : ℤ → Option ChunkShown) (ps out : List ChunkPart) (first at start end : ℤ) (i j : ℕ) (w : AreShown old ps)
    (same_low : (t : ℤ) → int_lt t first ≡ true → given t ≡ old t) (same_high : (t : ℤ) → int_le at t ≡ true → given t ≡ old t) (from : int_le start at ≡ true)
    (l : IsLeftEdge ps first i start) (r : IsRightEdge ps at j end) (b : Built (given_from start given) end out) where
  abbrev lefts : List ChunkPart
  lefts = take i ps

  abbrev rights : List ChunkPart
  rights = drop j ps

  at_left : AreMaximal (take i ps ++ drop i ps)
  at_left = subst AreMaximal (sym (take-append-drop i ps)) (maximal old ps w)

  at_right : AreMaximal (take j ps ++ drop j ps)
  at_right = subst AreMaximal (sym (take-append-drop j ps)) (maximal old ps w)

  left_In : (p : ChunkPart) → In p lefts → In p ps
  left_In p k = subst (λ (xs : List ChunkPart). In p xs) (take-append-drop i ps) (In-left p (take i ps) (drop i ps) k)

  behind_In : (p : ChunkPart) → In p (drop i ps) → In p ps
  behind_In p k = subst (λ (xs : List ChunkPart). In p xs) (take-append-drop i ps) (In-right p (take i ps) (drop i ps) k)

  before_In : (p : ChunkPart) → In p (take j ps) → In p ps
  before_In p k = subst (λ (xs : List ChunkPart). In p xs) (take-append-drop j ps) (In-left p (take j ps) (drop j ps) k)

  right_In : (p : ChunkPart) → In p rights → In p ps
  right_In p k = subst (λ (xs : List ChunkPart). In p xs) (take-append-drop j ps) (In-right p (take j ps) (drop j ps) k)

  -- ---- what is in the window

  given_on : (t : ℤ) → int_le start t ≡ true → given_from start given t ≡ given t
  given_on t h = rw (le_off start t h) refl

  starts : (o : ChunkPart) → In o out → int_le start o.span.start ≡ true
  starts o k = go (int_lt o.span.start start) refl (b.right o o.span.start k (has_start o.span.start o.span.end (b.proper o k))) where
    go : (x : Bool) → int_lt o.span.start start ≡ x → cond x None (given o.span.start) ≡ Some (chunk_body o) → int_le start o.span.start ≡ true
    go true on h = absurd (none_not_some None (chunk_body o) refl h)
    go false off h = not_lt_le o.span.start start off

  right_out : (o : ChunkPart) (t : ℤ) → In o out → has o.span t ≡ true → given t ≡ Some (chunk_body o)
  right_out o t k h = sym (given_on t (from_span o.span.start o.span.end t start (starts o k) h)) ∙ b.right o t k h

  -- ---- what stands in order

  goes : (p q : ChunkPart) → int_le p.span.end q.span.start ≡ true → (p.span.end ≡ q.span.start → chunk_body p ≡ chunk_body q → ⊥) → goes_on span_of agree p q ≡ true
  goes p q le apart = and_from (int_le p.span.end q.span.start) (not (agree p q)) le (by (agree p q) refl) where
    by : (x : Bool) → agree p q ≡ x → not x ≡ true
    by true on = absurd (apart (chunks_means_touch p q on) (chunks_means_body p q on))
    by false off = refl

  left_out : (p o : ChunkPart) → In p lefts → In o out → goes_on span_of agree p o ≡ true
  left_out p o k m = goes p o (le_le p.span.end start o.span.start (l.before p k).1 (starts o m)) apart where
    apart : p.span.end ≡ o.span.start → chunk_body p ≡ chunk_body o → ⊥
    apart e f = by l.own where
      same : start ≡ o.span.start
      same = le_le_same start o.span.start (starts o m) (subst (λ (x : ℤ). int_le x start ≡ true) e (l.before p k).1)

      early : int_lt start first ≡ true
      early = subst (λ (x : ℤ). int_lt x first ≡ true) (e ∙ sym same) (l.before p k).0

      by : (start ≡ first) ⊎ ((q : ChunkPart) × In q (drop i ps) × (q.span.start ≡ start)) → ⊥
      by (inl at) = lt_not_self start first at early
      by (inr (q, n, s)) = no_touch (take i ps) (drop i ps) at_left p q k n (e ∙ sym same ∙ sym s) (f ∙ bodies) where
        in_q : has q.span start ≡ true
        in_q = subst (λ (x : ℤ). has q.span x ≡ true) s (has_start q.span.start q.span.end (w.proper q (behind_In q n)))

        in_o : has o.span start ≡ true
        in_o = subst (λ (x : ℤ). has o.span x ≡ true) (sym same) (has_start o.span.start o.span.end (b.proper o m))

        bodies : chunk_body o ≡ chunk_body q
        bodies = some_same (chunk_body o) (chunk_body q) (sym (right_out o start m in_o) ∙ same_low start early ∙ w.right q start (behind_In q n) in_q)

  out_right : (o q : ChunkPart) → In o out → In q rights → goes_on span_of agree o q ≡ true
  out_right o q m k = goes o q (le_le o.span.end end q.span.start (b.low o m) (r.after q k).1) apart where
    apart : o.span.end ≡ q.span.start → chunk_body o ≡ chunk_body q → ⊥
    apart e f = by r.own where
      same : end ≡ o.span.end
      same = le_le_same end o.span.end (subst (λ (x : ℤ). int_le end x ≡ true) (sym e) (r.after q k).1) (b.low o m)

      late : int_lt at end ≡ true
      late = subst (λ (x : ℤ). int_lt at x ≡ true) (sym (same ∙ e)) (r.after q k).0

      by : (end ≡ at) ⊎ ((p : ChunkPart) × In p (take j ps) × (p.span.end ≡ end)) → ⊥
      by (inl is) = lt_not_self at end (sym is) late
      by (inr (p, n, s)) = no_touch (take j ps) (drop j ps) at_right p q n k (s ∙ same ∙ e) (sym bodies ∙ f) where
        three : ((int_le o.span.start (int_max o.span.start (int_max p.span.start at)) && int_lt (int_max o.span.start (int_max p.span.start at)) end) ≡ true) × ((int_le p.span.start (int_max o.span.start (int_max p.span.start at)) && int_lt (int_max o.span.start (int_max p.span.start at)) end) ≡ true) × (int_le at (int_max o.span.start (int_max p.span.start at)) ≡ true)
        three = common o.span.start p.span.start at end (subst (λ (x : ℤ). int_lt o.span.start x ≡ true) (sym same) (b.proper o m)) (subst (λ (x : ℤ). int_lt p.span.start x ≡ true) s (w.proper p (before_In p n))) late

        t : ℤ
        t = int_max o.span.start (int_max p.span.start at)

        bodies : chunk_body o ≡ chunk_body p
        bodies = some_same (chunk_body o) (chunk_body p)
            (sym (right_out o t m (subst (λ (x : ℤ). (int_le o.span.start t && int_lt t x) ≡ true) same three.0)) ∙ same_high t three.2 ∙ w.right p t (before_In p n) (subst (λ (x : ℤ). (int_le p.span.start t && int_lt t x) ≡ true) (sym s) three.1))

  left_right : (p q : ChunkPart) → In p lefts → In q rights → goes_on span_of agree p q ≡ true
  left_right p q k m = goes p q (lt_is_le p.span.end q.span.start less) (λ e f. lt_not_self p.span.end q.span.start e less) where
    less : int_lt p.span.end q.span.start ≡ true
    less = le_lt p.span.end at q.span.start (le_le p.span.end start at (l.before p k).1 from) (r.after q m).0

  -- ---- where a part of the list stands

  where_left : (p : ChunkPart) → In p ps → In p lefts ⊎ In p (drop i ps)
  where_left p k = In-append p (take i ps) (drop i ps) (subst (λ (xs : List ChunkPart). In p xs) (sym (take-append-drop i ps)) k)

  where_right : (p : ChunkPart) → In p ps → In p (take j ps) ⊎ In p rights
  where_right p k = In-append p (take j ps) (drop j ps) (subst (λ (xs : List ChunkPart). In p xs) (sym (take-append-drop j ps)) k)

  abbrev all : List ChunkPart
  all = (lefts ++ out) ++ rights

  which : (p : ChunkPart) → In p all → In p lefts ⊎ (In p out ⊎ In p rights)
  which p k = go (In-append p (lefts ++ out) rights k) where
    go : In p (lefts ++ out) ⊎ In p rights → In p lefts ⊎ (In p out ⊎ In p rights)
    go (inl m) = more (In-append p lefts out m) where
      more : In p lefts ⊎ In p out → In p lefts ⊎ (In p out ⊎ In p rights)
      more (inl n) = inl n
      more (inr n) = inr (inl n)
    go (inr m) = inr (inr m)

  proper : (p : ChunkPart) → In p lefts ⊎ (In p out ⊎ In p rights) → int_lt p.span.start p.span.end ≡ true
  proper p (inl k) = w.proper p (left_In p k)
  proper p (inr (inl k)) = b.proper p k
  proper p (inr (inr k)) = w.proper p (right_In p k)

  right_at : (p : ChunkPart) (t : ℤ) → In p lefts ⊎ (In p out ⊎ In p rights) → has p.span t ≡ true → given t ≡ Some (chunk_body p)
  right_at p t (inl k) h = same_low t (lt_le t start first (before_span p.span.start p.span.end t start (l.before p k).1 h) l.low) ∙ w.right p t (left_In p k) h
  right_at p t (inr (inl k)) h = right_out p t k h
  right_at p t (inr (inr k)) h = same_high t (from_span p.span.start p.span.end t at (lt_is_le at p.span.start (r.after p k).0) h) ∙ w.right p t (right_In p k) h

  covered : (t : ℤ) (v : ChunkShown) → given t ≡ Some v → HasInstant span_of all t
  covered t v h = elim (cases_Bool (int_lt t start)) [ inl early ↦ low early | inr on ↦ elim (cases_Bool (int_lt t end)) [ inl within ↦ mid on within | inr late ↦ high late ] ] where
    low : int_lt t start ≡ true → HasInstant span_of all t
    low early = go (w.covers t v (sym (same_low t (lt_le t start first early l.low)) ∙ h)) where
      go : HasInstant span_of ps t → HasInstant span_of all t
      go (p, k, m) = elim (where_left p k) [
        | inl n ↦ (p, In-left p (lefts ++ out) rights (In-left p lefts out n), m)
        | inr n ↦ absurd (not_before p.span.start p.span.end t start (l.after p n) m early)
      ]

    mid : int_lt t start ≡ false → int_lt t end ≡ true → HasInstant span_of all t
    mid on within = go (b.covers t v within (given_on t (not_lt_le t start on) ∙ h)) where
      go : HasInstant span_of out t → HasInstant span_of all t
      go (p, k, m) = (p, In-left p (lefts ++ out) rights (In-right p lefts out k), m)

    high : int_lt t end ≡ false → HasInstant span_of all t
    high late = go (w.covers t v (sym (same_high t (le_le at end t r.high (not_lt_le t end late))) ∙ h)) where
      go : HasInstant span_of ps t → HasInstant span_of all t
      go (p, k, m) = elim (where_right p k) [
        | inl n ↦ absurd (not_after p.span.start p.span.end t end (r.before p n) m late)
        | inr n ↦ (p, In-right p (lefts ++ out) rights n, m)
      ]

  pub window_shown : AreShown given ((take i ps ++ out) ++ drop j ps)
  window_shown = record {
    linked = links_both (goes_on span_of agree) (lefts ++ out) rights
        (links_both (goes_on span_of agree) lefts out (first_two (take i ps) (drop i ps) at_left).0.linked b.linked left_out)
        (first_two (take j ps) (drop j ps) at_right).1.linked
        (λ p q k m. by p q m (In-append p lefts out k));
    proper = λ p k. proper p (which p k);
    right = λ p t k h. right_at p t (which p k) h;
    covers = covered;
  } where
    by : (p q : ChunkPart) → In q rights → In p lefts ⊎ In p out → goes_on span_of agree p q ≡ true
    by p q m (inl k) = left_right p q k m
    by p q m (inr k) = out_right p q k m

  -- the window isn't turned round
  pub window_ordered : i ≤ j
  window_ordered = elim (cases_le i j) [ inl le ↦ le | inr more ↦ absurd (turned more) ] where
    cases_le : (m n : ℕ) → (m ≤ n) ⊎ (n < m)
    cases_le zero n = inl (omega arith)
    cases_le (suc m) zero = inr (omega arith)
    cases_le (suc m) (suc n) = elim (cases_le m n) [ inl h ↦ inl (omega (arith, h)) | inr h ↦ inr (omega (arith, h)) ]

    -- an item before a place and from another on
    between : (xs : List ChunkPart) (m n : ℕ) → n < m → m ≤ length xs → (p : ChunkPart) × In p (take m xs) × In p (drop n xs)
    between xs zero n h k = absurd (omega (arith, h))
    between [] (suc m) n h k = absurd (omega (arith, k))
    between (x ∷ xs) (suc m) zero h k = (x, inl refl, inl refl)
    between (x ∷ xs) (suc m) (suc n) h k = let p = between xs m n (omega (arith, h)) (omega (arith, k)) in (p.0, inr p.1, p.2)

    turned : j < i → ⊥
    turned more = let p = between ps i j more l.bound in
        cross' p.0.span.start p.0.span.end start at (w.proper p.0 (left_In p.0 p.1)) (l.before p.0 p.1).1 from (r.after p.0 p.2).0 where
          cross' : (s e a z : ℤ) → int_lt s e ≡ true → int_le e a ≡ true → int_le a z ≡ true → int_lt z s ≡ true → ⊥
          cross' s e a z h k l m = grind (arith, ints)
