-- At most one list of parts shows what is given at each instant.
use Rattle.std.proofs.Common.{Bool, List, [], ap, arith, false, inl, inr, int_le, int_lt, not, refl, subst, sym, true, ℤ, ◌∙◌, ◌∷◌, ◌≡◌}
use Rattle.std.specs.Prelude.{None, Option, Some}
use Rattle.std.proofs.lemmas.Bool.{and_from, and_parts, cases_Bool, false≢true}
use Rattle.std.proofs.lemmas.Int.{ints}
use Rattle.iv_span.specs.Extent.{Extent, has}
use Rattle.book_rows.specs.Lists.{In, list_links}
use Rattle.laws_chunks.proofs.Spans.{extents, le_itself, le_not_lt, lt_is_le, lt_not_self, not_lt_le}
use Rattle.laws_parts.specs.Parts.{AreParts, HasInstant, goes_on}

abbrev or_else : {V : Type 0} → V → Option V → V
or_else d None = d
or_else d (Some v) = v

pub some_same : {V : Type 0} (a b : V) → Some a ≡ Some b → a ≡ b
some_same a b h = ap (or_else a) h

abbrev is_there : {V : Type 0} → Option V → Bool
is_there None = false
is_there (Some v) = true

pub none_not_some : {V : Type 0} (o : Option V) (a : V) → o ≡ None → o ≡ Some a → ⊥
none_not_some o a h k = false≢true (ap is_there (sym h ∙ k))

le_lt_le : (a b c d : ℤ) → int_lt a b ≡ true → int_le b c ≡ true → int_le c d ≡ true → int_le a d ≡ true
le_lt_le a b c d h k l = grind (arith, ints)

le_le_lt : (a b c d : ℤ) → int_le a b ≡ true → int_le b c ≡ true → int_lt c d ≡ true → int_le a d ≡ true
le_le_lt a b c d h k l = grind (arith, ints)

pub le_le_same : (a b : ℤ) → int_le a b ≡ true → int_le b a ≡ true → a ≡ b
le_le_same a b h k = grind (arith, ints)

pub not_both : (b : Bool) → b ≡ true → not b ≡ true → ⊥
not_both true h k = false≢true k
not_both false h k = false≢true h

module _ {X : Type 0} (span : X → Extent) (agrees : X → X → Bool) where
  pub first_goes_on : (p q : X) (ps : List X) → list_links (goes_on span agrees) (p ∷ q ∷ ps) ≡ true → (int_le (span p).end (span q).start ≡ true) × (not (agrees p q) ≡ true)
  first_goes_on p q ps links = and_parts (int_le (span p).end (span q).start) (not (agrees p q)) (and_parts (goes_on span agrees p q) (list_links (goes_on span agrees) (q ∷ ps)) links).0

  pub rest_goes_on : (p : X) (ps : List X) → list_links (goes_on span agrees) (p ∷ ps) ≡ true → list_links (goes_on span agrees) ps ≡ true
  rest_goes_on p [] links = refl
  rest_goes_on p (q ∷ ps) links = (and_parts (goes_on span agrees p q) (list_links (goes_on span agrees) (q ∷ ps)) links).1

  abbrev pub AreProper : List X → Type 0
  AreProper ps = (p : X) → In p ps → int_lt (span p).start (span p).end ≡ true

  -- none starts before the end of one before it
  pub all_after : (p : X) (ps : List X) → list_links (goes_on span agrees) (p ∷ ps) ≡ true → AreProper ps → (q : X) → In q ps → int_le (span p).end (span q).start ≡ true
  all_after p [] links proper q i = absurd i
  all_after p (x ∷ ps) links proper q (inl e) = subst (λ (y : X). int_le (span p).end (span y).start ≡ true) (sym e) (first_goes_on p x ps links).0
  all_after p (x ∷ ps) links proper q (inr i) = through (span p).end (span x).start (span x).end (span q).start (first_goes_on p x ps links).0 (proper x (inl refl)) (all_after x ps (rest_goes_on p (x ∷ ps) links) (λ y k. proper y (inr k)) q i) where
    through : (a b c d : ℤ) → int_le a b ≡ true → int_lt b c ≡ true → int_le c d ≡ true → int_le a d ≡ true
    through a b c d h k l = grind (arith, ints)

  pub from_first : (p : X) (ps : List X) (t : ℤ) → list_links (goes_on span agrees) (p ∷ ps) ≡ true → AreProper (p ∷ ps) → HasInstant span (p ∷ ps) t → int_le (span p).start t ≡ true
  from_first p ps t links proper (x, (inl e), h) = subst (λ (y : X). int_le (span y).start t ≡ true) e (and_parts (int_le (span x).start t) (int_lt t (span x).end) h).0
  from_first p ps t links proper (x, (inr i), h) = le_lt_le' (span p).start (span p).end (span x).start t (proper p (inl refl)) (all_after p ps links (λ y k. proper y (inr k)) x i) (and_parts (int_le (span x).start t) (int_lt t (span x).end) h).0 where
    le_lt_le' : (a b c d : ℤ) → int_lt a b ≡ true → int_le b c ≡ true → int_le c d ≡ true → int_le a d ≡ true
    le_lt_le' a b c d h k l = grind (arith, ints)

  pub has_start : (s : Extent) → int_lt s.start s.end ≡ true → has s s.start ≡ true
  has_start s h = and_from (int_le s.start s.start) (int_lt s.start s.end) (le_itself s.start) h

module _ {X V : Type 0} (span : X → Extent) (body : X → V) (agrees : X → X → Bool) (given : ℤ → Option V)
    (whole : (p q : X) → span p ≡ span q → body p ≡ body q → p ≡ q)
    (touch : (p q : X) → (span p).end ≡ (span q).start → body p ≡ body q → agrees p q ≡ true) where
  -- the parts are right, whatever they leave out
  pub record AreRight (ps : List X) : Type 0 where
    pub linked : list_links (goes_on span agrees) ps ≡ true
    pub proper : (p : X) → In p ps → int_lt (span p).start (span p).end ≡ true
    pub right : (p : X) (t : ℤ) → In p ps → has (span p) t ≡ true → given t ≡ Some (body p)

  abbrev Within : List X → List X → Type 0
  Within ps qs = (t : ℤ) → HasInstant span ps t → HasInstant span qs t

  rest_right : (p : X) (ps : List X) → AreRight (p ∷ ps) → AreRight ps
  rest_right p ps w = record { linked = rest_goes_on span agrees p ps w.linked; proper = λ q i. w.proper q (inr i); right = λ q t i h. w.right q t (inr i) h }

  start_first : (p q : X) (ps qs : List X) → AreRight (p ∷ ps) → AreRight (q ∷ qs) → Within (p ∷ ps) (q ∷ qs) → int_le (span q).start (span p).start ≡ true
  start_first p q ps qs v w sub = from_first span agrees q qs (span p).start w.linked w.proper (sub (span p).start (p, inl refl, has_start span agrees (span p) (v.proper p (inl refl))))

  same_body : (p q : X) (t : ℤ) → given t ≡ Some (body p) → given t ≡ Some (body q) → body p ≡ body q
  same_body p q t h k = some_same (body p) (body q) (sym h ∙ k)

  -- the first part of one list isn't shorter than that of the other
  not_shorter : (p q : X) (ps qs : List X) → AreRight (p ∷ ps) → AreRight (q ∷ qs) → (span p).start ≡ (span q).start → Within (q ∷ qs) (p ∷ ps) → int_lt (span p).end (span q).end ≡ true → ⊥
  not_shorter p q ps qs v w start sub short = elsewhere (sub (span p).end (q, inl refl, in_q)) where
    low : int_le (span q).start (span p).end ≡ true
    low = subst (λ (t : ℤ). int_le t (span p).end ≡ true) start (lt_is_le (span p).start (span p).end (v.proper p (inl refl)))

    in_q : has (span q) (span p).end ≡ true
    in_q = and_from (int_le (span q).start (span p).end) (int_lt (span p).end (span q).end) low short

    bodies : body p ≡ body q
    bodies = same_body p q (span p).start (v.right p (span p).start (inl refl) (has_start span agrees (span p) (v.proper p (inl refl))))
        (w.right q (span p).start (inl refl) (subst (λ (t : ℤ). has (span q) t ≡ true) (sym start) (has_start span agrees (span q) (w.proper q (inl refl)))))

    next_is : (rs : List X) → AreRight (p ∷ rs) → HasInstant span rs (span p).end → ⊥
    next_is [] u (x, i, h) = absurd i
    next_is (r ∷ rs) u m = not_both (agrees p r) (touch p r at (bodies ∙ same_body q r (span p).end (w.right q (span p).end (inl refl) in_q) (u.right r (span p).end (inr (inl refl)) in_r))) (first_goes_on span agrees p r rs u.linked).1 where
      at : (span p).end ≡ (span r).start
      at = le_le_same (span p).end (span r).start (first_goes_on span agrees p r rs u.linked).0 (from_first span agrees r rs (span p).end (rest_right p (r ∷ rs) u).linked (rest_right p (r ∷ rs) u).proper m)

      in_r : has (span r) (span p).end ≡ true
      in_r = subst (λ (t : ℤ). has (span r) t ≡ true) (sym at) (has_start span agrees (span r) (u.proper r (inr (inl refl))))

    elsewhere : HasInstant span (p ∷ ps) (span p).end → ⊥
    elsewhere (x, (inl e), h) = lt_not_self (span p).end (span p).end refl (subst (λ (y : X). int_lt (span p).end (span y).end ≡ true) e (and_parts (int_le (span x).start (span p).end) (int_lt (span p).end (span x).end) h).1)
    elsewhere (x, (inr i), h) = next_is ps v (x, i, h)

  ends_same : (a b : ℤ) → (int_lt a b ≡ true → ⊥) → (int_lt b a ≡ true → ⊥) → a ≡ b
  ends_same a b h k = le_le_same a b (half b a k) (half a b h) where
    half : (a b : ℤ) → (int_lt a b ≡ true → ⊥) → int_le b a ≡ true
    half a b h = elim (cases_Bool (int_lt a b)) [ inl on ↦ absurd (h on) | inr off ↦ not_lt_le a b off ]

  -- the rest have the same instants where the first ones are one
  rest_within : (p q : X) (ps qs : List X) → AreRight (p ∷ ps) → p ≡ q → Within (p ∷ ps) (q ∷ qs) → Within ps qs
  rest_within p q ps qs v same sub t (x, i, h) = go (sub t (x, inr i, h)) where
    go : HasInstant span (q ∷ qs) t → HasInstant span qs t
    go (y, (inr j), k) = (y, j, k)
    go (y, (inl e), k) = absurd (le_not_lt (span p).end t
        (through (span p).end (span x).start t (all_after span agrees p ps v.linked (λ z l. v.proper z (inr l)) x i) (and_parts (int_le (span x).start t) (int_lt t (span x).end) h).0)
        (subst (λ (z : X). int_lt t (span z).end ≡ true) (e ∙ sym same) (and_parts (int_le (span y).start t) (int_lt t (span y).end) k).1)) where
          through : (a b c : ℤ) → int_le a b ≡ true → int_le b c ≡ true → int_le a c ≡ true
          through a b c h k = grind (arith, ints)

  pub same_parts : (ps qs : List X) → AreRight ps → AreRight qs → Within ps qs → Within qs ps → ps ≡ qs
  same_parts [] [] v w sub sup = refl
  same_parts [] (q ∷ qs) v w sub sup = absurd (sup (span q).start (q, inl refl, has_start span agrees (span q) (w.proper q (inl refl)))).1
  same_parts (p ∷ ps) [] v w sub sup = absurd (sub (span p).start (p, inl refl, has_start span agrees (span p) (v.proper p (inl refl)))).1
  same_parts (p ∷ ps) (q ∷ qs) v w sub sup = both first (same_parts ps qs (rest_right p ps v) (rest_right q qs w) (rest_within p q ps qs v first sub) (rest_within q p qs ps w (sym first) sup)) where
    start : (span p).start ≡ (span q).start
    start = le_le_same (span p).start (span q).start (start_first q p qs ps w v sup) (start_first p q ps qs v w sub)

    end : (span p).end ≡ (span q).end
    end = ends_same (span p).end (span q).end (not_shorter p q ps qs v w start sup) (not_shorter q p qs ps w v (sym start) sub)

    bodies : body p ≡ body q
    bodies = same_body p q (span p).start (v.right p (span p).start (inl refl) (has_start span agrees (span p) (v.proper p (inl refl))))
        (w.right q (span p).start (inl refl) (subst (λ (t : ℤ). has (span q) t ≡ true) (sym start) (has_start span agrees (span q) (w.proper q (inl refl)))))

    first : p ≡ q
    first = whole p q (extents start end) bodies

    both : p ≡ q → ps ≡ qs → p ∷ ps ≡ q ∷ qs
    both e f = rw (e, f) refl

  right_of : (ps : List X) → AreParts span body agrees given ps → AreRight ps
  right_of ps w = record { linked = w.linked; proper = w.proper; right = w.right }

  within_of : (ps qs : List X) → AreParts span body agrees given ps → AreParts span body agrees given qs → Within ps qs
  within_of ps qs v w t (p, i, h) = w.covers t (body p) (v.right p t i h)

  pub one_list : (ps qs : List X) → AreParts span body agrees given ps → AreParts span body agrees given qs → ps ≡ qs
  one_list ps qs v w = same_parts ps qs (right_of ps v) (right_of qs w) (within_of ps qs v w) (within_of qs ps w v)
