-- How spans in the order of their starts are joined.
use Rattle.std.proofs.Common.{◌≡◌, ◌∙◌, true, false, ℕ, ◌+◌, ◌<◌, ◌≤◌, suc, ℤ, ◌≤ℤ◌, ◌<ℤ◌, ◌||◌, List, [], ◌∷◌, ◌++◌, length, take, arith, refl, sym, ap, Bool, ◌⊎◌, inl, inr, get_or}
use Rattle.std.specs.Prelude.{int_lt}
use Rattle.std.proofs.lemmas.Int.{ints, clamps}
use Rattle.std.proofs.lemmas.Bool.{cases_Bool, or_right, or_left}
use Rattle.std.proofs.lemmas.List.{get_or_default, take_all}
use Rattle.std.proofs.lemmas.List.Folds.{list_any-append, list_any_more}
use Rattle.iv_span.specs.Extent.{Extent, has, lengthened}
use Rattle.iv_span.specs.Condensed.{has_any, AreApart, IsCondensed, StartsRise}
use Rattle.iv_span.proofs.Sets.{has_it, within, lt_from}

same_test : (a b : Bool) → (a ≡ true → b ≡ true) → (b ≡ true → a ≡ true) → a ≡ b
same_test true b p q = sym (p refl)
same_test false true p q = q refl
same_test false false p q = refl

one_of : (a b : Bool) → (a || b) ≡ true → (a ≡ true) ⊎ (b ≡ true)
one_of true b h = inl refl
one_of false b h = inr h

not_lt : (a b : ℤ) → int_lt a b ≡ false → b ≤ℤ a
not_lt a b h = grind (arith, ints)

-- a span that is lengthened over the next one has the instants of both
has_both : (a b : Extent) (t : ℤ) → a.start ≤ℤ b.start → b.start ≤ℤ a.end → has (lengthened a b.end) t ≡ (has a t || has b t)
has_both a b t p q = same_test (has (lengthened a b.end) t) (has a t || has b t)
    (λ h. let in_both = within (lengthened a b.end) t h in
    elim (cases_Bool (int_lt t a.end)) as (λ _. (has a t || has b t) ≡ true) [
      | inl on ↦ or_left (has a t) (has b t) (has_it a t in_both.0 (lt_from t a.end on))
      | inr off ↦ let late : a.end ≤ℤ t = not_lt t a.end off in
          or_right (has a t) (has b t) (has_it b t (omega (arith, ints)) (omega (arith, ints, clamps)))
    ])
    (λ h. elim (one_of (has a t) (has b t) h) as (λ _. has (lengthened a b.end) t ≡ true) [
      | inl on ↦ let in_a = within a t on in has_it (lengthened a b.end) t in_a.0 (omega (arith, ints, clamps))
      | inr on ↦ let in_b = within b t on in has_it (lengthened a b.end) t (omega (arith, ints)) (omega (arith, ints, clamps))
    ])

widened : (done : List Extent) (a b : Extent) → a.start ≡ b.start → b.start <ℤ b.end → AreApart (done ++ a ∷ []) → AreApart (done ++ b ∷ [])
widened [] a b e p h = (p, tt, tt)
widened (x ∷ []) a b e p h = (h.0, omega (arith, ints), (p, tt, tt))
widened (x ∷ y ∷ rest) a b e p h = (h.0, h.1, widened (y ∷ rest) a b e p h.2)

followed : (done : List Extent) (a b : Extent) → a.end <ℤ b.start → b.start <ℤ b.end → AreApart (done ++ a ∷ []) → AreApart ((done ++ a ∷ []) ++ b ∷ [])
followed [] a b p q h = (h.0, p, (q, tt, tt))
followed (x ∷ []) a b p q h = (h.0, h.1, followed [] a b p q h.2)
followed (x ∷ y ∷ rest) a b p q h = (h.0, h.1, followed (y ∷ rest) a b p q h.2)

-- the pieces that are done and the last, which may still grow, stand for the first and i of the rest
pub record Joining (first : Extent) (rest : List Extent) (done : List Extent) (last : Extent) (i : ℕ) : Type 0 where
  pub same : (t : ℤ) → has_any (done ++ last ∷ []) t ≡ has_any (first ∷ take i rest) t
  pub apart : AreApart (done ++ last ∷ [])
  pub before : (j : ℕ) (d : Extent) → i ≤ j → j < length rest → last.start ≤ℤ (get_or rest j d).start

pub starts : (first : Extent) (rest done : List Extent) → done ≡ [] → first.start <ℤ first.end → StartsRise (first ∷ rest) → Joining first rest done first 0
starts first rest done e p rise = rw e record {
  same = λ t. refl;
  apart = (p, tt, tt);
  before = λ j d low high. rise.rise 0 (suc j) d (omega arith) (omega arith);
}

tests_grown : (d l n f s : Bool) → (d || (l || false)) ≡ (f || s) → (d || ((l || n) || false)) ≡ (f || (s || n))
tests_grown d l n f s h = grind arith

pub grown : (first : Extent) (rest done : List Extent) (last next : Extent) (i : ℕ) → Joining first rest done last i → i < length rest → next ≡ get_or rest i next → next.start ≤ℤ last.end → next.start <ℤ next.end → last.start <ℤ last.end → Joining first rest done (lengthened last next.end) (i + 1)
grown first rest done last next i j lt is near p q = record {
  same = λ t.
      let later : last.start ≤ℤ next.start = rw is (j.before i next (omega arith) lt) in
      list_any-append (λ s. has s t) done (lengthened last next.end ∷ [])
      ∙ rw (has_both last next t later near) (tests_grown (has_any done t) (has last t) (has next t) (has first t) (has_any (take i rest) t) (sym (list_any-append (λ s. has s t) done (last ∷ [])) ∙ j.same t))
      ∙ ap (λ b. has first t || b) (ap (λ s. has_any (take i rest) t || has s t) is ∙ sym (list_any_more (λ s. has s t) rest i next lt));
  apart = widened done last (lengthened last next.end) refl (omega (arith, ints, clamps)) j.apart;
  before = λ k d low high. j.before k d (omega arith) high;
}

pub ended : (first : Extent) (rest done pieces : List Extent) (last next : Extent) (i : ℕ) → Joining first rest done last i → StartsRise (first ∷ rest) → pieces ≡ done ++ last ∷ [] → i < length rest → next ≡ get_or rest i next → last.end <ℤ next.start → next.start <ℤ next.end → Joining first rest pieces next (i + 1)
ended first rest done pieces last next i j rise e lt is far p = rw e record {
  same = λ t.
      list_any-append (λ s. has s t) (done ++ last ∷ []) (next ∷ [])
      ∙ rw (j.same t) (tests_ended (has first t) (has_any (take i rest) t) (has next t))
      ∙ ap (λ b. has first t || b) (ap (λ s. has_any (take i rest) t || has s t) is ∙ sym (list_any_more (λ s. has s t) rest i next lt));
  apart = followed done last next far p j.apart;
  before = λ k d low high. rw (is, get_or_default rest i next d lt) (rise.rise (suc i) (suc k) d (omega arith) (omega arith));
}
  where
    tests_ended : (f s n : Bool) → ((f || s) || (n || false)) ≡ (f || (s || n))
    tests_ended f s n = grind arith

pub whole : (first : Extent) (rest done pieces : List Extent) (last : Extent) (i : ℕ) → Joining first rest done last i → pieces ≡ done ++ last ∷ [] → length rest ≤ i → IsCondensed (first ∷ rest) pieces
whole first rest done pieces last i j e full = rw e record {
  same = λ t. rw (← take_all i rest full) (j.same t);
  apart = j.apart;
}
