-- The starts and ends of covers, sorted; and what a heap of covers keeps.
use Rattle.std.proofs.Common.{Bool, ℕ, List, [], ap, arith, false, get_or, inl, inr, int_lt, length, refl, subst, suc, sym, true, zero, ℤ, ◌+◌, ◌<◌, ◌≤◌, ◌≤ℤ◌, ◌∙◌, ◌∷◌, ◌≡◌, add-one}
use Rattle.std.specs.Prelude.{None, Option, Some, IfNone, IfSome, nat_le}
use Rattle.std.specs.BinaryHeap.{IsHeap, PopsGreatest}
use Rattle.std.specs.List.{AllByRecursion, flat_map}
use Rattle.std.specs.List.Sorted.{IsPermutation, IsSortedBy}
use Rattle.std.specs.Ordering.{int_cmp, is_lt, ordering_then}
use Rattle.std.specs.declared.cmp.Ordering.{Ordering}
use Rattle.std.proofs.lemmas.Bool.{cases_Bool, false≢true, leb-true, leb-false}
use Rattle.std.proofs.lemmas.Int.{ints}
use Rattle.std.proofs.lemmas.List.{get_or_default}
use Rattle.std.proofs.lemmas.List.Sorted.{IsPermutation-sym}
use Rattle.book_rows.specs.Lists.{In}
use Rattle.laws_chunks.proofs.Members.{In-all}
use Rattle.timeline_view.specs.Sweep.{AreEnds, DoRise, IsTopAfter, KeepsLater, cover_cmp, end_of, is_below, start_of}
use Rattle.timeline_view.specs.declared.sweep.Cover.{Cover}
use Rattle.timeline_view.specs.declared.sweep.Event.{Event}
use Rattle.timeline_view.proofs.Places.{In_permuted, at_In}

-- ---- ends

abbrev both_of : Cover → List Event
both_of c = start_of c ∷ end_of c ∷ []

start_In : (cs : List Cover) (c : Cover) → In c cs → In (start_of c) (flat_map both_of cs)
start_In [] c i = absurd i
start_In (x ∷ cs) c (inl e) = inl (ap start_of e)
start_In (x ∷ cs) c (inr i) = inr (inr (start_In cs c i))

end_In : (cs : List Cover) (c : Cover) → In c cs → In (end_of c) (flat_map both_of cs)
end_In [] c i = absurd i
end_In (x ∷ cs) c (inl e) = inr (inl (ap end_of e))
end_In (x ∷ cs) c (inr i) = inr (inr (end_In cs c i))

cover_In : (cs : List Cover) (e : Event) → In e (flat_map both_of cs) → In e.cover cs
cover_In [] e i = absurd i
cover_In (x ∷ cs) e (inl s) = inl (ap (λ (y : Event). y.cover) s)
cover_In (x ∷ cs) e (inr (inl s)) = inl (ap (λ (y : Event). y.cover) s)
cover_In (x ∷ cs) e (inr (inr i)) = inr (cover_In cs e i)

at_start : (cs : List Cover) (e : Event) → In e (flat_map both_of cs) → e.enters ≡ true → e.at ≡ e.cover.span.start
at_start [] e i on = absurd i
at_start (x ∷ cs) e (inl s) on = rw s refl
at_start (x ∷ cs) e (inr (inl s)) on = absurd (false≢true (sym (ap (λ (y : Event). y.enters) s) ∙ on))
at_start (x ∷ cs) e (inr (inr i)) on = at_start cs e i on

pub ends_are : (cs : List Cover) (built sorted : List Event) → built ≡ flat_map both_of cs → IsPermutation built sorted → AreEnds cs sorted
ends_are cs built sorted is p = record {
  starts = λ c i. In_permuted built sorted (start_of c) p (subst (λ (es : List Event). In (start_of c) es) (sym is) (start_In cs c i));
  ends = λ c i. In_permuted built sorted (end_of c) p (subst (λ (es : List Event). In (end_of c) es) (sym is) (end_In cs c i));
  cover_of = λ e i. cover_In cs e (back e i);
  start_is = λ e i on. at_start cs e (back e i) on;
} where
  back : (e : Event) → In e sorted → In e (flat_map both_of cs)
  back e i = subst (λ (es : List Event). In e es) is (In_permuted sorted built e (IsPermutation-sym built sorted p) i)

-- what is sorted by an order that looks at an instant first rises by that instant
pub rises : {X : Type 0} (at : X → ℤ) {lt : X → X → Bool} → ((a b : X) → lt b a ≡ false → at a ≤ℤ at b) → (es : List X) → IsSortedBy lt es → (i j : ℕ) (d : X) → i ≤ j → j < length es → at (get_or es i d) ≤ℤ at (get_or es j d)
rises at low es up zero zero d le lt' = omega (arith, ints)
rises at low es up (suc i) zero d le lt' = absurd (omega arith)
rises at low es up i (suc j) d le lt' = elim (cases_Bool (nat_le i j)) as (λ _. at (get_or es i d) ≤ℤ at (get_or es (suc j) d)) [
  | inl on ↦
      let at_most : i ≤ j = leb-true i j on in
      let first : at (get_or es i d) ≤ℤ at (get_or es j d) = rises at low es up i j d at_most (omega arith) in
      let next : at (get_or es j d) ≤ℤ at (get_or es (suc j) d) = rw add-one at (low (get_or es j d) (get_or es (j + 1) d) (up j d (omega arith) (omega arith))) in
      omega (arith, ints)
  | inr off ↦
      let same : i ≡ suc j = omega (arith, leb-false i j off) in
      rw same (omega (arith, ints))
]

pub lower : (a b : ℤ) (o : Ordering) → is_lt (ordering_then (int_cmp b a) o) ≡ false → a ≤ℤ b
lower a b o h = grind (arith, ints)

pub rises_by : (rest : Event → Event → Ordering) (es : List Event) → IsSortedBy (λ x y. is_lt (ordering_then (int_cmp x.at y.at) (rest x y))) es → DoRise es
rises_by rest es up = rises (λ (e : Event). e.at) {lt = λ x y. is_lt (ordering_then (int_cmp x.at y.at) (rest x y))} (λ a b h. lower a.at b.at (rest b a) h) es up

-- ---- the heap

pub keeps_all : (now : ℤ) (cs : List Cover) → KeepsLater now cs cs
keeps_all now cs = record { kept = λ c i h. i; back = λ c i. i }

pub keeps_both : (now : ℤ) (a b c : List Cover) → KeepsLater now a b → KeepsLater now b c → KeepsLater now a c
keeps_both now a b c v w = record { kept = λ x i h. w.kept x (v.kept x i h) h; back = λ x i. v.back x (w.back x i) }

pub popped : (Q : Type 0) (now : ℤ) (old new : List Cover) (r : Option Cover) (g : Cover) → IsHeap cover_cmp old → 0 < length old → g ≡ get_or old 0 g → int_lt now g.span.end ≡ false
    → IfSome r (λ x. x ≡ get_or old 0 x) → IfSome r (λ x. IsPermutation old (x ∷ new)) → IfSome r (λ x. PopsGreatest cover_cmp old x new) → IfNone r ((new ≡ old) × Q) → IsHeap cover_cmp new × KeepsLater now old new
popped Q now old new None g heap some is gone top perm greatest none = (subst (λ (xs : List Cover). IsHeap cover_cmp xs) (sym none.0) heap, subst (λ (xs : List Cover). KeepsLater now old xs) (sym none.0) (keeps_all now old))
popped Q now old new (Some x) g heap some is gone top perm greatest none = ((greatest heap).0, record { kept = stays; back = λ c i. In_permuted (x ∷ new) old c (IsPermutation-sym old (x ∷ new) perm) (inr i) }) where
  same : x ≡ g
  same = top ∙ get_or_default old 0 x g some ∙ sym is

  stays : (c : Cover) → In c old → int_lt now c.span.end ≡ true → In c new
  stays c i later = go (In_permuted old (x ∷ new) c perm i) where
    go : In c (x ∷ new) → In c new
    go (inr k) = k
    go (inl e) = absurd (false≢true (sym gone ∙ subst (λ (y : Cover). int_lt now y.span.end ≡ true) (e ∙ same) later))

pub top_is_after : (now : ℤ) (cs : List Cover) (g : Cover) {lt : Cover → Bool} → ((d : Cover) → lt d ≡ false → is_below g d ≡ false) → 0 < length cs → g ≡ get_or cs 0 g → int_lt now g.span.end ≡ true → AllByRecursion (λ d. lt d ≡ false) cs → IsTopAfter now cs g
top_is_after now cs g {lt} low some is later all = record { among = at_In cs g 0 some (sym is); later = later; greatest = λ d i. low d (In-all (λ d. lt d ≡ false) d cs i all) }
