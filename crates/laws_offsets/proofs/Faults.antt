-- Which ranges go on from the stored offsets, and what is said of the first that doesn't.
use Rattle.std.proofs.Common.{◌≡◌, ℕ, ◌<◌, ◌≤◌, Bool, true, false, cond, List, [], ◌∷◌, Some, None, Option, refl, sym, inl, inr, ◌==◌, nat_lt, arith, ◌∙◌, ap}
use Rattle.std.proofs.lemmas.Bool.{eq-eqb, eqb-true, false≢true}
use Rattle.std.proofs.lemmas.Bool.Decides.{nat_tests}
use Rattle.book_rows.specs.Lists.{or_else}
use Rattle.book_rows.specs.Offsets.{compare, mismatch, part_fault, stored}
use Rattle.book_rows.specs.declared.replies.Refusal.{Refusal}
use Rattle.book_rows.specs.declared.replies.Refusal.TheVariants as Refusals
use Rattle.book_rows.specs.declared.rows.OffsetRow.{OffsetRow}
use Rattle.book_rows.specs.declared.rows.Range.{Range}
use Rattle.laws_offsets.specs.Comparing.{AllGoOn, FaultIsOfFirst, GoesOn, IsOfFirst, IsWhy, NoFaultWhereAllGoOn}
use Rattle.laws_offsets.proofs.Lists.{or_else_none, some_is}

at_least : (s e : ℕ) → nat_lt e s ≡ false → s ≤ e
at_least s e h = grind (arith, nat_tests)

below : (s e : ℕ) → nat_lt e s ≡ true → e < s
below s e h = grind (arith, nat_tests)

not_below : (s e : ℕ) → s ≤ e → nat_lt e s ≡ false
not_below s e h = grind (arith, nat_tests)

some_refusal : (x : Refusal) → Some x ≡ None → ⊥
some_refusal x e = cc

none_refusal : (x : Refusal) → None ≡ Some x → ⊥
none_refusal x e = cc

-- ---- one range

module _ (r : Range) where
  -- starting at what is stored, where there is no mismatch
  starts_there : (z : Option ℕ) → mismatch z r ≡ None → (y : ℕ) → z ≡ Some y → r.start ≡ y
  starts_there None e y f = cc
  starts_there (Some z) e y f = by (z == r.start) refl e where
    by : (same : Bool) → (z == r.start) ≡ same → cond same None (Some (Refusals.OffsetMismatch r.partition z)) ≡ None → r.start ≡ y
    by true is e = (let stored : z ≡ y = cc in sym (eqb-true z r.start is) ∙ stored)
    by false is e = absurd (some_refusal (Refusals.OffsetMismatch r.partition z) e)

  goes_on : (z : Option ℕ) → part_fault z r ≡ None → GoesOn z r
  goes_on z e = by (nat_lt r.end r.start) refl e where
    by : (back : Bool) → nat_lt r.end r.start ≡ back → cond back (Some (Refusals.BadRange r.partition)) (mismatch z r) ≡ None → GoesOn z r
    by true is e = absurd (some_refusal (Refusals.BadRange r.partition) e)
    by false is e = (at_least r.start r.end is, starts_there z e)

  no_mismatch : (z : Option ℕ) → ((y : ℕ) → z ≡ Some y → r.start ≡ y) → mismatch z r ≡ None
  no_mismatch None h = refl
  no_mismatch (Some z) h = ap (λ b. cond b None (Some (Refusals.OffsetMismatch r.partition z))) (eq-eqb z r.start (sym (h z refl)))

  has_no_fault : (z : Option ℕ) → GoesOn z r → part_fault z r ≡ None
  has_no_fault z h = ap (λ b. cond b (Some (Refusals.BadRange r.partition)) (mismatch z r)) (not_below r.start r.end h.0) ∙ no_mismatch z h.1

  -- what a mismatch tells
  mismatch_tells : (z : Option ℕ) (x : Refusal) → r.start ≤ r.end → mismatch z r ≡ Some x → IsWhy z r x
  mismatch_tells None x up e = absurd (none_refusal x e)
  mismatch_tells (Some z) x up e = by (z == r.start) refl e where
    by : (same : Bool) → (z == r.start) ≡ same → cond same None (Some (Refusals.OffsetMismatch r.partition z)) ≡ Some x → IsWhy (Some z) r x
    by true is e = absurd (none_refusal x e)
    by false is e = inr (z, sym (some_is (Refusals.OffsetMismatch r.partition z) x e), up, refl, λ same. false≢true (sym is ∙ eq-eqb z r.start (sym same)))

  fault_tells : (z : Option ℕ) (x : Refusal) → part_fault z r ≡ Some x → IsWhy z r x
  fault_tells z x e = by (nat_lt r.end r.start) refl e where
    by : (back : Bool) → nat_lt r.end r.start ≡ back → cond back (Some (Refusals.BadRange r.partition)) (mismatch z r) ≡ Some x → IsWhy z r x
    by true is e = inl (sym (some_is (Refusals.BadRange r.partition) x e), below r.start r.end is)
    by false is e = mismatch_tells z x (at_least r.start r.end is) e

-- ---- several

module _ (rows : List OffsetRow) (source stream : List ℕ) where
  abbrev fault_of : Range → Option Refusal
  fault_of r = part_fault (stored rows source stream r.partition) r

  all_go_on : (parts : List Range) → compare rows source stream parts ≡ None → AllGoOn rows source stream parts
  all_go_on [] e = tt
  all_go_on (r ∷ rs) e = (let both = or_else_none (fault_of r) (compare rows source stream rs) e in (goes_on r (stored rows source stream r.partition) both.0, all_go_on rs both.1))

  none_found : (parts : List Range) → AllGoOn rows source stream parts → compare rows source stream parts ≡ None
  none_found [] h = refl
  none_found (r ∷ rs) h = ap (λ (o : Option Refusal). or_else o (compare rows source stream rs)) (has_no_fault r (stored rows source stream r.partition) h.0) ∙ none_found rs h.1

  first_fault : (parts : List Range) (why : Refusal) → compare rows source stream parts ≡ Some why → IsOfFirst rows source stream parts why
  first_fault [] why e = absurd (none_refusal why e)
  first_fault (r ∷ rs) why e = by (fault_of r) refl e (first_fault rs why) where
    by : (o : Option Refusal) → fault_of r ≡ o → or_else o (compare rows source stream rs) ≡ Some why → (compare rows source stream rs ≡ Some why → IsOfFirst rows source stream rs why) → IsOfFirst rows source stream (r ∷ rs) why
    by (Some x) is e rest = record {
      before = [];
      range = r;
      after = rs;
      parts_are = refl;
      go_on = tt;
      why_is = fault_tells r (stored rows source stream r.partition) why (is ∙ e);
    }
    by None is e rest = (let w = rest e in record {
      before = r ∷ w.before;
      range = w.range;
      after = w.after;
      parts_are = ap (λ (rs : List Range). r ∷ rs) w.parts_are;
      go_on = (goes_on r (stored rows source stream r.partition) is, w.go_on);
      why_is = w.why_is;
    })

pub fault_is_of_first : FaultIsOfFirst
fault_is_of_first = first_fault

pub no_fault_where_all_go_on : NoFaultWhereAllGoOn
no_fault_where_all_go_on rows source stream parts = (all_go_on rows source stream parts, none_found rows source stream parts)
