-- What the look-ups of tasks and locks find.
use Rattle.std.proofs.Common.{◌≡◌, Bool, true, false, cond, ◌==◌, List, [], ◌∷◌, Some, None, Option, refl, sym, ◌∙◌, inl, inr, subst, ◌⊎◌, fold, nat_lt}
use Rattle.std.proofs.lemmas.Bool.{cases_Bool, false≢true}
use Rattle.std.proofs.lemmas.Bool.Decides.{Decides-eqb}
use Rattle.book_rows.specs.Lists.{In}
use Rattle.book_rows.specs.Locks.{HasDistinctNumbers, better, least, least_step, same_number}
use Rattle.book_rows.specs.declared.rows.PosseRow.{PosseRow}
use Rattle.laws_locks.proofs.Lists.{pair_of}

-- the one found is the one so far, or a lock of the list that passes
abbrev IsFound : (PosseRow → Bool) → List PosseRow → Option PosseRow → PosseRow → Type 0
IsFound test ps best p = (best ≡ Some p) ⊎ (In p ps × (test p ≡ true))

some_is : (p q : PosseRow) → Some p ≡ Some q → q ≡ p
some_is p q e = cc

-- one lock more is looked at
found_step : (test : PosseRow → Bool) (best : Option PosseRow) (x p : PosseRow) (b : Bool) → test x ≡ b → cond b (Some (better best x)) best ≡ Some p → (best ≡ Some p) ⊎ ((p ≡ x) × (test x ≡ true))
found_step test best x p false e same = inl same
found_step test None x p true e same = inr (some_is x p same, e)
found_step test (Some q) x p true e same = elim (cases_Bool (nat_lt x.number q.number)) [
  | inl on ↦ inr (some_is x p (rw on at same), e)
  | inr off ↦ inl (rw off at same)
]

least_from : (test : PosseRow → Bool) (best : Option PosseRow) (ps : List PosseRow) (p : PosseRow) → fold (least_step test) best ps ≡ Some p → IsFound test ps best p
least_from test best [] p e = inl e
least_from test best (x ∷ ps) p e = elim (least_from test (least_step test best x) ps p e) [
  | inr later ↦ inr (inr later.0, later.1)
  | inl now ↦ elim (found_step test best x p (test x) refl now) [
    | inl before ↦ inl before
    | inr here ↦ inr (inl here.0, subst (λ (y : PosseRow). test y ≡ true) (sym here.0) here.1)
  ]
]

nothing_found : (p : PosseRow) → None ≡ Some p → ⊥
nothing_found p e = cc

-- the least lock that passes is one of the list that passes
pub least_found : (test : PosseRow → Bool) (ps : List PosseRow) (p : PosseRow) → least test ps ≡ Some p → In p ps × (test p ≡ true)
least_found test ps p e = elim (least_from test None ps p e) [ inl none ↦ absurd (nothing_found p none) | inr found ↦ found ]

-- two locks of one number are one
pub one_number : (qs : List PosseRow) (p q : PosseRow) → HasDistinctNumbers qs → In p qs → In q qs → (p.number == q.number) ≡ true → p ≡ q
one_number qs p q d i j e = elim (pair_of (λ p q. same_number p q ≡ false) p q qs d i j) [
  | inl same ↦ same
  | inr (inl off) ↦ absurd (false≢true (sym off ∙ e))
  | inr (inr off) ↦ absurd (false≢true (sym off ∙ (Decides-eqb q.number p.number).1 (sym ((Decides-eqb p.number q.number).0 e))))
]
