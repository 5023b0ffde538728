-- The least lock of the rules is the table's least by number.
use Rattle.std.proofs.Common.{◌≡◌, ℕ, Bool, true, false, ◌&&◌, nat_lt, fold, List, [], ◌∷◌, Option, Some, None, arith, inl, inr, refl, ◌∙◌}
use Rattle.std.proofs.lemmas.Bool.{cases_Bool}
use Rattle.book_rows.specs.Locks.{better, least, least_step}
use Rattle.book_rows.specs.declared.rows.PosseRow.{PosseRow}
use Rattle.row_table.specs.Table.{least_by, lower}

below : (a b c : ℕ) → nat_lt a b ≡ true → nat_lt b c ≡ true → nat_lt a c ≡ true
below a b c first second = grind (arith, first, second)

above : (a b c : ℕ) → nat_lt a b ≡ false → nat_lt b c ≡ false → nat_lt a c ≡ false
above a b c first second = grind (arith, first, second)

abbrev or_better : Option PosseRow → Option PosseRow → Option PosseRow
or_better best None = best
or_better best (Some p) = Some (better best p)

three : (p q l : PosseRow) → or_better (Some (better (Some q) p)) (Some l) ≡ or_better (Some q) (Some (lower (λ r. r.number) p (Some l)))
three p q l =
    elim (cases_Bool (nat_lt p.number q.number)) [
      | inl pq ↦ elim (cases_Bool (nat_lt l.number p.number)) [
        | inl lp ↦ rw (pq, lp, below l.number p.number q.number lp pq) refl
        | inr lp ↦ rw (pq, lp, pq) refl
      ]
      | inr pq ↦ elim (cases_Bool (nat_lt l.number p.number)) [
        | inl lp ↦ rw (pq, lp) refl
        | inr lp ↦ rw (pq, lp, pq, above l.number p.number q.number lp pq) refl
      ]
    ]

taken : (best : Option PosseRow) (p : PosseRow) (rest : Option PosseRow) → or_better (Some (better best p)) rest ≡ or_better best (Some (lower (λ r. r.number) p rest))
taken None p None = refl
taken None p (Some l) = refl
taken (Some q) p None = refl
taken (Some q) p (Some l) = three p q l

folded : (test : PosseRow → Bool) (ps : List PosseRow) (best : Option PosseRow) → fold (least_step test) best ps ≡ or_better best (least_by (λ r. r.number) test ps)
folded test [] best = refl
folded test (p ∷ ps) best =
    elim (cases_Bool (test p)) [
      | inl on ↦ rw on (folded test ps (Some (better best p)) ∙ taken best p (least_by (λ r. r.number) test ps))
      | inr off ↦ rw off (folded test ps best)
    ]

none_better : (rest : Option PosseRow) → or_better None rest ≡ rest
none_better None = refl
none_better (Some p) = refl

pub least_is : (test : PosseRow → Bool) (ps : List PosseRow) → least test ps ≡ least_by (λ r. r.number) test ps
least_is test ps = folded test ps None ∙ none_better (least_by (λ r. r.number) test ps)

-- ---- tests that answer alike

and_same : (o t : Bool) → (t ≡ true → o ≡ true) → (o && t) ≡ t
and_same true t over = refl
and_same false true over = over refl
and_same false false over = refl

-- where what passes is over the span, to look over the span changes nothing
pub only_over : (over test : PosseRow → Bool) → ((p : PosseRow) → test p ≡ true → over p ≡ true) → (λ p. over p && test p) ≡ test
only_over over test within = λ i p. and_same (over p) (test p) (within p) i
