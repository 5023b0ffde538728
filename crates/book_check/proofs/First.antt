-- The first breach, rule by rule.
use Rattle.std.proofs.Common.{[], List, None, Option, Result, Some, ap, arith, false, min, refl, subst, sym, ℕ, ◌∙◌, ◌∷◌, ◌≡◌}
use Rattle.std.specs.Prelude.{⊤}
use Rattle.book_rows.specs.declared.rows.Book.{Book}
use Rattle.laws_unsound.specs.Rows.{least, lesser, zero_unless}
use Rattle.laws_unsound.specs.ShapeRows.{has_room, limit_rows, shape_rows}
use Rattle.laws_unsound.specs.Unsound.{Rule, Shape, breach_or, first_breach, number, row_of}
use Rattle.book_check.specs.Faults.{IsBreach, Tells}
use Rattle.book_check.specs.declared.faults.CheckFault.{CheckFault}

module _ (rule : Rule) (rules : List Rule) (b : Book) where
  -- a row breaks the first of the rules
  pub told_row : (row : ℕ) → row_of rule b ≡ Some row → IsBreach (number rule) row (first_breach (rule ∷ rules) b)
  told_row row e = subst (λ (o : Option ℕ). IsBreach (number rule) row (breach_or rule o (first_breach rules b))) (sym e) (refl, refl)

  -- none does: what is told of the others is told of all
  pub told_rest : (r : Result ⊤ CheckFault) → row_of rule b ≡ None → Tells (first_breach rules b) r → Tells (first_breach (rule ∷ rules) b) r
  told_rest r e told = subst (λ (o : Option ℕ). Tells (breach_or rule o (first_breach rules b)) r) (sym e) told

zero_least : (o : Option ℕ) → lesser (Some 0) o ≡ Some 0
zero_least None = refl
zero_least (Some n) = ap (λ (k : ℕ). Some k) (low n) where
  low : (n : ℕ) → min 0 n ≡ 0
  low n = omega arith

-- a table that is too long is the shape's row 0
pub full_first : (b : Book) → has_room b ≡ false → row_of Shape b ≡ Some 0
full_first b full =
    let head : zero_unless (has_room b) ≡ Some 0 = ap (λ h. zero_unless h) full in
    ap (λ (o : Option ℕ). lesser (lesser o (least (rest (limit_rows b)))) (least (rest (shape_rows b)))) head
    ∙ (ap (λ (o : Option ℕ). lesser o (least (rest (shape_rows b)))) (zero_least (least (rest (limit_rows b)))) ∙ zero_least (least (rest (shape_rows b)))) where
      rest : List (Option ℕ) → List (Option ℕ)
      rest [] = []
      rest (o ∷ os) = os
