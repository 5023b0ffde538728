-- Two lists of one length are compared pair by pair.
use Rattle.std.proofs.Common.{◌&&◌, ◌==◌, ◌∙◌, ◌∷◌, ◌≡◌, Bool, List, [], ap, arith, false, inl, inr, length, refl, map, sym, true}
use Rattle.std.specs.List.{list_all, zip}
use Rattle.std.proofs.lemmas.Bool.{cases_Bool, eqb-true}
use Rattle.seg_names.specs.Ids.{same_extent, same_id}
use Rattle.seg_names.specs.declared.seg_id.SegId.{SegId}
use Rattle.book_rows.specs.Ids.{same_ids}
use Rattle.book_rows.specs.Publications.{same_parts, same_range}
use Rattle.book_rows.specs.Spans.{same_spans}
use Rattle.book_rows.specs.declared.rows.Range.{Range}
use Rattle.book_rows.specs.declared.rows.SpanSince.{SpanSince}

-- all is the comparison of lists that same gives
module _ {X : Type 0} (same : X → X → Bool) (all : List X → List X → Bool) (ends : all [] [] ≡ true) (goes : (x y : X) (xs ys : List X) → all (x ∷ xs) (y ∷ ys) ≡ (same x y && all xs ys))
    (longer : (x : X) (xs : List X) → all (x ∷ xs) [] ≡ false) (shorter : (y : X) (ys : List X) → all [] (y ∷ ys) ≡ false) where
  zipped : (xs ys : List X) → length xs ≡ length ys → list_all (λ p. same p.0 p.1) (zip xs ys) ≡ all xs ys
  zipped [] [] e = sym ends
  zipped [] (y ∷ ys) e = absurd (omega (arith, e))
  zipped (x ∷ xs) [] e = absurd (omega (arith, e))
  zipped (x ∷ xs) (y ∷ ys) e = ap (λ b. same x y && b) (zipped xs ys (omega (arith, e))) ∙ sym (goes x y xs ys)

  and_none : (a : Bool) → (a && false) ≡ false
  and_none true = refl
  and_none false = refl

  unequal : (xs ys : List X) → (length xs ≡ length ys → ⊥) → all xs ys ≡ false
  unequal [] [] n = absurd (n refl)
  unequal [] (y ∷ ys) n = shorter y ys
  unequal (x ∷ xs) [] n = longer x xs
  unequal (x ∷ xs) (y ∷ ys) n = goes x y xs ys ∙ (ap (λ b. same x y && b) (unequal xs ys (λ e. n (omega (arith, e)))) ∙ and_none (same x y))

  apart : (xs ys : List X) → (length xs ≡ length ys → ⊥) → (length xs == length ys) ≡ all xs ys
  apart xs ys n =
      elim (cases_Bool (length xs == length ys)) [
        | inl on ↦ absurd (n (eqb-true (length xs) (length ys) on))
        | inr off ↦ off ∙ sym (unequal xs ys n)
      ]

pub ids_zipped : (xs ys : List SegId) → length xs ≡ length ys → list_all (λ p. same_id p.0 p.1) (zip xs ys) ≡ same_ids xs ys
ids_zipped xs ys e = zipped same_id same_ids refl (λ x y as' bs. refl) (λ x as'. refl) (λ y bs. refl) xs ys e

pub ids_apart : (xs ys : List SegId) → (length xs ≡ length ys → ⊥) → (length xs == length ys) ≡ same_ids xs ys
ids_apart xs ys n = apart same_id same_ids refl (λ x y as' bs. refl) (λ x as'. refl) (λ y bs. refl) xs ys n

abbrev same_since : SpanSince → SpanSince → Bool
same_since a b = same_extent a.span b.span

abbrev all_since : List SpanSince → List SpanSince → Bool
all_since xs ys = same_spans (map (λ s. s.span) xs) (map (λ s. s.span) ys)

pub spans_zipped : (xs ys : List SpanSince) → length xs ≡ length ys → list_all (λ p. same_extent p.0.span p.1.span) (zip xs ys) ≡ same_spans (map (λ s. s.span) xs) (map (λ s. s.span) ys)
spans_zipped xs ys e = zipped same_since all_since refl (λ x y as' bs. refl) (λ x as'. refl) (λ y bs. refl) xs ys e

pub spans_apart : (xs ys : List SpanSince) → (length xs ≡ length ys → ⊥) → (length xs == length ys) ≡ same_spans (map (λ s. s.span) xs) (map (λ s. s.span) ys)
spans_apart xs ys n = apart same_since all_since refl (λ x y as' bs. refl) (λ x as'. refl) (λ y bs. refl) xs ys n

pub parts_zipped : (xs ys : List Range) → length xs ≡ length ys → list_all (λ p. same_range p.0 p.1) (zip xs ys) ≡ same_parts xs ys
parts_zipped xs ys e = zipped same_range same_parts refl (λ x y as' bs. refl) (λ x as'. refl) (λ y bs. refl) xs ys e

pub parts_apart : (xs ys : List Range) → (length xs ≡ length ys → ⊥) → (length xs == length ys) ≡ same_parts xs ys
parts_apart xs ys n = apart same_range same_parts refl (λ x y as' bs. refl) (λ x as'. refl) (λ y bs. refl) xs ys n
