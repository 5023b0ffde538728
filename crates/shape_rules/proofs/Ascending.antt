-- The least of the rows behind says what each of them says.
use Rattle.std.proofs.Common.{Bool, None, Option, Some, false, inl, inr, refl, sym, true, ◌∙◌, ◌≡◌, ◌||◌}
use Rattle.std.proofs.lemmas.Bool.{cases_Bool}
use Rattle.shape_rules.specs.Orders.{is_behind}

module _ {T : Type 0} (behind : T → T → Bool) where
  -- a row behind the least adds nothing to it
  pub put_on : ((x r q : T) → behind x r ≡ true → behind r q ≡ true → behind x q ≡ true) → (x r : T) (least : Option T) → is_behind behind r least ≡ true → is_behind behind x least ≡ (behind x r || is_behind behind x least)
  put_on chains x r None on = cc
  put_on chains x r (Some q) on = elim (cases_Bool (behind x r)) [ inl first ↦ rw (first, chains x r q first on) refl | inr apart ↦ rw apart refl ]

  -- a row before the least takes its place
  pub put_off : ((x r q : T) → behind r q ≡ false → behind x q ≡ true → behind x r ≡ true) → (x r : T) (least : Option T) → is_behind behind r least ≡ false → behind x r ≡ (behind x r || is_behind behind x least)
  put_off falls x r None off = elim (cases_Bool (behind x r)) [ inl on ↦ rw on refl | inr apart ↦ rw apart refl ]
  put_off falls x r (Some q) off = elim (cases_Bool (behind x r)) [
    | inl on ↦ rw on refl
    | inr apart ↦
        elim (cases_Bool (behind x q)) [ inl there ↦ (let clash : false ≡ true = sym apart ∙ falls x r q off there in cc) | inr none ↦ rw (apart, none) refl ]
  ]
