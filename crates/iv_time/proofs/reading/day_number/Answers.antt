use Rattle.std.proofs.Common.{◌≡◌, ◌∙◌, sym, refl, subst, ap, Some, true, false, w8, w16, w32, w64, arith, ℤ, pos, to_z, of_z}
use Rattle.std.proofs.lemmas.Int.{ints}
use Rattle.jiff_core.specs.Calendar.{days_from_civil, IsCivilDate}
use Rattle.jiff_core.proofs.DateLemmas.{civil as civil_parts}
use Rattle.iv_time.proofs.Ranges.{day_from}
use Rattle.iv_time.proofs.Days.{day_if, day_unless}
use Rattle.iv_time.proofs.reading.day_number.Goals as goal

pub returns-in-Ok-clause-value : goal.returns-in-Ok-clause-value
returns-in-Ok-clause-value c =
    let y : to_z w16 c.args.year ≡ pos c.args.year = omega (arith, ints) in
    let m : to_z w8 c.args.month ≡ pos c.args.month = omega (arith, ints) in
    let d : to_z w8 c.args.day ≡ pos c.args.day = omega (arith, ints) in
    let v = c.in-Ok.ensures.value in
    let em : c.in-Ok.date.month ≡ c.args.month = omega (arith, ints, v.1) in
    let ed : c.in-Ok.date.day ≡ c.args.day = omega (arith, ints, v.2) in
    let number : c.to_unix_epoch_day.result ≡ days_from_civil c.in-Ok.date.year c.in-Ok.date.month c.in-Ok.date.day = rw c.to_plain.ensures at c.to_unix_epoch_day.ensures.value in
    let number2 : c.to_unix_epoch_day.result ≡ days_from_civil (pos c.args.year) c.args.month c.args.day = number ∙ ap (λ x. days_from_civil x c.in-Ok.date.month c.in-Ok.date.day) (v.0 ∙ y) ∙ ap (λ x. days_from_civil (pos c.args.year) x c.in-Ok.date.day) em ∙ ap (λ x. days_from_civil (pos c.args.year) c.args.month x) ed in
    let cast : to_z w64 (of_z w64 (to_z w32 (of_z w32 c.to_unix_epoch_day.result))) ≡ c.to_unix_epoch_day.result = omega (arith, ints) in
    ap Some (cast ∙ number2) ∙ sym (day_if c.args.year c.args.month c.args.day _ _ _ y m d (c.in-Ok.ensures.succeeds.0 refl))

pub returns-in-Err-clause-value : goal.returns-in-Err-clause-value
returns-in-Err-clause-value c =
    let y : to_z w16 c.args.year ≡ pos c.args.year = omega (arith, ints) in
    let m : to_z w8 c.args.month ≡ pos c.args.month = omega (arith, ints) in
    let d : to_z w8 c.args.day ≡ pos c.args.day = omega (arith, ints) in
    sym (day_unless c.args.year c.args.month c.args.day _ _ _ y m d c.requires.year (λ h. let no : false ≡ true = c.in-Err.ensures.succeeds.1 h in cc))

pub returns-in-Ok-clause-small : goal.returns-in-Ok-clause-small
returns-in-Ok-clause-small c =
    let y : to_z w16 c.args.year ≡ pos c.args.year = omega (arith, ints) in
    let v = c.in-Ok.ensures.value in
    let date = c.in-Ok.date in
    let civil : IsCivilDate (pos c.args.year) date.month date.day = subst (λ (x : ℤ). IsCivilDate x date.month date.day) (v.0 ∙ y) (civil_parts date) in
    let number : c.to_unix_epoch_day.result ≡ days_from_civil date.year date.month date.day = rw c.to_plain.ensures at c.to_unix_epoch_day.ensures.value in
    let number2 : c.to_unix_epoch_day.result ≡ days_from_civil (pos c.args.year) date.month date.day = number ∙ ap (λ x. days_from_civil x date.month date.day) (v.0 ∙ y) in
    let low = day_from c.args.year date.month date.day civil in
    (omega (arith, ints, low, number2), omega (arith, ints, c.to_unix_epoch_day.ensures.bound))
