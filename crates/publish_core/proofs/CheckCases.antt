-- What the check of an insert or a replacement comes to, case by case.
use Rattle.std.proofs.Common.{Err, List, None, Ok, Option, Result, Some, refl, ◌≡◌}
use Rattle.std.specs.Prelude.{option_map}
use Rattle.iv_span.specs.Extent.{Extent}
use Rattle.book_rows.specs.Lists.{on_ok, or_else}
use Rattle.book_rows.specs.Over.{Target, or_err}
use Rattle.book_rows.specs.declared.replies.Refusal.{Refusal}
use Rattle.book_rows.specs.declared.replies.Refusal.TheVariants as Refusals

-- the check, by what each of its cases comes to
abbrev pub checked : Option Extent → Result (List Target) Refusal → (List Target → Option Refusal) → (List Target → Option Refusal) → Result (List Target) Refusal
checked bad found versions way = or_err (option_map Refusals.BadSpan bad) (on_ok found (λ xs. or_err (or_else (versions xs) (way xs)) (Ok xs)))

module _ (found : Result (List Target) Refusal) (versions way : List Target → Option Refusal) where
  pub at_bad_span : (bad : Option Extent) (s : Extent) → bad ≡ Some s → checked bad found versions way ≡ Err (Refusals.BadSpan s)
  at_bad_span bad s h = rw h refl

  module _ (bad : Option Extent) (none : bad ≡ None) where
    pub at_locks : (why : Refusal) → found ≡ Err why → checked bad found versions way ≡ Err why
    at_locks why h = rw (none, h) refl

    module _ (xs : List Target) (held : found ≡ Ok xs) where
      pub at_versions : (why : Refusal) → versions xs ≡ Some why → checked bad found versions way ≡ Err why
      at_versions why h = rw (none, held, h) refl

      module _ (right : versions xs ≡ None) where
        pub at_way : (why : Refusal) → way xs ≡ Some why → checked bad found versions way ≡ Err why
        at_way why h = rw (none, held, right, h) refl

        pub at_end : way xs ≡ None → checked bad found versions way ≡ Ok xs
        at_end h = rw (none, held, right, h) refl
