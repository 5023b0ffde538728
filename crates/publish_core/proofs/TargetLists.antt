-- Spans with their locks, found one after another.
use Rattle.std.proofs.Common.{Err, List, Ok, Result, [], ap, append_assoc, refl, sym, ◌++◌, ◌∷◌, ◌≡◌}
use Rattle.iv_span.specs.Extent.{Extent}
use Rattle.book_rows.specs.Lists.{on_ok}
use Rattle.book_rows.specs.Over.{Target, target_of}
use Rattle.book_rows.specs.declared.replies.Refusal.{Refusal}
use Rattle.book_rows.specs.declared.rows.PosseRow.{PosseRow}

-- what comes of a span and the rest, after those that are found
abbrev pub with_found : List Target → Extent → Result PosseRow Refusal → Result (List Target) Refusal → Result (List Target) Refusal
with_found found s held rest = on_ok (on_ok held (λ q. on_ok rest (λ ys. Ok (target_of s q ∷ ys)))) (λ ys. Ok (found ++ ys))

abbrev pub told_of : Extent → Result PosseRow Refusal → Result Target Refusal
told_of s held = on_ok held (λ q. Ok (target_of s q))

-- the span has a lock
pub goes_on : (found : List Target) (s : Extent) (held : Result PosseRow Refusal) (rest : Result (List Target) Refusal) (x : Target) → told_of s held ≡ Ok x
    → with_found found s held rest ≡ on_ok rest (λ ys. Ok ((found ++ x ∷ []) ++ ys))
goes_on found s (Err why) rest x h = cc
goes_on found s (Ok q) rest x h = go rest where
  same : target_of s q ≡ x
  same = cc

  go : (r : Result (List Target) Refusal) → with_found found s (Ok q) r ≡ on_ok r (λ ys. Ok ((found ++ x ∷ []) ++ ys))
  go (Err why) = refl
  go (Ok ys) = rw (same, append_assoc found (x ∷ []) ys) refl

pub has_span : (s : Extent) (held : Result PosseRow Refusal) (x : Target) → told_of s held ≡ Ok x → x.span ≡ s
has_span s (Err why) x h = cc
has_span s (Ok q) x h =
    let same : target_of s q ≡ x = cc in
    ap (λ (y : Target). y.span) (sym same)

-- it has none
pub stops : (found : List Target) (s : Extent) (held : Result PosseRow Refusal) (rest : Result (List Target) Refusal) (why : Refusal) → told_of s held ≡ Err why → with_found found s held rest ≡ Err why
stops found s (Err other) rest why h =
    let same : other ≡ why = cc in
    ap (λ (r : Refusal). Err r) same
stops found s (Ok q) rest why h = cc
