-- Rows of a source stand in classes, by number, each class under its spans: a class that isn't asked for isn't met.
use Rattle.std.specs.Prelude.{◌++◌, ◌∷◌, ◌≡◌, List, [], flat_map, fold, int_lt, true, ℕ, ℤ}
use Rattle.std.proofs.Common.{ap, inl, inr, refl, sym}
use Rattle.std.proofs.lemmas.Bool.{and_parts}
use Rattle.iv_span.specs.Extent.{Extent, overlap}
use Rattle.row_index.specs.Digests.{mix}
use Rattle.row_index.specs.Index.{In, IsReached}
use Rattle.span_keys.specs.Classes.{span_key, span_ranges}
use Rattle.span_keys.proofs.SpanLemmas.{span_reached}

abbrev pub class_digest : List ℕ → ℕ → ℕ
class_digest source number = mix (fold mix 10 source) number

abbrev pub class_ranges : List ℕ → Extent → List ℕ → List ((ℕ × ℤ) × ℤ)
class_ranges source span numbers = flat_map (λ n. span_ranges (class_digest source n) span) numbers

pub overlap_turned : (a b : Extent) → overlap a b ≡ true → overlap b a ≡ true
overlap_turned a b on = let both = and_parts (int_lt a.start b.end) (int_lt b.start a.end) on in rw (both.1, both.0) refl

-- ---- ranges of several classes

in_front : {X : Type 0} (x : X) (xs ys : List X) → In x xs → In x (xs ++ ys)
in_front x [] ys there = absurd there
in_front x (z ∷ xs) ys (inl e) = inl e
in_front x (z ∷ xs) ys (inr later) = inr (in_front x xs ys later)

in_behind : {X : Type 0} (x : X) (xs ys : List X) → In x ys → In x (xs ++ ys)
in_behind x [] ys there = there
in_behind x (z ∷ xs) ys there = inr (in_behind x xs ys there)

pub front_reached : (gs hs : List ((ℕ × ℤ) × ℤ)) (own : List (ℕ × ℤ)) → IsReached gs own → IsReached (gs ++ hs) own
front_reached gs hs own (g, k, there, key, lies) = (g, k, in_front g gs hs there, key, lies)

pub behind_reached : (gs hs : List ((ℕ × ℤ) × ℤ)) (own : List (ℕ × ℤ)) → IsReached hs own → IsReached (gs ++ hs) own
behind_reached gs hs own (g, k, there, key, lies) = (g, k, in_behind g gs hs there, key, lies)

pub class_reached : (source : List ℕ) (asked own : Extent) (number : ℕ) (numbers : List ℕ) → overlap own asked ≡ true → In number numbers → IsReached (class_ranges source asked numbers) (span_key (class_digest source number) own ∷ [])
class_reached source asked own number [] meets there = absurd there
class_reached source asked own number (n ∷ ns) meets (inl e) =
    front_reached (span_ranges (class_digest source n) asked) (class_ranges source asked ns) (span_key (class_digest source number) own ∷ [])
    (span_reached (class_digest source n) own asked meets (span_key (class_digest source number) own ∷ []) (inl (ap (λ (m : ℕ). span_key (class_digest source m) own) (sym e))))
class_reached source asked own number (n ∷ ns) meets (inr later) =
    behind_reached (span_ranges (class_digest source n) asked) (class_ranges source asked ns) (span_key (class_digest source number) own ∷ []) (class_reached source asked own number ns meets later)
