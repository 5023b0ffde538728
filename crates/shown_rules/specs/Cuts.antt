-- The instants at which something may change: found by their source and instant.
use Rattle.std.specs.Prelude.{◌&&◌, ◌++◌, ◌<ℤ◌, ◌∷◌, ◌≡◌, ◌≤ℤ◌, Bool, List, [], bytes_eq, cond, fold, int_le, int_lt, true, unsigned_abs, ℕ, ℤ}
use Rattle.std.specs.List.{list_any}
use Rattle.std.specs.Ordering.{int_eq}
use Rattle.std.proofs.Common.{ap, arith, inl, inr, refl, sym, ◌∙◌}
use Rattle.std.proofs.lemmas.Bool.{and_parts}
use Rattle.std.proofs.lemmas.Int.{ints}
use Rattle.std.proofs.lemmas.Slice.Eq.{bytes_eq-Decides}
use Rattle.row_index.specs.Digests.{mix}
use Rattle.row_index.specs.Index.{IsReached, digest_key, digest_range}
use Rattle.row_index.proofs.IndexLemmas.{digest_reached}
use Rattle.shown_rules.specs.Stages.{Stage, is_within}

abbrev pub source_digest : List ℕ → ℕ
source_digest source = fold mix 20 source

abbrev pub cut_digest : List ℕ → ℤ → ℕ
cut_digest source at = mix (fold mix 21 source) (unsigned_abs at)

abbrev pub cut_keys : List ℕ × ℤ → List (ℕ × ℤ)
cut_keys c = (source_digest c.0, c.1) ∷ digest_key (cut_digest c.0 c.1) ∷ []

abbrev pub range_within : List ℕ → ℤ → ℤ → (ℕ × ℤ) × ℤ
range_within source start end = ((source_digest source, start), end)

same_text : (xs ys : List ℕ) → bytes_eq xs ys ≡ true → xs ≡ ys
same_text xs ys e = (bytes_eq-Decides xs ys).0 e

from_both : (s e t : ℤ) → (int_le s t && int_lt t e) ≡ true → (s ≤ℤ t) × (t <ℤ e)
from_both s e t h = (grind (arith, ints), grind (arith, ints))

pub within_covers : (source : List ℕ) (start end : ℤ) (c : List ℕ × ℤ) → is_within source start end c ≡ true → IsReached (range_within source start end ∷ []) (cut_keys c)
within_covers source start end c on =
    let two = and_parts (bytes_eq source c.0) (int_le start c.1 && int_lt c.1 end) on in
    let lies = from_both start end c.1 two.1 in
    (range_within source start end, (source_digest c.0, c.1), inl refl, inl refl, (ap source_digest (sym (same_text source c.0 two.0)), lies.0, lies.1))

-- ---- one instant

abbrev pub same_cut : List ℕ × ℤ → List ℕ × ℤ → Bool
same_cut c d = bytes_eq c.0 d.0 && int_eq c.1 d.1

same_int : (x y : ℤ) → int_eq x y ≡ true → x ≡ y
same_int x y e = grind (arith, ints)

pub cut_covers : (c d : List ℕ × ℤ) → same_cut c d ≡ true → IsReached (digest_range (cut_digest c.0 c.1) ∷ []) (cut_keys d)
cut_covers c d on =
    let two = and_parts (bytes_eq c.0 d.0) (int_eq c.1 d.1) on in
    digest_reached (cut_digest c.0 c.1) (cut_keys d)
    (inr (inl (ap digest_key (ap (λ (s : List ℕ). cut_digest s c.1) (same_text c.0 d.0 two.0) ∙ ap (λ (t : ℤ). cut_digest d.0 t) (same_int c.1 d.1 two.1)))))

-- ---- the ends of stages, each once

abbrev pub add_cut : List (List ℕ × ℤ) → List ℕ × ℤ → List (List ℕ × ℤ)
add_cut cs c = cond (list_any (same_cut c) cs) cs (cs ++ c ∷ [])

abbrev pub with_end : List (List ℕ × ℤ) → Stage → List (List ℕ × ℤ)
with_end cs x = add_cut (add_cut cs (x.source, x.start)) (x.source, x.end)

abbrev pub with_ends : List (List ℕ × ℤ) → List Stage → List (List ℕ × ℤ)
with_ends cs xs = fold with_end cs xs
