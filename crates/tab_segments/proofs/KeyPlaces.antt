-- The keys of a segment, by their places.
use Rattle.std.proofs.Common.{◌<◌, ◌≡◌, Bool, List, Some, [], arith, cond, false, length, refl, slice_get, suc, true, zero, ℕ, ℤ}
use Rattle.seg_names.specs.declared.seg_id.SegId.{SegId}
use Rattle.row_index.specs.Index.{digest_key}
use Rattle.span_keys.specs.Classes.{span_key}
use Rattle.tab_segments.specs.Keys.{chunk_digest, lead_digest, used_keys}

pub second_key : (leads : Bool) (a : SegId) → 1 < length (used_keys leads a) → slice_get (used_keys leads a) 1 ≡ Some (digest_key (chunk_digest a))
second_key true a lt = refl
second_key false a lt = absurd (omega (arith, lt))

pub third_key : (leads : Bool) (a : SegId) (n : ℕ) → n < length (used_keys leads a) → (n ≡ 0 → ⊥) → (n ≡ 1 → ⊥) → slice_get (used_keys leads a) n ≡ Some (span_key (lead_digest a.source) a.span)
third_key true a zero lt first second = absurd (first refl)
third_key true a (suc zero) lt first second = absurd (second refl)
third_key true a (suc (suc zero)) lt first second = refl
third_key true a (suc (suc (suc n))) lt first second = absurd (omega (arith, lt))
third_key false a zero lt first second = absurd (first refl)
third_key false a (suc n) lt first second = absurd (omega (arith, lt))

module _ (used : Bool) (own : List (ℕ × ℤ)) where
  pub key_within : (n : ℕ) → n < length (cond used own []) → n < length own
  key_within n lt = elim used as (λ b. n < length (cond b own []) → n < length own) [ true ↦ (λ l. l) | false ↦ (λ l. absurd (omega (arith, l))) ] lt

  pub key_at : (n : ℕ) (k : ℕ × ℤ) → n < length (cond used own []) → slice_get own n ≡ Some k → slice_get (cond used own []) n ≡ Some k
  key_at n k lt got = elim used as (λ b. n < length (cond b own []) → slice_get (cond b own []) n ≡ Some k) [ true ↦ (λ l. got) | false ↦ (λ l. absurd (omega (arith, l))) ] lt
