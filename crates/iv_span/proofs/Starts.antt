-- The order of spans is by their starts first.
use Rattle.std.proofs.Common.{◌≡◌, ◌∙◌, false, ℕ, ◌+◌, ◌<◌, ◌≤◌, suc, zero, ◌≤ℤ◌, List, length, arith, sym, inl, inr, get_or, add-one}
use Rattle.std.specs.List.Sorted.{IsSorted}
use Rattle.std.specs.Ordering.{int_cmp, ordering_then, is_lt}
use Rattle.std.specs.declared.cmp.Ordering.{Ordering}
use Rattle.std.proofs.lemmas.Int.{ints}
use Rattle.std.specs.Prelude.{nat_le}
use Rattle.std.specs.List.Sorted.{IsPermutation}
use Rattle.std.proofs.lemmas.Bool.{cases_Bool, leb-true, leb-false}
use Rattle.std.proofs.lemmas.List.Sorted.{list_any-IsPermutation}
use Rattle.iv_span.specs.Extent.{Extent, has}
use Rattle.iv_span.specs.Condensed.{StartsRise, IsCondensed}

abbrev pub extent_cmp : Extent → Extent → Ordering
extent_cmp a b = ordering_then (int_cmp a.start b.start) (int_cmp a.end b.end)

start_first : (a b : Extent) → is_lt (extent_cmp b a) ≡ false → a.start ≤ℤ b.start
start_first a b h = grind (arith, ints)

rise_from : (xs : List Extent) → IsSorted extent_cmp xs → (i j : ℕ) (d : Extent) → i ≤ j → j < length xs → (get_or xs i d).start ≤ℤ (get_or xs j d).start
rise_from xs up zero zero d le lt = omega (arith, ints)
rise_from xs up (suc i) zero d le lt = absurd (omega arith)
rise_from xs up i (suc j) d le lt = elim (cases_Bool (nat_le i j)) as (λ _. (get_or xs i d).start ≤ℤ (get_or xs (suc j) d).start) [
  | inl on ↦
      let low : i ≤ j = leb-true i j on in
      let first : (get_or xs i d).start ≤ℤ (get_or xs j d).start = rise_from xs up i j d low (omega arith) in
      let next : (get_or xs j d).start ≤ℤ (get_or xs (suc j) d).start = rw add-one at (start_first (get_or xs j d) (get_or xs (j + 1) d) (up j d (omega arith) (omega arith))) in
      omega (arith, ints)
  | inr off ↦
      let same : i ≡ suc j = omega (arith, leb-false i j off) in
      rw same (omega (arith, ints))
]

pub starts_rise : (xs : List Extent) → IsSorted extent_cmp xs → StartsRise xs
starts_rise xs up = record { rise = rise_from xs up }

pub condensed_of : (spans sorted pieces : List Extent) → IsPermutation spans sorted → IsCondensed sorted pieces → IsCondensed spans pieces
condensed_of spans sorted pieces p h = record {
  same = λ t. h.same t ∙ sym (list_any-IsPermutation (λ s. has s t) spans sorted p);
  apart = h.apart;
}
