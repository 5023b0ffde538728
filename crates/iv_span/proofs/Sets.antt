-- What the tests on spans say of their instants.
use Rattle.std.proofs.Common.{◌≡◌, ◌↔◌, IsTrue, ℤ, pos, ◌≤ℤ◌, ◌<ℤ◌, arith, Bool}
use Rattle.std.specs.Prelude.{int_lt, int_le, ◌-ℤ◌}
use Rattle.std.specs.Int.{int_max}
use Rattle.std.proofs.lemmas.Int.{ints, clamps}
use Rattle.std.proofs.lemmas.Bool.{and_parts, and_from}
use Rattle.iv_span.specs.Extent.{Extent, overlap, covers, has, SharesInstant, HasAllOf}

pub lt_from : (a b : ℤ) → IsTrue (int_lt a b) → a <ℤ b
lt_from a b h = grind (arith, ints)

pub le_from : (a b : ℤ) → IsTrue (int_le a b) → a ≤ℤ b
le_from a b h = grind (arith, ints)

to_lt : (a b : ℤ) → a <ℤ b → IsTrue (int_lt a b)
to_lt a b h = grind (arith, ints)

to_le : (a b : ℤ) → a ≤ℤ b → IsTrue (int_le a b)
to_le a b h = grind (arith, ints)

pub has_it : (a : Extent) (t : ℤ) → a.start ≤ℤ t → t <ℤ a.end → IsTrue (has a t)
has_it a t p q = and_from _ _ (to_le _ _ p) (to_lt _ _ q)

pub within : (a : Extent) (t : ℤ) → IsTrue (has a t) → (a.start ≤ℤ t) × (t <ℤ a.end)
within a t h = let both = and_parts _ _ h in (le_from _ _ both.0, lt_from _ _ both.1)

shared_iff : (a b : Extent) → a.start <ℤ a.end → b.start <ℤ b.end → IsTrue (overlap a b) ↔ SharesInstant a b
shared_iff a b p q = (
  λ h. let both = and_parts _ _ h in
      let low : a.start <ℤ b.end = lt_from _ _ both.0 in
      let high : b.start <ℤ a.end = lt_from _ _ both.1 in
      (int_max a.start b.start, (has_it a _ (omega (arith, ints, clamps)) (omega (arith, ints, clamps)), has_it b _ (omega (arith, ints, clamps)) (omega (arith, ints, clamps)))),
  λ s. let in_a = within a s.0 s.1.0 in
      let in_b = within b s.0 s.1.1 in
      and_from _ _ (to_lt a.start b.end (omega (arith, ints))) (to_lt b.start a.end (omega (arith, ints))),
)

all_iff : (a b : Extent) → a.start <ℤ a.end → b.start <ℤ b.end → IsTrue (covers a b) ↔ HasAllOf a b
all_iff a b p q = (
  λ h t k. let both = and_parts _ _ h in
      let low : a.start ≤ℤ b.start = le_from _ _ both.0 in
      let high : b.end ≤ℤ a.end = le_from _ _ both.1 in
      let in_b = within b t k in
      has_it a t (omega (arith, ints)) (omega (arith, ints)),
  λ s. let first = within a b.start (s b.start (has_it b b.start (omega (arith, ints)) q)) in
      let last = within a (b.end -ℤ pos 1) (s (b.end -ℤ pos 1) (has_it b _ (omega (arith, ints)) (omega (arith, ints)))) in
      and_from _ _ (to_le _ _ first.0) (to_le b.end a.end (omega (arith, ints))),
)

-- the same of a test that computes the same
pub shared_at : (r : Bool) (a b : Extent) → r ≡ overlap a b → a.start <ℤ a.end → b.start <ℤ b.end → IsTrue r ↔ SharesInstant a b
shared_at r a b e p q = rw e (shared_iff a b p q)

pub all_at : (r : Bool) (a b : Extent) → r ≡ covers a b → a.start <ℤ a.end → b.start <ℤ b.end → IsTrue r ↔ HasAllOf a b
all_at r a b e p q = rw e (all_iff a b p q)
