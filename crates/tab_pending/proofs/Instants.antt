-- A span that is one instant long.
use Rattle.std.proofs.Common.{◌≡◌, ℕ, ℤ, true, false, ◌&&◌, ◌+ℤ◌, pos, int_le, int_lt, List, arith, ap, refl, inl, inr}
use Rattle.std.specs.Str.{bytes_eq}
use Rattle.std.proofs.lemmas.Bool.{cases_Bool}
use Rattle.std.proofs.lemmas.Int.{ints}
use Rattle.iv_span.specs.Extent.{Extent, has, overlap}
use Rattle.book_rows.specs.Allocation.{is_pending_at, is_pending_over}

next_on : (x t : ℤ) → int_le x t ≡ true → int_lt x (t +ℤ pos 1) ≡ true
next_on x t on = grind (arith, ints)

next_off : (x t : ℤ) → int_le x t ≡ false → int_lt x (t +ℤ pos 1) ≡ false
next_off x t off = grind (arith, ints)

before_next : (x t : ℤ) → int_lt x (t +ℤ pos 1) ≡ int_le x t
before_next x t = elim (cases_Bool (int_le x t)) [ inl on ↦ rw (on, next_on x t on) refl | inr off ↦ rw (off, next_off x t off) refl ]

over_instant : (s : Extent) (t : ℤ) → overlap s (record { start = t; end = t +ℤ pos 1 }) ≡ has s t
over_instant s t = ap (λ b. b && int_lt t s.end) (before_next s.start t)

-- to overlap the span of one instant is to have the instant
pub pending_instant : (source : List ℕ) (t : ℤ) → is_pending_over source (record { start = t; end = t +ℤ pos 1 }) ≡ is_pending_at source t
pending_instant source t = λ i p. bytes_eq p.id.source source && over_instant p.id.span t i
