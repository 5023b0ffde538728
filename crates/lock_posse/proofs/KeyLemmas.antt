-- Places of keys, and what passes a test is over the span.
use Rattle.std.proofs.Common.{◌≡◌, ℕ, ◌≤◌, ◌-◌, ◌<ℤ◌, zero, suc, true, not, List, [], ◌∷◌, ◌&&◌, Some, slice_get, map, arith, refl}
use Rattle.std.specs.Str.{bytes_eq}
use Rattle.std.proofs.lemmas.Bool.{and_parts}
use Rattle.std.proofs.lemmas.Int.{ints}
use Rattle.iv_span.specs.Extent.{Extent, covers, overlap}
use Rattle.book_rows.specs.Kinds.{same_kind}
use Rattle.book_rows.specs.Locks.{is_held, is_lost, is_member, is_valid_over}
use Rattle.book_rows.specs.declared.kinds.LockKind.{LockKind}
use Rattle.book_rows.specs.declared.rows.PosseRow.{PosseRow}
use Rattle.lock_posse.specs.Keys.{is_over}

pub past_two : {X : Type 0} (a b : X) (xs : List X) (n : ℕ) (x : X) → 2 ≤ n → slice_get xs (n - 2) ≡ Some x → slice_get (a ∷ b ∷ xs) n ≡ Some x
past_two a b xs zero x le got = absurd (omega arith)
past_two a b xs (suc zero) x le got = absurd (omega arith)
past_two a b xs (suc (suc n)) x le got = let e : suc (suc n) - 2 ≡ n = omega arith in rw e at got

pub get_mapped : {X Y : Type 0} (f : X → Y) (xs : List X) (n : ℕ) (x : X) → slice_get xs n ≡ Some x → slice_get (map f xs) n ≡ Some (f x)
get_mapped f [] n x got = cc
get_mapped f (y ∷ ys) zero x got = let e : y ≡ x = cc in rw e refl
get_mapped f (y ∷ ys) (suc n) x got = get_mapped f ys n x got

-- what contains a span that isn't empty overlaps it
pub covers_overlap : (a b : Extent) → b.start <ℤ b.end → covers a b ≡ true → overlap a b ≡ true
covers_overlap a b some on = grind (arith, ints)

pub valid_over : (source : List ℕ) (span : Extent) (p : PosseRow) → is_valid_over source span p ≡ true → is_over source span p ≡ true
valid_over source span p on =
    let parts = and_parts (not p.revoked && bytes_eq p.source source) (overlap p.span span) on in
    let first = and_parts (not p.revoked) (bytes_eq p.source source) parts.0 in
    rw (first.1, parts.1) refl

pub lost_over : (task source : List ℕ) (span : Extent) (p : PosseRow) → is_lost task source span p ≡ true → is_over source span p ≡ true
lost_over task source span p on =
    let parts = and_parts (p.revoked && bytes_eq p.source source && overlap p.span span) (is_member task p) on in
    let front = and_parts (p.revoked && bytes_eq p.source source) (overlap p.span span) parts.0 in
    let first = and_parts p.revoked (bytes_eq p.source source) front.0 in
    rw (first.1, front.1) refl

pub held_over : (task source : List ℕ) (span : Extent) (kind : LockKind) → span.start <ℤ span.end → (p : PosseRow) → is_held task source span kind p ≡ true → is_over source span p ≡ true
held_over task source span kind some p on =
    let parts = and_parts (not p.revoked && bytes_eq p.source source && same_kind p.lock_kind kind && covers p.span span) (is_member task p) on in
    let front = and_parts (not p.revoked && bytes_eq p.source source && same_kind p.lock_kind kind) (covers p.span span) parts.0 in
    let kinds = and_parts (not p.revoked && bytes_eq p.source source) (same_kind p.lock_kind kind) front.0 in
    let first = and_parts (not p.revoked) (bytes_eq p.source source) kinds.0 in
    rw (first.1, covers_overlap p.span span some front.1) refl
