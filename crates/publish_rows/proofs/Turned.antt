-- Tests for equal ids and chunks, asked the other way round.
use Rattle.std.proofs.Common.{◌==◌, ◌≡◌, Bool, List, arith, bytes_eq, false, refl, sym, true, ℕ, ℤ}
use Rattle.std.specs.Ordering.{int_eq}
use Rattle.std.proofs.lemmas.Bool.Decides.{nat_tests}
use Rattle.std.proofs.lemmas.Int.{ints}
use Rattle.std.proofs.lemmas.Slice.Eq.{bytes_eq-Decides}
use Rattle.seg_names.specs.Ids.{same_id}
use Rattle.seg_names.specs.declared.seg_id.SegId.{SegId}
use Rattle.book_rows.specs.Shape.{same_chunk_row}
use Rattle.book_rows.specs.declared.rows.ChunkRow.{ChunkRow}

both_or_none : (p q : Bool) → (p ≡ true → q ≡ true) → (q ≡ true → p ≡ true) → p ≡ q
both_or_none true q there back = sym (there refl)
both_or_none false true there back = back refl
both_or_none false false there back = refl

text_turned : (xs ys : List ℕ) → bytes_eq xs ys ≡ bytes_eq ys xs
text_turned xs ys =
    both_or_none (bytes_eq xs ys) (bytes_eq ys xs)
    (λ on. (bytes_eq-Decides ys xs).1 (sym ((bytes_eq-Decides xs ys).0 on)))
    (λ on. (bytes_eq-Decides xs ys).1 (sym ((bytes_eq-Decides ys xs).0 on)))

int_turned : (x y : ℤ) → int_eq x y ≡ int_eq y x
int_turned x y = grind (arith, ints)

number_turned : (m n : ℕ) → (m == n) ≡ (n == m)
number_turned m n = grind (arith, nat_tests)

pub chunk_turned : (c d : ChunkRow) → same_chunk_row c d ≡ same_chunk_row d c
chunk_turned c d = rw (text_turned c.source d.source, int_turned c.span.start d.span.start, int_turned c.span.end d.span.end, int_turned c.version d.version) refl

pub id_turned : (a b : SegId) → same_id a b ≡ same_id b a
id_turned a b =
    rw (text_turned a.source b.source, int_turned a.span.start b.span.start, int_turned a.span.end b.span.end, int_turned a.version b.version, number_turned a.part b.part) refl
