-- Chunks and ids of segments stay distinct.
use Rattle.std.proofs.Common.{◌&&◌, ◌++◌, ◌==◌, ◌∙◌, ◌∷◌, ◌≡◌, Bool, IsNone, List, [], ap, arith, bytes_eq, cond, false, filter, inl, inr, map, not, refl, subst, sym, true, ℕ, ℤ}
use Rattle.std.specs.List.{AllByRecursion}
use Rattle.std.proofs.lemmas.Bool.{cases_Bool}
use Rattle.std.proofs.lemmas.Bool.Decides.{nat_tests}
use Rattle.std.proofs.lemmas.Int.{ints}
use Rattle.std.proofs.lemmas.Slice.Eq.{bytes_eq-Decides}
use Rattle.std.specs.Ordering.{int_eq}
use Rattle.iv_span.specs.Extent.{Extent}
use Rattle.seg_names.specs.Ids.{same_id}
use Rattle.seg_names.specs.declared.seg_id.SegId.{SegId}
use Rattle.book_rows.specs.Allocation.{chunk_of, is_of_chunk}
use Rattle.book_rows.specs.Rewrite.{unused}
use Rattle.book_rows.specs.Shape.{AreDistinct, same_chunk_row, segment_ids}
use Rattle.book_rows.specs.declared.rows.ChunkRow.{ChunkRow}
use Rattle.book_rows.specs.declared.rows.SegmentRow.{SegmentRow}
use Rattle.row_table.specs.Table.{settled}
use Rattle.tab_segments.specs.SegmentRows.{chunk_id, segment_of, with_next}
use Rattle.tab_segments.proofs.Rows.{all_from_find_none, all_of_map, all_weaker, map_push, pairs_filter, pairs_map, pairs_push}

-- ---- the next part

next_bit : (b : Bool) (n m : ℕ) → (b && not (m == n)) ≡ false → cond b n m ≡ m
next_bit true n m off = grind (arith, nat_tests)
next_bit false n m off = refl

next_settled : (a : SegId) (next : ℕ) (c : ChunkRow) → settled (λ d. is_of_chunk d a && not (d.next == next)) (with_next a next) c ≡ with_next a next c
next_settled a next c =
    elim (cases_Bool (is_of_chunk c a && not (c.next == next))) [
      | inl on ↦ ap (λ b. cond b (with_next a next c) c) on
      | inr off ↦ ap (λ b. cond b (with_next a next c) c) off ∙ sym (ap (λ n. record c { next = n }) (next_bit (is_of_chunk c a) next c.next off))
    ]

-- a change of those that it concerns is the change of all
pub all_next : (a : SegId) (next : ℕ) (cs : List ChunkRow) → map (settled (λ d. is_of_chunk d a && not (d.next == next)) (with_next a next)) cs ≡ map (with_next a next) cs
all_next a next cs = λ i. map (λ c. next_settled a next c i) cs

-- ---- distinct chunks

pub distinct_next : (a : SegId) (next : ℕ) (cs : List ChunkRow) → AreDistinct same_chunk_row cs → AreDistinct same_chunk_row (map (with_next a next) cs)
distinct_next a next cs h = pairs_map _ _ (with_next a next) (λ x y e. e) cs h

pub distinct_left : (test : ChunkRow → Bool) (cs : List ChunkRow) → AreDistinct same_chunk_row cs → AreDistinct same_chunk_row (filter test cs)
distinct_left test cs h = pairs_filter _ test cs h

bool_same : (p q : Bool) → (p ≡ true → q ≡ true) → (q ≡ true → p ≡ true) → p ≡ q
bool_same true q there back = sym (there refl)
bool_same false true there back = back refl
bool_same false false there back = refl

text_turned : (xs ys : List ℕ) → bytes_eq xs ys ≡ bytes_eq ys xs
text_turned xs ys =
    bool_same (bytes_eq xs ys) (bytes_eq ys xs)
    (λ on. (bytes_eq-Decides ys xs).1 (sym ((bytes_eq-Decides xs ys).0 on)))
    (λ on. (bytes_eq-Decides xs ys).1 (sym ((bytes_eq-Decides ys xs).0 on)))

int_turned : (x y : ℤ) → int_eq x y ≡ int_eq y x
int_turned x y = grind (arith, ints)

turned_chunk : (d c : ChunkRow) → same_chunk_row d c ≡ is_of_chunk d (chunk_id c.source c.span c.version)
turned_chunk d c = rw (text_turned d.source c.source, int_turned d.span.start c.span.start, int_turned d.span.end c.span.end, int_turned d.version c.version) refl

pub distinct_chunk : (cs : List ChunkRow) (c : ChunkRow) → AreDistinct same_chunk_row cs → IsNone (chunk_of (chunk_id c.source c.span c.version) cs) → AreDistinct same_chunk_row (cs ++ c ∷ [])
distinct_chunk cs c h none =
    pairs_push _ cs c h
    (all_weaker (λ d. is_of_chunk d (chunk_id c.source c.span c.version) ≡ false) (λ d. same_chunk_row d c ≡ false) (λ d off. turned_chunk d c ∙ off) cs
    (all_from_find_none (λ d. is_of_chunk d (chunk_id c.source c.span c.version)) cs none))

-- ---- distinct ids

abbrev id_of : SegmentRow → SegId
id_of r = r.id

pub distinct_id : (rows : List SegmentRow) (r : SegmentRow) → AreDistinct same_id (segment_ids rows) → IsNone (segment_of r.id rows) → AreDistinct same_id (segment_ids (rows ++ r ∷ []))
distinct_id rows r h none =
    subst (AreDistinct same_id) (sym (map_push id_of rows r))
    (pairs_push _ (segment_ids rows) r.id h (all_of_map id_of (λ a. same_id a r.id ≡ false) rows (all_from_find_none (λ x. same_id x.id r.id) rows none)))

pub ids_unused : (source : List ℕ) (span : Extent) (rows : List SegmentRow) → segment_ids (map (unused source span) rows) ≡ segment_ids rows
ids_unused source span [] = refl
ids_unused source span (r ∷ rows) = ap (λ l. r.id ∷ l) (ids_unused source span rows)
