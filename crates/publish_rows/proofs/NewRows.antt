-- What is added is new, where all that is there after it is distinct.
use Rattle.std.proofs.Common.{◌++◌, ◌<◌, ◌∙◌, ◌∷◌, ◌≡◌, Bool, IsNone, List, None, Some, [], ap, ap₂, append_assoc, cond, drop, false, find, get_or, length, map, refl, subst, suc, sym, take}
use Rattle.std.proofs.Math.Seq.{split_at}
use Rattle.std.specs.List.{AllByRecursion}
use Rattle.seg_names.specs.Ids.{same_id}
use Rattle.seg_names.specs.declared.seg_id.SegId.{SegId}
use Rattle.book_rows.specs.Allocation.{chunk_of, is_of_chunk}
use Rattle.book_rows.specs.Lists.{Pairs}
use Rattle.book_rows.specs.Shape.{AreDistinct, same_chunk_row, segment_ids}
use Rattle.book_rows.specs.declared.rows.ChunkRow.{ChunkRow}
use Rattle.book_rows.specs.declared.rows.SegmentRow.{SegmentRow}
use Rattle.tab_segments.specs.SegmentRows.{chunk_id, segment_of}
use Rattle.publish_rows.proofs.Turned.{chunk_turned}

module _ {X : Type 0} where
  of_middle : (P : X → Type 0) (xs : List X) (x : X) (zs : List X) → AllByRecursion P (xs ++ x ∷ zs) → P x
  of_middle P [] x zs h = h.0
  of_middle P (y ∷ xs) x zs h = of_middle P xs x zs h.1

  before_middle : (R : X → X → Type 0) (xs : List X) (x : X) (zs : List X) → Pairs R (xs ++ x ∷ zs) → AllByRecursion (λ y. R y x) xs
  before_middle R [] x zs h = tt
  before_middle R (y ∷ xs) x zs h = (of_middle (R y) xs x zs h.0, before_middle R xs x zs h.1)

  pub found_nowhere : (p : X → Bool) (xs : List X) → AllByRecursion (λ x. p x ≡ false) xs → find p xs ≡ None
  found_nowhere p [] h = refl
  found_nowhere p (x ∷ xs) h = ap (λ b. cond b (Some x) (find p xs)) h.0 ∙ found_nowhere p xs h.1

  -- the next of the rows to be added, against those that are there by then
  pub next_apart : (R : X → X → Type 0) (old added rows : List X) (x : X) → Pairs R (old ++ rows) → added ≡ take (length added) rows → length added < length rows → x ≡ get_or rows (length added) x
      → AllByRecursion (λ y. R y x) (old ++ added)
  next_apart R old added rows x h so_far within is =
      let rest : List X = drop (suc (length added)) rows in
      let split : rows ≡ added ++ x ∷ rest = split_at rows (length added) x within ∙ ap₂ (λ ys y. ys ++ y ∷ rest) (sym so_far) (sym is) in
      before_middle R (old ++ added) x rest (subst (Pairs R) (ap (λ ys. old ++ ys) split ∙ sym (append_assoc old added (x ∷ rest))) h)

module _ {X Y : Type 0} (f : X → Y) where
  all_unmapped : (P : Y → Type 0) (xs : List X) → AllByRecursion P (map f xs) → AllByRecursion (λ x. P (f x)) xs
  all_unmapped P [] h = tt
  all_unmapped P (x ∷ xs) h = (h.0, all_unmapped P xs h.1)

  pairs_unmapped : (R : Y → Y → Type 0) (xs : List X) → Pairs R (map f xs) → Pairs (λ x y. R (f x) (f y)) xs
  pairs_unmapped R [] h = tt
  pairs_unmapped R (x ∷ xs) h = (all_unmapped (R (f x)) xs h.0, pairs_unmapped R xs h.1)

-- ---- chunks

not_of_chunk : (c : ChunkRow) (cs : List ChunkRow) → AllByRecursion (λ d. same_chunk_row d c ≡ false) cs → AllByRecursion (λ d. is_of_chunk d (chunk_id c.source c.span c.version) ≡ false) cs
not_of_chunk c [] h = tt
not_of_chunk c (d ∷ cs) h = (chunk_turned c d ∙ h.0, not_of_chunk c cs h.1)

pub chunk_is_new : (old added rows : List ChunkRow) (c : ChunkRow) → AreDistinct same_chunk_row (old ++ rows) → added ≡ take (length added) rows → length added < length rows → c ≡ get_or rows (length added) c
    → IsNone (chunk_of (chunk_id c.source c.span c.version) (old ++ added))
chunk_is_new old added rows c distinct so_far within is =
    let apart : AllByRecursion (λ d. same_chunk_row d c ≡ false) (old ++ added) = next_apart (λ d e. same_chunk_row d e ≡ false) old added rows c distinct so_far within is in
    subst IsNone (sym (found_nowhere (λ d. is_of_chunk d (chunk_id c.source c.span c.version)) (old ++ added) (not_of_chunk c (old ++ added) apart))) refl

-- ---- segments

abbrev id_of : SegmentRow → SegId
id_of r = r.id

pub segment_is_new : (old added rows : List SegmentRow) (r : SegmentRow) → AreDistinct same_id (segment_ids (old ++ rows)) → added ≡ take (length added) rows → length added < length rows → r ≡ get_or rows (length added) r
    → IsNone (segment_of r.id (old ++ added))
segment_is_new old added rows r distinct so_far within is =
    let apart : AllByRecursion (λ s. same_id s.id r.id ≡ false) (old ++ added) =
    next_apart (λ s z. same_id s.id z.id ≡ false) old added rows r (pairs_unmapped id_of (λ a b. same_id a b ≡ false) (old ++ rows) distinct) so_far within is in
    subst IsNone (sym (found_nowhere (λ s. same_id s.id r.id) (old ++ added) apart)) refl
