-- What is done to the offsets of one stream, seen on the rows of all.
use Rattle.std.proofs.Common.{◌&&◌, ◌+◌, ◌++◌, ◌==◌, ◌∙◌, ◌∷◌, ◌≡◌, Bool, List, None, Some, [], ap, ap₂, arith, bytes_eq, cond, false, find, inl, inr, length, nat_lt, not, refl, subst, suc, sym, true, ℕ}
use Rattle.std.specs.BTreeMap.{insert_entry, is_at}
use Rattle.std.specs.List.{AllByRecursion}
use Rattle.std.specs.Map.{remove_entry}
use Rattle.std.specs.Option.{option_map}
use Rattle.std.specs.Ordering.{nat_cmp, ordering_then}
use Rattle.std.specs.declared.cmp.Ordering.TheVariants.{Equal, Greater, Less}
use Rattle.std.specs.Cmp.{nat_cmp_is}
use Rattle.std.proofs.lemmas.Bool.{and_from, le-ltb, lt-ltb, cases_order}
use Rattle.std.proofs.lemmas.Cmp.{nat_list_cmp_total, tied_itself}
use Rattle.std.proofs.lemmas.List.{length-append}
use Rattle.std.proofs.lemmas.Slice.Eq.{bytes_eq-Decides}
use Rattle.book_rows.specs.Ids.{is_less}
use Rattle.book_rows.specs.Offsets.{cleared, is_of_stream, is_same_key, key_cmp, offset_in, reset_to, row_for, set_row, store, stored}
use Rattle.book_rows.specs.Offsets as offsets
use Rattle.book_rows.specs.declared.rows.Offset.{Offset}
use Rattle.book_rows.specs.declared.rows.OffsetRow.{OffsetRow}
use Rattle.tab_streams.specs.ByName.{AreOrdered, all_rows, offset_of, set_offset, set_offsets, stream_rows, under}
use Rattle.tab_streams.proofs.Around.{Around, Sources, Streams, around}
use Rattle.tab_streams.proofs.NameSplit.{name_cmp, nothing_ordered}
use Rattle.tab_streams.proofs.Resetting.{set_between, store_between}
use Rattle.tab_streams.proofs.RowOrder.{IsFirst, IsLast}

-- ---- a stream's own rows

own_stream : (source stream : List ℕ) (o : Offset) → is_of_stream source stream (row_for source stream o) ≡ true
own_stream source stream o = and_from (bytes_eq source source) (bytes_eq stream stream) ((bytes_eq-Decides source source).1 refl) ((bytes_eq-Decides stream stream).1 refl)

own_key : (source stream : List ℕ) (o p : Offset) → is_same_key (row_for source stream o) (row_for source stream p) ≡ (p.partition == o.partition)
own_key source stream o p = ap (λ b. b && (p.partition == o.partition)) (own_stream source stream p)

less_is : (m n : ℕ) → is_less (nat_cmp m n) ≡ nat_lt m n
less_is m n =
    elim (cases_order m n) [
      | inl eq ↦ ap is_less (sym (nat_cmp_is m n Equal eq)) ∙ sym (le-ltb m n (omega (arith, eq)))
      | inr (inl lt) ↦ ap is_less (sym (nat_cmp_is m n Less lt)) ∙ sym (lt-ltb m n lt)
      | inr (inr gt) ↦ ap is_less (sym (nat_cmp_is m n Greater gt)) ∙ sym (le-ltb m n (omega (arith, gt)))
    ]

own_order : (source stream : List ℕ) (o p : Offset) → is_less (key_cmp (row_for source stream o) (row_for source stream p)) ≡ nat_lt o.partition p.partition
own_order source stream o p =
    ap₂ (λ x y. is_less (ordering_then x (ordering_then y (nat_cmp o.partition p.partition)))) (tied_itself nat_list_cmp_total source) (tied_itself nat_list_cmp_total stream)
    ∙ less_is o.partition p.partition

module _ (source stream : List ℕ) where
  rows_set : (o : Offset) (ps : List Offset) → stream_rows source stream (set_offset o ps) ≡ set_row (row_for source stream o) (stream_rows source stream ps)
  rows_set o [] = refl
  rows_set o (p ∷ ps) =
      by (p.partition == o.partition) (nat_lt o.partition p.partition) (rows_set o ps)
      ∙ sym (
      ap₂
      (λ same later. cond same (row_for source stream o ∷ stream_rows source stream ps)
      (cond later (row_for source stream o ∷ row_for source stream p ∷ stream_rows source stream ps) (row_for source stream p ∷ set_row (row_for source stream o) (stream_rows source stream ps))))
      (own_key source stream o p) (own_order source stream o p)
      ) where
        by : (same later : Bool) → stream_rows source stream (set_offset o ps) ≡ set_row (row_for source stream o) (stream_rows source stream ps)
            → stream_rows source stream (cond same (o ∷ ps) (cond later (o ∷ p ∷ ps) (p ∷ set_offset o ps)))
            ≡ cond same (row_for source stream o ∷ stream_rows source stream ps)
            (cond later (row_for source stream o ∷ row_for source stream p ∷ stream_rows source stream ps) (row_for source stream p ∷ set_row (row_for source stream o) (stream_rows source stream ps)))
        by true later rest = refl
        by false true rest = refl
        by false false rest = ap (λ rs. row_for source stream p ∷ rs) rest

  rows_stored : (ps os : List Offset) → stream_rows source stream (set_offsets ps os) ≡ store (stream_rows source stream ps) source stream os
  rows_stored ps [] = refl
  rows_stored ps (o ∷ os) = rows_stored (set_offset o ps) os ∙ ap (λ rows. store rows source stream os) (rows_set o ps)

  rows_count : (ps : List Offset) → length (stream_rows source stream ps) ≡ length ps
  rows_count [] = refl
  rows_count (p ∷ ps) = ap (λ n. suc n) (rows_count ps)

  -- ---- beside rows of other streams

  abbrev IsOther : OffsetRow → Type 0
  IsOther r = is_of_stream source stream r ≡ false

  first_others : (rows : List OffsetRow) → AllByRecursion (IsFirst source stream) rows → AllByRecursion IsOther rows
  first_others [] h = tt
  first_others (r ∷ rs) h = (h.0.1, first_others rs h.1)

  last_others : (rows : List OffsetRow) → AllByRecursion (IsLast source stream) rows → AllByRecursion IsOther rows
  last_others [] h = tt
  last_others (r ∷ rs) h = (h.0.1, last_others rs h.1)

  others_stay : (rows rest : List OffsetRow) → AllByRecursion IsOther rows → cleared (rows ++ rest) source stream ≡ rows ++ cleared rest source stream
  others_stay [] rest h = refl
  others_stay (r ∷ rs) rest h = ap (λ v. cond (not v) (r ∷ cleared (rs ++ rest) source stream) (cleared (rs ++ rest) source stream)) h.0 ∙ ap (λ xs. r ∷ xs) (others_stay rs rest h.1)

  all_stay : (rows : List OffsetRow) → AllByRecursion IsOther rows → cleared rows source stream ≡ rows
  all_stay [] h = refl
  all_stay (r ∷ rs) h = ap (λ v. cond (not v) (r ∷ cleared rs source stream) (cleared rs source stream)) h.0 ∙ ap (λ xs. r ∷ xs) (all_stay rs h.1)

  own_go : (ps : List Offset) (rest : List OffsetRow) → cleared (stream_rows source stream ps ++ rest) source stream ≡ cleared rest source stream
  own_go [] rest = refl
  own_go (p ∷ ps) rest =
      ap (λ v. cond (not v) (row_for source stream p ∷ cleared (stream_rows source stream ps ++ rest) source stream) (cleared (stream_rows source stream ps ++ rest) source stream)) (own_stream source stream p)
      ∙ own_go ps rest

  find_past : (partition : ℕ) (rows rest : List OffsetRow) → AllByRecursion IsOther rows → find (offsets.is_at source stream partition) (rows ++ rest) ≡ find (offsets.is_at source stream partition) rest
  find_past partition [] rest h = refl
  find_past partition (r ∷ rs) rest h =
      ap (λ v. cond (v && (r.partition == partition)) (Some r) (find (offsets.is_at source stream partition) (rs ++ rest))) h.0 ∙ find_past partition rs rest h.1

  find_none : (partition : ℕ) (rows : List OffsetRow) → AllByRecursion IsOther rows → find (offsets.is_at source stream partition) rows ≡ None
  find_none partition [] h = refl
  find_none partition (r ∷ rs) h =
      ap (λ v. cond (v && (r.partition == partition)) (Some r) (find (offsets.is_at source stream partition) rs)) h.0 ∙ find_none partition rs h.1

  find_own : (partition : ℕ) (ps : List Offset) (rest : List OffsetRow) → AllByRecursion IsOther rest → offset_in (find (offsets.is_at source stream partition) (stream_rows source stream ps ++ rest)) ≡ offset_of partition ps
  find_own partition [] rest h = ap offset_in (find_none partition rest h)
  find_own partition (p ∷ ps) rest h =
      ap (λ v. offset_in (cond (v && (p.partition == partition)) (Some (row_for source stream p)) (find (offsets.is_at source stream partition) (stream_rows source stream ps ++ rest)))) (own_stream source stream p)
      ∙ by (p.partition == partition) (find_own partition ps rest h) where
        by : (same : Bool) → offset_in (find (offsets.is_at source stream partition) (stream_rows source stream ps ++ rest)) ≡ offset_of partition ps
            → offset_in (cond same (Some (row_for source stream p)) (find (offsets.is_at source stream partition) (stream_rows source stream ps ++ rest)))
            ≡ option_map (λ (q : Offset). q.offset) (cond same (Some p) (find (λ (q : Offset). q.partition == partition) ps))
        by true same = refl
        by false same = same

  -- ---- on all rows

  module _ (ss : Sources) (a : Around source stream ss) where
    without : cleared (all_rows ss) source stream ≡ a.front ++ a.back
    without =
        ap (λ rows. cleared rows source stream) a.whole
        ∙ (
        others_stay a.front (stream_rows source stream (under stream (under source ss)) ++ a.back) (first_others a.front a.first)
        ∙ ap (λ rows. a.front ++ rows) (own_go (under stream (under source ss)) a.back ∙ all_stay a.back (last_others a.back a.last))
        )

    set_by : (o : Offset) → all_rows (insert_entry name_cmp ss source (insert_entry name_cmp (under source ss) stream (set_offset o (under stream (under source ss))))) ≡ set_row (row_for source stream o) (all_rows ss)
    set_by o =
        a.put (set_offset o (under stream (under source ss)))
        ∙ (
        ap (λ rows. a.front ++ (rows ++ a.back)) (rows_set o (under stream (under source ss)))
        ∙ sym (ap (λ rows. set_row (row_for source stream o) rows) a.whole ∙ set_between source stream o a.front (stream_rows source stream (under stream (under source ss))) a.back a.first a.last)
        )

    reset_by : (os : List Offset) → all_rows (insert_entry name_cmp ss source (insert_entry name_cmp (under source ss) stream (set_offsets [] os))) ≡ reset_to (all_rows ss) source stream os
    reset_by os =
        a.put (set_offsets [] os)
        ∙ (
        ap (λ rows. a.front ++ (rows ++ a.back)) (rows_stored [] os)
        ∙ sym (ap (λ rows. store rows source stream os) without ∙ store_between source stream os a.front [] a.back a.first a.last)
        )

    count_by : length (under stream (under source ss)) + length (cleared (all_rows ss) source stream) ≡ length (all_rows ss)
    count_by =
        let m : List OffsetRow = stream_rows source stream (under stream (under source ss)) in
        let whole : length (all_rows ss) ≡ length a.front + (length m + length a.back) = ap (λ (xs : List OffsetRow). length xs) a.whole ∙ (length-append a.front (m ++ a.back) ∙ ap (λ n. length a.front + n) (length-append m a.back)) in
        let rest : length (cleared (all_rows ss) source stream) ≡ length a.front + length a.back = ap (λ (xs : List OffsetRow). length xs) without ∙ length-append a.front a.back in
        let own : length m ≡ length (under stream (under source ss)) = rows_count (under stream (under source ss)) in
        omega (arith, whole, rest, own)

    stored_by : (partition : ℕ) → offset_of partition (under stream (under source ss)) ≡ stored (all_rows ss) source stream partition
    stored_by partition =
        sym (
        ap (λ rows. offset_in (find (offsets.is_at source stream partition) rows)) a.whole
        ∙ (
        ap offset_in (find_past partition a.front (stream_rows source stream (under stream (under source ss)) ++ a.back) (first_others a.front a.first))
        ∙ find_own partition (under stream (under source ss)) a.back (last_others a.back a.last)
        )
        )

-- ---- as the calls know them: what stands under the source was found, or nothing was

module _ (source stream : List ℕ) (ss : Sources) (outer : AreOrdered ss) (ts : Streams) (found : under source ss ≡ ts) (inner : AreOrdered ts) where
  around_found : Around source stream ss
  around_found = around source stream ss outer (subst (λ (xs : Streams). AreOrdered xs) (sym found) inner)

  pub count_found : length (under stream ts) + length (cleared (all_rows ss) source stream) ≡ length (all_rows ss)
  count_found = ap (λ (xs : Streams). length (under stream xs) + length (cleared (all_rows ss) source stream)) (sym found) ∙ count_by source stream ss around_found

  pub stored_found : (partition : ℕ) → offset_of partition (under stream ts) ≡ stored (all_rows ss) source stream partition
  stored_found partition = ap (λ (xs : Streams). offset_of partition (under stream xs)) (sym found) ∙ stored_by source stream ss around_found partition

  pub set_found : (o : Offset) → all_rows (insert_entry name_cmp ss source (insert_entry name_cmp ts stream (set_offset o (under stream ts)))) ≡ set_row (row_for source stream o) (all_rows ss)
  set_found o = ap (λ (xs : Streams). all_rows (insert_entry name_cmp ss source (insert_entry name_cmp xs stream (set_offset o (under stream xs))))) (sym found) ∙ set_by source stream ss around_found o

  pub reset_found : (os : List Offset) → all_rows (insert_entry name_cmp ss source (insert_entry name_cmp ts stream (set_offsets [] os))) ≡ reset_to (all_rows ss) source stream os
  reset_found os = ap (λ (xs : Streams). all_rows (insert_entry name_cmp ss source (insert_entry name_cmp xs stream (set_offsets [] os)))) (sym found) ∙ reset_by source stream ss around_found os

  pub removed_found : all_rows (insert_entry name_cmp ss source (remove_entry (is_at (name_cmp stream)) ts)) ≡ cleared (all_rows ss) source stream
  removed_found =
      ap (λ (xs : Streams). all_rows (insert_entry name_cmp ss source (remove_entry (is_at (name_cmp stream)) xs))) (sym found)
      ∙ (around_found.removed ∙ sym (without source stream ss around_found))

-- where nothing stands under the source, none of its rows is there
pub cleared_nothing : (source stream : List ℕ) (ss : Sources) → AreOrdered ss → under source ss ≡ [] → all_rows ss ≡ cleared (all_rows ss) source stream
cleared_nothing source stream ss outer none =
    let a : Around source stream ss = around source stream ss outer (subst (λ (xs : Streams). AreOrdered xs) (sym none) nothing_ordered) in
    a.whole
    ∙ (
    ap (λ (xs : Streams). a.front ++ (stream_rows source stream (under stream xs) ++ a.back)) none
    ∙ sym (without source stream ss a)
    )

pub made_count : (source stream : List ℕ) (os : List Offset) → length (set_offsets [] os) ≡ length (store [] source stream os)
made_count source stream os = sym (rows_count source stream (set_offsets [] os)) ∙ ap (λ (xs : List OffsetRow). length xs) (rows_stored source stream [] os)
