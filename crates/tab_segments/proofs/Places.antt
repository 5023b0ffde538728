-- Segments at the places that a walk gathered.
use Rattle.std.proofs.Common.{◌&&◌, ◌<ℤ◌, ◌≤ℤ◌, bytes_eq, int_lt, negsuc, pos, ℤ, ◌+◌, ◌<◌, ◌∙◌, ◌∷◌, ◌≡◌, Bool, List, None, Some, [], ap, arith, cond, false, filter, inl, inr, map, refl, slice_get, subst, suc, sym, true, zero, ℕ, IsSome}
use Rattle.std.specs.Prelude.{⊤}
use Rattle.std.specs.BTreeMap.{is_at}
use Rattle.std.specs.List.{AllByRecursion}
use Rattle.std.specs.List.Sorted.{IsStrictlySortedBy}
use Rattle.std.specs.Map.{keys_of, values_of}
use Rattle.std.specs.Ordering.{nat_cmp}
use Rattle.std.specs.declared.cmp.Ordering.TheVariants.{Less}
use Rattle.std.proofs.lemmas.Bool.{cases_Bool}
use Rattle.std.proofs.lemmas.Int.{ints}
use Rattle.iv_span.specs.Extent.{Extent, overlap}
use Rattle.book_rows.specs.Shape.{segment_ids}
use Rattle.book_rows.specs.Shown.{used_rows}
use Rattle.book_rows.specs.Visible.{is_used_over}
use Rattle.book_rows.specs.declared.rows.SegmentRow.{SegmentRow}
use Rattle.row_index.specs.Index.{IsPassing, row_at}
use Rattle.row_index.proofs.IndexLemmas.{cmp_same}
use Rattle.row_table.specs.Table.{numbered_from, rows_of, with_row}
use Rattle.row_table.proofs.ListLemmas.{all_found}
use Rattle.row_table.proofs.PushLemmas.{values_numbered}
use Rattle.row_table.proofs.RowLemmas.{cmp_less}
use Rattle.tab_segments.specs.Leading.{HaveRealSpans, IsReal, entries_at, rows_in}
use Rattle.tab_segments.specs.declared.entries.Entry.{Entry}

-- ---- a vector as a tree of places

row_numbered : (m : ℕ) (es : List Entry) (n : ℕ) → row_at (numbered_from m es) (m + n) ≡ slice_get es n
row_numbered m [] zero = refl
row_numbered m [] (suc n) = refl
row_numbered m (e ∷ es) zero = (let same : m + zero ≡ m = omega arith in rw (same, cmp_same m) refl)
row_numbered m (e ∷ es) (suc n) =
    let apart : is_at (nat_cmp (m + suc n)) m ≡ false = grind (arith) in
    let on : (m + 1) + n ≡ m + suc n = omega arith in
    rw apart (subst (λ k. row_at (numbered_from (m + 1) es) k ≡ slice_get es n) on (row_numbered (m + 1) es n))

row_of : (es : List Entry) (n : ℕ) → row_at (numbered_from 0 es) n ≡ slice_get es n
row_of es n = (let e : 0 + n ≡ n = omega arith in subst (λ k. row_at (numbered_from 0 es) k ≡ slice_get es n) e (row_numbered 0 es n))

at_rows : (es : List Entry) (ns : List ℕ) → entries_at es ns ≡ rows_of (numbered_from 0 es) ns
at_rows es [] = refl
at_rows es (n ∷ ns) = ap (λ o. with_row o (entries_at es ns)) (sym (row_of es n)) ∙ ap (λ l. with_row (row_at (numbered_from 0 es) n) l) (at_rows es ns)

numbers_above : (m n : ℕ) (es : List Entry) → m < n → AllByRecursion (λ y. nat_cmp m y ≡ Less) (keys_of (numbered_from n es))
numbers_above m n [] lt = tt
numbers_above m n (e ∷ es) lt = (cmp_less m n lt, numbers_above m (n + 1) es (omega (arith, lt)))

numbers_rise : (m : ℕ) (es : List Entry) → IsStrictlySortedBy nat_cmp (keys_of (numbered_from m es))
unfolding IsStrictlySortedBy
numbers_rise m [] = tt
numbers_rise m (e ∷ es) = (numbers_above m (m + 1) es (omega arith), numbers_rise (m + 1) es)

pub entries_found : (test : Entry → Bool) (es : List Entry) (ms : List (ℕ × ⊤)) → IsStrictlySortedBy nat_cmp (keys_of ms) → ((s : ℕ) → IsSome (row_at ms s) → IsPassing (slice_get es) test s) → ((s : ℕ) (e : Entry) → slice_get es s ≡ Some e → test e ≡ true → IsSome (row_at ms s))
    → entries_at es (keys_of ms) ≡ filter test es
entries_found test es ms rising sound all =
    at_rows es (keys_of ms)
    ∙ (
    all_found test (numbered_from 0 es) (numbered_from 0 es) ms (numbers_rise 0 es) rising (λ s r found. found)
    (λ s some. let own = sound s some in (own.0, row_of es s ∙ own.1, own.2))
    (λ s r found on. all s r (sym (row_of es s) ∙ found) on)
    ∙ ap (filter test) (values_numbered 0 es)
    )

-- ---- their ids

pub ids_filtered : (test : SegmentRow → Bool) (es : List Entry) → map (λ e. e.row.id) (filter (λ e. test e.row) es) ≡ segment_ids (filter test (rows_in es))
ids_filtered test [] = refl
ids_filtered test (e ∷ es) =
    elim (cases_Bool (test e.row)) [ inl on ↦ rw on (ap (λ l. e.row.id ∷ l) (ids_filtered test es)) | inr off ↦ rw off (ids_filtered test es) ]

-- ---- they themselves

pub rows_filtered : (test : SegmentRow → Bool) (es : List Entry) → rows_in (filter (λ e. test e.row) es) ≡ filter test (rows_in es)
rows_filtered test [] = refl
rows_filtered test (e ∷ es) =
    elim (cases_Bool (test e.row)) [ inl on ↦ rw on (ap (λ l. e.row ∷ l) (rows_filtered test es)) | inr off ↦ rw off (rows_filtered test es) ]

-- ---- those of a source

-- each span overlaps one that has all numbers of 64 bits but the greatest
overlaps_all : (all a : Extent) → all ≡ record { start = negsuc 9223372036854775807; end = pos 9223372036854775807 } → IsReal a → overlap a all ≡ true
overlaps_all all a is real = rw is (overlaps a.start a.end real.0 real.1 real.2) where
  overlaps : (s e : ℤ) → s <ℤ e → e ≤ℤ pos 9223372036854775807 → negsuc 9223372036854775807 ≤ℤ s → (int_lt s (pos 9223372036854775807) && int_lt (negsuc 9223372036854775807) e) ≡ true
  overlaps s e some high low = grind (arith, ints)

with_overlap : (a b : Bool) → b ≡ true → (a && b) ≡ a
with_overlap a b on = grind arith

pub all_used : (source : List ℕ) (all : Extent) → all ≡ record { start = negsuc 9223372036854775807; end = pos 9223372036854775807 } → (es : List Entry) → HaveRealSpans es → filter (is_used_over source all) (rows_in es) ≡ used_rows (rows_in es) source
all_used source all is [] real = refl
all_used source all is (e ∷ es) real =
    ap (λ (b : Bool). cond b (e.row ∷ filter (is_used_over source all) (rows_in es)) (filter (is_used_over source all) (rows_in es))) (with_overlap (e.row.used && bytes_eq e.row.id.source source) (overlap e.row.id.span all) (overlaps_all all e.row.id.span is real.0))
    ∙ ap (λ (rows : List SegmentRow). cond (e.row.used && bytes_eq e.row.id.source source) (e.row ∷ rows) rows) (all_used source all is es real.1)
