-- Rows of offsets stay in order and within their limits when rows are set, and when a stream's go.
use Rattle.std.proofs.Common.{◌≡◌, ℕ, Bool, true, false, cond, not, ◌==◌, ◌&&◌, List, [], ◌∷◌, refl, sym, ◌∙◌, bytes_eq, nat_le}
use Rattle.std.specs.List.{AllByRecursion, list_all}
use Rattle.std.specs.Cmp.{IsTotalOrder}
use Rattle.std.specs.Cmp.Lexicographic.{slice_cmp}
use Rattle.std.specs.Ordering.{nat_cmp, ordering_reverse, ordering_then}
use Rattle.std.specs.declared.cmp.Ordering.{Ordering}
use Rattle.std.specs.declared.cmp.Ordering.TheVariants.{Equal, Greater, Less}
use Rattle.std.proofs.lemmas.Bool.{and_from, and_parts, eq-eqb, eqb-true, false≢true}
use Rattle.std.proofs.lemmas.Cmp.{nat_cmp_total, nat_list_cmp_total, on_total, then_total, tied_itself}
use Rattle.std.proofs.lemmas.Map.Lookups.{exact_bytes, exact_unsigned}
use Rattle.seg_names.specs.Names.{is_name}
use Rattle.book_rows.specs.Form.{is_offset, offset_limit, partition_limit}
use Rattle.book_rows.specs.Ids.{is_less}
use Rattle.book_rows.specs.Lists.{Pairs}
use Rattle.book_rows.specs.Offsets.{cleared, is_of_stream, is_same_key, key_cmp, row_for, set_row, store}
use Rattle.book_rows.specs.Shape.{is_offset_row}
use Rattle.book_rows.specs.declared.rows.Offset.{Offset}
use Rattle.book_rows.specs.declared.rows.OffsetRow.{OffsetRow}
use Rattle.laws_locks.proofs.Lists.{pairs_filter, pass_filter}
use Rattle.laws_offsets.specs.OffsetShape.{AreOffsetRows}
use Rattle.laws_offsets.proofs.Lists.{same_text, text_same}

-- ---- the order of keys

key_total : IsTotalOrder key_cmp
key_total = then_total (on_total (λ r. r.source) nat_list_cmp_total) (then_total (on_total (λ r. r.stream) nat_list_cmp_total) (on_total (λ r. r.partition) nat_cmp_total))

abbrev Stands : OffsetRow → OffsetRow → Type 0
Stands r s = is_less (key_cmp r s) ≡ true

less_is : (o : Ordering) → is_less o ≡ true → o ≡ Less
less_is Less e = refl
less_is Equal e = cc
less_is Greater e = cc

further : (r s t : OffsetRow) → Stands r s → Stands s t → Stands r t
further r s t h k = rw (key_total.trans r s t (less_is (key_cmp r s) h) (less_is (key_cmp s t) k)) refl

all_equal : (a b c : Ordering) → ordering_then a (ordering_then b c) ≡ Equal → (a ≡ Equal) × (b ≡ Equal) × (c ≡ Equal)
all_equal Equal Equal Equal e = (refl, refl, refl)
all_equal Less b c e = cc
all_equal Greater b c e = cc
all_equal Equal Less c e = cc
all_equal Equal Greater c e = cc
all_equal Equal Equal Less e = cc
all_equal Equal Equal Greater e = cc

-- rows that the order doesn't tell apart have one key
tied_same : (row r : OffsetRow) → key_cmp row r ≡ Equal → is_same_key row r ≡ true
tied_same row r e =
    let w = all_equal (slice_cmp nat_cmp row.source r.source) (slice_cmp nat_cmp row.stream r.stream) (nat_cmp row.partition r.partition) e in
    by row.source r.source row.stream r.stream row.partition r.partition (exact_bytes row.source r.source w.0) (exact_bytes row.stream r.stream w.1) (exact_unsigned row.partition r.partition w.2) where
      by : (s z t u : List ℕ) (p q : ℕ) → s ≡ z → t ≡ u → p ≡ q → (bytes_eq z s && bytes_eq u t && (q == p)) ≡ true
      by s z t u p q a b c = rw (a, b, c, text_same z z refl, text_same u u refl, eq-eqb q q refl) refl

same_tied : (row r : OffsetRow) → is_same_key row r ≡ true → key_cmp row r ≡ Equal
same_tied row r e =
    let both = and_parts (is_of_stream row.source row.stream r) (r.partition == row.partition) e in
    let names = and_parts (bytes_eq r.source row.source) (bytes_eq r.stream row.stream) both.0 in
    by row.source r.source row.stream r.stream row.partition r.partition (same_text r.source row.source names.0) (same_text r.stream row.stream names.1) (eqb-true r.partition row.partition both.1) where
      by : (s z t u : List ℕ) (p q : ℕ) → z ≡ s → u ≡ t → q ≡ p → ordering_then (slice_cmp nat_cmp s z) (ordering_then (slice_cmp nat_cmp t u) (nat_cmp p q)) ≡ Equal
      by s z t u p q a b c = rw (a, b, c, tied_itself nat_list_cmp_total s, tied_itself nat_list_cmp_total t, tied_itself nat_cmp_total p) refl

-- of two rows of different keys, one stands before the other
before_by : (o : Ordering) → (o ≡ Equal → ⊥) → is_less o ≡ false → is_less (ordering_reverse o) ≡ true
before_by Less apart off = cc
before_by Equal apart off = absurd (apart refl)
before_by Greater apart off = refl

stands_before : (row r : OffsetRow) → is_same_key row r ≡ false → is_less (key_cmp row r) ≡ false → Stands r row
stands_before row r apart off = rw (key_total.antisymm r row) (before_by (key_cmp row r) (λ e. false≢true (sym apart ∙ tied_same row r e)) off)

-- ---- a row is set

abbrev after_row : OffsetRow → OffsetRow → Bool
after_row row r = is_less (key_cmp row r)

-- what holds of the row and of all others holds of all after
set_all : (P : OffsetRow → Type 0) (row : OffsetRow) (rows : List OffsetRow) → P row → AllByRecursion P rows → AllByRecursion P (set_row row rows)
set_all P row [] h a = (h, tt)
set_all P row (r ∷ rs) h a = by (is_same_key row r) (after_row row r) (set_all P row rs h a.1) where
  by : (same later : Bool) → AllByRecursion P (set_row row rs) → AllByRecursion P (cond same (row ∷ rs) (cond later (row ∷ r ∷ rs) (r ∷ set_row row rs)))
  by true later rest = (h, a.1)
  by false true rest = (h, a)
  by false false rest = (a.0, rest)

later_all : (r s : OffsetRow) (rows : List OffsetRow) → Stands r s → AllByRecursion (Stands s) rows → AllByRecursion (Stands r) rows
later_all r s [] h a = tt
later_all r s (x ∷ xs) h a = (further r s x h a.0, later_all r s xs h a.1)

-- a row of the same key stands where the other stood
like_all : (row r : OffsetRow) (rows : List OffsetRow) → key_cmp row r ≡ Equal → AllByRecursion (Stands r) rows → AllByRecursion (Stands row) rows
like_all row r [] e a = tt
like_all row r (x ∷ xs) e a = (rw (key_total.congr row r x e) a.0, like_all row r xs e a.1)

set_ordered : (row : OffsetRow) (rows : List OffsetRow) → Pairs Stands rows → Pairs Stands (set_row row rows)
set_ordered row [] h = (tt, tt)
set_ordered row (r ∷ rs) h = by (is_same_key row r) (after_row row r) refl refl (set_ordered row rs h.1) where
  by : (same later : Bool) → is_same_key row r ≡ same → is_less (key_cmp row r) ≡ later → Pairs Stands (set_row row rs) → Pairs Stands (cond same (row ∷ rs) (cond later (row ∷ r ∷ rs) (r ∷ set_row row rs)))
  by true later e f rest = (like_all row r rs (same_tied row r e) h.0, h.1)
  by false true e f rest = ((f, later_all row r rs f h.0), h)
  by false false e f rest = (set_all (Stands r) row rs (stands_before row r e f) h.0, rest)

set_limits : (row : OffsetRow) (rows : List OffsetRow) → is_offset_row row ≡ true → list_all is_offset_row rows ≡ true → list_all is_offset_row (set_row row rows) ≡ true
set_limits row [] h a = and_from (is_offset_row row) true h refl
set_limits row (r ∷ rs) h a =
    let both = and_parts (is_offset_row r) (list_all is_offset_row rs) a in
    by (is_same_key row r) (after_row row r) both.0 both.1 (set_limits row rs h both.1) where
      by : (same later : Bool) → is_offset_row r ≡ true → list_all is_offset_row rs ≡ true → list_all is_offset_row (set_row row rs) ≡ true
          → list_all is_offset_row (cond same (row ∷ rs) (cond later (row ∷ r ∷ rs) (r ∷ set_row row rs))) ≡ true
      by true later f g rest = and_from (is_offset_row row) (list_all is_offset_row rs) h g
      by false true f g rest = and_from (is_offset_row row) (list_all is_offset_row (r ∷ rs)) h (and_from (is_offset_row r) (list_all is_offset_row rs) f g)
      by false false f g rest = and_from (is_offset_row r) (list_all is_offset_row (set_row row rs)) f rest

-- ---- several rows are set

row_limits : (source stream : List ℕ) (o : Offset) → is_name source ≡ true → is_name stream ≡ true → is_offset o ≡ true → is_offset_row (row_for source stream o) ≡ true
row_limits source stream o a b c =
    let both = and_parts (nat_le o.partition partition_limit) (nat_le o.offset offset_limit) c in
    and_from (is_name source && is_name stream && nat_le o.partition partition_limit) (nat_le o.offset offset_limit)
    (and_from (is_name source && is_name stream) (nat_le o.partition partition_limit) (and_from (is_name source) (is_name stream) a b) both.0) both.1

pub stored_rows : (source stream : List ℕ) (os : List Offset) (rows : List OffsetRow) → is_name source ≡ true → is_name stream ≡ true → list_all is_offset os ≡ true → AreOffsetRows rows → AreOffsetRows (store rows source stream os)
stored_rows source stream [] rows a b c h = h
stored_rows source stream (o ∷ os) rows a b c h =
    let both = and_parts (is_offset o) (list_all is_offset os) c in
    let row : OffsetRow = row_for source stream o in
    stored_rows source stream os (set_row row rows) a b both.1
    (record { limits = set_limits row rows (row_limits source stream o a b both.0) h.limits; order = set_ordered row rows h.order })

-- ---- rows go

pub cleared_rows : (rows : List OffsetRow) (source stream : List ℕ) → AreOffsetRows rows → AreOffsetRows (cleared rows source stream)
cleared_rows rows source stream h = record {
  limits = pass_filter is_offset_row (λ r. not (is_of_stream source stream r)) rows h.limits;
  order = pairs_filter Stands (λ r. not (is_of_stream source stream r)) rows h.order;
}
