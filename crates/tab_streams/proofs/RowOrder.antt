-- The order of rows of offsets, and that of a stream's rows among them.
use Rattle.std.proofs.Common.{◌&&◌, ◌==◌, ◌||◌, ◌∙◌, ◌∷◌, ◌≡◌, ◌⊎◌, Bool, List, [], ap, ap₂, bytes_eq, cond, false, filter, inl, inr, nat_lt, refl, sym, true, ℕ}
use Rattle.std.specs.List.{AllByRecursion}
use Rattle.std.specs.Cmp.{IsTotalOrder, nat_cmp_is}
use Rattle.std.specs.Cmp.Lexicographic.{slice_cmp}
use Rattle.std.specs.Ordering.{nat_cmp, ordering_reverse, ordering_then}
use Rattle.std.specs.declared.cmp.Ordering.{Ordering}
use Rattle.std.specs.declared.cmp.Ordering.TheVariants.{Equal, Greater, Less}
use Rattle.std.proofs.lemmas.Bool.{and_from, and_parts, cases_Bool, eq-eqb, eqb-true, false≢true, ltb-true}
use Rattle.std.proofs.lemmas.Cmp.{nat_cmp_total, nat_list_cmp_total, on_total, then_total, tied_itself}
use Rattle.std.proofs.lemmas.Map.Lookups.{exact_bytes, exact_unsigned}
use Rattle.std.proofs.lemmas.Slice.Eq.{bytes_eq-Decides}
use Rattle.book_rows.specs.Ids.{is_less}
use Rattle.book_rows.specs.Offsets.{is_of_stream, is_same_key, key_cmp, row_for, set_row}
use Rattle.book_rows.specs.declared.rows.Offset.{Offset}
use Rattle.book_rows.specs.declared.rows.OffsetRow.{OffsetRow}
use Rattle.tab_streams.specs.Order.{Ascend, Stands, is_after, is_before, stream_cmp}

same_text : (xs ys : List ℕ) → bytes_eq xs ys ≡ true → xs ≡ ys
same_text xs ys e = (bytes_eq-Decides xs ys).0 e

text_same : (xs ys : List ℕ) → xs ≡ ys → bytes_eq xs ys ≡ true
text_same xs ys e = (bytes_eq-Decides xs ys).1 e

-- ---- the order of keys

key_total : IsTotalOrder key_cmp
key_total = then_total (on_total (λ r. r.source) nat_list_cmp_total) (then_total (on_total (λ r. r.stream) nat_list_cmp_total) (on_total (λ r. r.partition) nat_cmp_total))

less_is : (o : Ordering) → is_less o ≡ true → o ≡ Less
less_is Less e = refl
less_is Equal e = cc
less_is Greater e = cc

pub further : (r s t : OffsetRow) → Stands r s → Stands s t → Stands r t
further r s t h k = rw (key_total.trans r s t (less_is (key_cmp r s) h) (less_is (key_cmp s t) k)) refl

all_equal : (a b c : Ordering) → ordering_then a (ordering_then b c) ≡ Equal → (a ≡ Equal) × (b ≡ Equal) × (c ≡ Equal)
all_equal Equal Equal Equal e = (refl, refl, refl)
all_equal Less b c e = cc
all_equal Greater b c e = cc
all_equal Equal Less c e = cc
all_equal Equal Greater c e = cc
all_equal Equal Equal Less e = cc
all_equal Equal Equal Greater e = cc

-- rows that the order doesn't tell apart have one key
tied_same : (row r : OffsetRow) → key_cmp row r ≡ Equal → is_same_key row r ≡ true
tied_same row r e =
    let w = all_equal (slice_cmp nat_cmp row.source r.source) (slice_cmp nat_cmp row.stream r.stream) (nat_cmp row.partition r.partition) e in
    by row.source r.source row.stream r.stream row.partition r.partition (exact_bytes row.source r.source w.0) (exact_bytes row.stream r.stream w.1) (exact_unsigned row.partition r.partition w.2) where
      by : (s z t u : List ℕ) (p q : ℕ) → s ≡ z → t ≡ u → p ≡ q → (bytes_eq z s && bytes_eq u t && (q == p)) ≡ true
      by s z t u p q a b c = rw (a, b, c, text_same z z refl, text_same u u refl, eq-eqb q q refl) refl

same_tied : (row r : OffsetRow) → is_same_key row r ≡ true → key_cmp row r ≡ Equal
same_tied row r e =
    let both = and_parts (is_of_stream row.source row.stream r) (r.partition == row.partition) e in
    let names = and_parts (bytes_eq r.source row.source) (bytes_eq r.stream row.stream) both.0 in
    by row.source r.source row.stream r.stream row.partition r.partition (same_text r.source row.source names.0) (same_text r.stream row.stream names.1) (eqb-true r.partition row.partition both.1) where
      by : (s z t u : List ℕ) (p q : ℕ) → z ≡ s → u ≡ t → q ≡ p → ordering_then (slice_cmp nat_cmp s z) (ordering_then (slice_cmp nat_cmp t u) (nat_cmp p q)) ≡ Equal
      by s z t u p q a b c = rw (a, b, c, tied_itself nat_list_cmp_total s, tied_itself nat_list_cmp_total t, tied_itself nat_cmp_total p) refl

-- of two rows of different keys, one stands before the other
before_by : (o : Ordering) → (o ≡ Equal → ⊥) → is_less o ≡ false → is_less (ordering_reverse o) ≡ true
before_by Less apart off = cc
before_by Equal apart off = absurd (apart refl)
before_by Greater apart off = refl

stands_before : (row r : OffsetRow) → is_same_key row r ≡ false → is_less (key_cmp row r) ≡ false → Stands r row
stands_before row r apart off = rw (key_total.antisymm r row) (before_by (key_cmp row r) (λ e. false≢true (sym apart ∙ tied_same row r e)) off)

-- ---- the rows around a row's place

-- a row that stands before another has an earlier key
pub none_before : (row r : OffsetRow) → Stands r row → (is_same_key row r || is_less (key_cmp row r)) ≡ false
none_before row r h =
    let turned : key_cmp row r ≡ Greater = key_total.antisymm row r ∙ ap ordering_reverse (less_is (key_cmp r row) h) in
    elim (cases_Bool (is_same_key row r)) [
      | inl on ↦
          let mixed : Equal ≡ Greater = sym (same_tied row r on) ∙ turned in
          absurd (cc)
      | inr off ↦ ap₂ (λ a b. a || b) off (ap is_less turned)
    ]

-- nor has one that it stands before
pub other_than : (row r : OffsetRow) → Stands row r → is_same_key row r ≡ false
other_than row r h =
    elim (cases_Bool (is_same_key row r)) [
      | inl on ↦
          let mixed : Equal ≡ Less = sym (same_tied row r on) ∙ less_is (key_cmp row r) h in
          absurd (cc)
      | inr off ↦ off
    ]

-- ---- a row is set

-- what holds of the row and of all others holds of all after
set_all : (P : OffsetRow → Type 0) (row : OffsetRow) (rows : List OffsetRow) → P row → AllByRecursion P rows → AllByRecursion P (set_row row rows)
set_all P row [] h a = (h, tt)
set_all P row (r ∷ rs) h a = by (is_same_key row r) (is_less (key_cmp row r)) (set_all P row rs h a.1) where
  by : (same later : Bool) → AllByRecursion P (set_row row rs) → AllByRecursion P (cond same (row ∷ rs) (cond later (row ∷ r ∷ rs) (r ∷ set_row row rs)))
  by true later rest = (h, a.1)
  by false true rest = (h, a)
  by false false rest = (a.0, rest)

pub all_later : (r s : OffsetRow) (rows : List OffsetRow) → Stands r s → AllByRecursion (Stands s) rows → AllByRecursion (Stands r) rows
all_later r s [] h a = tt
all_later r s (x ∷ xs) h a = (further r s x h a.0, all_later r s xs h a.1)

-- a row of the same key stands where the other stood
like_all : (row r : OffsetRow) (rows : List OffsetRow) → key_cmp row r ≡ Equal → AllByRecursion (Stands r) rows → AllByRecursion (Stands row) rows
like_all row r [] e a = tt
like_all row r (x ∷ xs) e a = (rw (key_total.congr row r x e) a.0, like_all row r xs e a.1)

pub set_ascends : (row : OffsetRow) (rows : List OffsetRow) → Ascend rows → Ascend (set_row row rows)
set_ascends row [] h = (tt, tt)
set_ascends row (r ∷ rs) h = by (is_same_key row r) (is_less (key_cmp row r)) refl refl (set_ascends row rs h.1) where
  by : (same later : Bool) → is_same_key row r ≡ same → is_less (key_cmp row r) ≡ later → Ascend (set_row row rs) → Ascend (cond same (row ∷ rs) (cond later (row ∷ r ∷ rs) (r ∷ set_row row rs)))
  by true later e f rest = (like_all row r rs (same_tied row r e) h.0, h.1)
  by false true e f rest = ((f, all_later row r rs f h.0), h)
  by false false e f rest = (set_all (Stands r) row rs (stands_before row r e f) h.0, rest)

-- ---- rows go

all_pass : (P : OffsetRow → Type 0) (test : OffsetRow → Bool) (rows : List OffsetRow) → AllByRecursion P rows → AllByRecursion P (filter test rows)
all_pass P test [] h = tt
all_pass P test (r ∷ rs) h = by (test r) (all_pass P test rs h.1) where
  by : (v : Bool) → AllByRecursion P (filter test rs) → AllByRecursion P (cond v (r ∷ filter test rs) (filter test rs))
  by true rest = (h.0, rest)
  by false rest = rest

pub pass_ascends : (test : OffsetRow → Bool) (rows : List OffsetRow) → Ascend rows → Ascend (filter test rows)
pass_ascends test [] h = tt
pass_ascends test (r ∷ rs) h = by (test r) (pass_ascends test rs h.1) where
  by : (v : Bool) → Ascend (filter test rs) → Ascend (cond v (r ∷ filter test rs) (filter test rs))
  by true rest = (all_pass (Stands r) test rs h.0, rest)
  by false rest = rest

-- ---- a stream's rows among the others

abbrev pair_cmp : OffsetRow → OffsetRow → Ordering
pair_cmp a b = ordering_then (slice_cmp nat_cmp a.source b.source) (slice_cmp nat_cmp a.stream b.stream)

pair_total : IsTotalOrder pair_cmp
pair_total = then_total (on_total (λ r. r.source) nat_list_cmp_total) (on_total (λ r. r.stream) nat_list_cmp_total)

-- a row of the stream
abbrev one_of : List ℕ → List ℕ → OffsetRow
one_of source stream = record { source = source; stream = stream; partition = 0; offset = 0 }

pair_le : (a b c : Ordering) → ordering_then a (ordering_then b c) ≡ Less → (ordering_then a b ≡ Less) ⊎ (ordering_then a b ≡ Equal)
pair_le Less b c e = inl refl
pair_le Equal Less c e = inl refl
pair_le Equal Equal c e = inr refl
pair_le Equal Greater c e = cc
pair_le Greater b c e = cc

names_le : (x y : OffsetRow) → Stands x y → (pair_cmp x y ≡ Less) ⊎ (pair_cmp x y ≡ Equal)
names_le x y h = pair_le (slice_cmp nat_cmp x.source y.source) (slice_cmp nat_cmp x.stream y.stream) (nat_cmp x.partition y.partition) (less_is (key_cmp x y) h)

pub after_last : (source stream : List ℕ) (x y : OffsetRow) → Stands x y → is_after source stream x ≡ true → is_after source stream y ≡ true
after_last source stream x y h a =
    let z : OffsetRow = one_of source stream in
    elim (names_le x y h) [
      | inl lt ↦
          let lead : pair_cmp z x ≡ Less = less_is (pair_cmp z x) (ap is_less (pair_total.antisymm z x) ∙ a) in
          ap is_less (sym (pair_total.antisymm z y) ∙ pair_total.trans z x y lead lt)
      | inr eq ↦ ap (λ o. is_less (ordering_reverse o)) (sym (pair_total.congr x y z eq)) ∙ a
    ]

-- ---- of a row, one of three holds

both_equal : (a b : Ordering) → ordering_then a b ≡ Equal → (a ≡ Equal) × (b ≡ Equal)
both_equal Equal Equal e = (refl, refl)
both_equal Equal Less e = cc
both_equal Equal Greater e = cc
both_equal Less b e = cc
both_equal Greater b e = cc

equal_of : (source stream : List ℕ) (r : OffsetRow) → stream_cmp source stream r ≡ Equal → is_of_stream source stream r ≡ true
equal_of source stream r e =
    let w = both_equal (slice_cmp nat_cmp r.source source) (slice_cmp nat_cmp r.stream stream) e in
    and_from (bytes_eq r.source source) (bytes_eq r.stream stream) (text_same r.source source (exact_bytes r.source source w.0)) (text_same r.stream stream (exact_bytes r.stream stream w.1))

of_equal : (source stream : List ℕ) (r : OffsetRow) → is_of_stream source stream r ≡ true → stream_cmp source stream r ≡ Equal
of_equal source stream r e =
    let names = and_parts (bytes_eq r.source source) (bytes_eq r.stream stream) e in
    by r.source source r.stream stream (same_text r.source source names.0) (same_text r.stream stream names.1) where
      by : (s z t u : List ℕ) → s ≡ z → t ≡ u → ordering_then (slice_cmp nat_cmp s z) (slice_cmp nat_cmp t u) ≡ Equal
      by s z t u a b = rw (a, b, tied_itself nat_list_cmp_total z, tied_itself nat_list_cmp_total u) refl

-- before the stream's rows, after them, or one of them
pub data Side (source stream : List ℕ) (r : OffsetRow) : Type 0 where
  ahead : is_before source stream r ≡ true → is_after source stream r ≡ false → is_of_stream source stream r ≡ false → Side source stream r
  behind : is_before source stream r ≡ false → is_after source stream r ≡ true → is_of_stream source stream r ≡ false → Side source stream r
  among : is_before source stream r ≡ false → is_after source stream r ≡ false → is_of_stream source stream r ≡ true → Side source stream r

apart : (source stream : List ℕ) (r : OffsetRow) → (stream_cmp source stream r ≡ Equal → ⊥) → is_of_stream source stream r ≡ false
apart source stream r other =
    elim (cases_Bool (is_of_stream source stream r)) [
      | inl on ↦ absurd (other (of_equal source stream r on))
      | inr off ↦ off
    ]

pub side : (source stream : List ℕ) (r : OffsetRow) → Side source stream r
side source stream r = by (stream_cmp source stream r) refl where
  by : (o : Ordering) → stream_cmp source stream r ≡ o → Side source stream r
  by Less e = ahead (ap is_less e) (ap (λ x. is_less (ordering_reverse x)) e) (apart source stream r (λ q. let mixed : Less ≡ Equal = sym e ∙ q in cc))
  by Greater e = behind (ap is_less e) (ap (λ x. is_less (ordering_reverse x)) e) (apart source stream r (λ q. let mixed : Greater ≡ Equal = sym e ∙ q in cc))
  by Equal e = among (ap is_less e) (ap (λ x. is_less (ordering_reverse x)) e) (equal_of source stream r e)

abbrev pub IsFirst : List ℕ → List ℕ → OffsetRow → Type 0
IsFirst source stream r = (is_before source stream r ≡ true) × (is_of_stream source stream r ≡ false)

abbrev pub IsLast : List ℕ → List ℕ → OffsetRow → Type 0
IsLast source stream r = (is_after source stream r ≡ true) × (is_of_stream source stream r ≡ false)

pub first_by : (source stream : List ℕ) (r : OffsetRow) → is_before source stream r ≡ true → IsFirst source stream r
first_by source stream r on = by (side source stream r) where
  by : Side source stream r → IsFirst source stream r
  by (ahead b f s) = (b, s)
  by (behind b f s) = absurd (false≢true (sym b ∙ on))
  by (among b f s) = absurd (false≢true (sym b ∙ on))

pub last_by : (source stream : List ℕ) (r : OffsetRow) → is_after source stream r ≡ true → IsLast source stream r
last_by source stream r on = by (side source stream r) where
  by : Side source stream r → IsLast source stream r
  by (ahead b f s) = absurd (false≢true (sym f ∙ on))
  by (behind b f s) = (f, s)
  by (among b f s) = absurd (false≢true (sym f ∙ on))

-- ---- a row to be set, against rows outside of its stream

then_assoc : (a b c : Ordering) → ordering_then a (ordering_then b c) ≡ ordering_then (ordering_then a b) c
then_assoc Less b c = refl
then_assoc Equal b c = refl
then_assoc Greater b c = refl

-- the row of the stream against the other
key_by : (source stream : List ℕ) (o : Offset) (r : OffsetRow) → key_cmp (row_for source stream o) r ≡ ordering_then (ordering_reverse (stream_cmp source stream r)) (nat_cmp o.partition r.partition)
key_by source stream o r =
    then_assoc (slice_cmp nat_cmp source r.source) (slice_cmp nat_cmp stream r.stream) (nat_cmp o.partition r.partition)
    ∙ ap (λ x. ordering_then x (nat_cmp o.partition r.partition)) (pair_total.antisymm (one_of source stream) r)

other_key : (source stream : List ℕ) (o : Offset) (r : OffsetRow) → is_of_stream source stream r ≡ false → is_same_key (row_for source stream o) r ≡ false
other_key source stream o r off = ap (λ v. v && (r.partition == o.partition)) off

turned_less : (x y : Ordering) → is_less x ≡ true → is_less (ordering_then (ordering_reverse x) y) ≡ false
turned_less Less y e = refl
turned_less Equal y e = cc
turned_less Greater y e = cc

turned_greater : (x y : Ordering) → is_less (ordering_reverse x) ≡ true → is_less (ordering_then (ordering_reverse x) y) ≡ true
turned_greater Greater y e = refl
turned_greater Equal y e = cc
turned_greater Less y e = cc

pub passed_by : (source stream : List ℕ) (o : Offset) (r : OffsetRow) → is_before source stream r ≡ true → is_of_stream source stream r ≡ false
    → (is_same_key (row_for source stream o) r ≡ false) × (is_less (key_cmp (row_for source stream o) r) ≡ false)
passed_by source stream o r b off =
    (other_key source stream o r off, ap is_less (key_by source stream o r) ∙ turned_less (stream_cmp source stream r) (nat_cmp o.partition r.partition) b)

pub stopped_by : (source stream : List ℕ) (o : Offset) (r : OffsetRow) → is_after source stream r ≡ true → is_of_stream source stream r ≡ false
    → (is_same_key (row_for source stream o) r ≡ false) × (is_less (key_cmp (row_for source stream o) r) ≡ true)
stopped_by source stream o r a off =
    (other_key source stream o r off, ap is_less (key_by source stream o r) ∙ turned_greater (stream_cmp source stream r) (nat_cmp o.partition r.partition) a)

-- a row of the stream's next partition
pub next_row : (source stream : List ℕ) (o p : Offset) → nat_lt o.partition p.partition ≡ true → Stands (row_for source stream o) (row_for source stream p)
next_row source stream o p lt =
    let less : nat_cmp o.partition p.partition ≡ Less = sym (nat_cmp_is o.partition p.partition Less (ltb-true o.partition p.partition lt)) in
    rw (tied_itself nat_list_cmp_total source, tied_itself nat_list_cmp_total stream, less) refl
