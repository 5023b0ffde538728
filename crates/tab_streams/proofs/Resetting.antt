-- A stream's rows are taken out, and others put in their place.
use Rattle.std.proofs.Common.{◌+◌, ◌++◌, ◌∙◌, ◌∷◌, ◌≡◌, Bool, List, [], ap, ap₂, arith, cond, false, filter, length, nat_lt, not, refl, subst, suc, sym, true, zero-add, ℕ}
use Rattle.std.specs.List.{AllByRecursion}
use Rattle.std.proofs.lemmas.Bool.{and_parts, or_parts}
use Rattle.std.proofs.lemmas.List.{length-append, length_push}
use Rattle.book_rows.specs.Ids.{is_less}
use Rattle.book_rows.specs.Lists.{list_links}
use Rattle.book_rows.specs.Offsets.{cleared, is_of_stream, is_same_key, key_cmp, reset_to, row_for, set_row, store}
use Rattle.book_rows.specs.declared.rows.Offset.{Offset}
use Rattle.book_rows.specs.declared.rows.OffsetRow.{OffsetRow}
use Rattle.tab_streams.specs.Order.{Ascend, Stands, is_after, is_before}
use Rattle.tab_streams.proofs.RowOrder.{IsFirst, IsLast, Side, after_last, ahead, among, behind, further, next_row, none_before, pass_ascends, passed_by, set_ascends, side, stopped_by}

module _ (source stream : List ℕ) where
  abbrev ahead_of : List OffsetRow → List OffsetRow
  ahead_of rows = filter (is_before source stream) rows

  abbrev behind_of : List OffsetRow → List OffsetRow
  behind_of rows = filter (is_after source stream) rows

  -- ---- a row of the stream is set among the rows of the stream

  set_among : (o : Offset) (block bs : List OffsetRow) → AllByRecursion (IsLast source stream) bs → set_row (row_for source stream o) (block ++ bs) ≡ set_row (row_for source stream o) block ++ bs
  set_among o [] [] h = refl
  set_among o [] (b ∷ bs) h =
      let stop = stopped_by source stream o b h.0.0 h.0.1 in
      ap₂ (λ same later. cond same (row_for source stream o ∷ bs) (cond later (row_for source stream o ∷ b ∷ bs) (b ∷ set_row (row_for source stream o) bs))) stop.0 stop.1
  set_among o (r ∷ rs) bs h = by (is_same_key (row_for source stream o) r) (is_less (key_cmp (row_for source stream o) r)) (set_among o rs bs h) where
    by : (same later : Bool) → set_row (row_for source stream o) (rs ++ bs) ≡ set_row (row_for source stream o) rs ++ bs
        → cond same (row_for source stream o ∷ (rs ++ bs)) (cond later (row_for source stream o ∷ r ∷ (rs ++ bs)) (r ∷ set_row (row_for source stream o) (rs ++ bs)))
        ≡ cond same (row_for source stream o ∷ rs) (cond later (row_for source stream o ∷ r ∷ rs) (r ∷ set_row (row_for source stream o) rs)) ++ bs
    by true later rest = refl
    by false true rest = refl
    by false false rest = ap (λ xs. r ∷ xs) rest

  pub set_between : (o : Offset) (as' block bs : List OffsetRow) → AllByRecursion (IsFirst source stream) as' → AllByRecursion (IsLast source stream) bs
      → set_row (row_for source stream o) (as' ++ (block ++ bs)) ≡ as' ++ (set_row (row_for source stream o) block ++ bs)
  set_between o [] block bs f h = set_among o block bs h
  set_between o (a ∷ as') block bs f h =
      let pass = passed_by source stream o a f.0.0 f.0.1 in
      ap₂ (λ same later. cond same (row_for source stream o ∷ (as' ++ (block ++ bs))) (cond later (row_for source stream o ∷ a ∷ (as' ++ (block ++ bs))) (a ∷ set_row (row_for source stream o) (as' ++ (block ++ bs))))) pass.0 pass.1
      ∙ ap (λ xs. a ∷ xs) (set_between o as' block bs f.1 h)

  pub store_between : (os : List Offset) (as' block bs : List OffsetRow) → AllByRecursion (IsFirst source stream) as' → AllByRecursion (IsLast source stream) bs
      → store (as' ++ (block ++ bs)) source stream os ≡ as' ++ (store block source stream os ++ bs)
  store_between [] as' block bs f h = refl
  store_between (o ∷ os) as' block bs f h =
      ap (λ rows. store rows source stream os) (set_between o as' block bs f h) ∙ store_between os as' (set_row (row_for source stream o) block) bs f h

  -- ---- the rows without the stream's

  all_behind : (r : OffsetRow) (rows : List OffsetRow) → is_after source stream r ≡ true → AllByRecursion (Stands r) rows → ahead_of rows ≡ []
  all_behind r [] h a = refl
  all_behind r (x ∷ xs) h a = by (side source stream x) (all_behind r xs h a.1) where
    by : Side source stream x → ahead_of xs ≡ [] → ahead_of (x ∷ xs) ≡ []
    by (ahead b f s) none = absurd (let mixed : false ≡ true = sym f ∙ after_last source stream r x a.0 h in cc)
    by (behind b f s) none = ap (λ v. cond v (x ∷ ahead_of xs) (ahead_of xs)) b ∙ none
    by (among b f s) none = ap (λ v. cond v (x ∷ ahead_of xs) (ahead_of xs)) b ∙ none

  abbrev clear_by : Bool → OffsetRow → List OffsetRow → List OffsetRow
  clear_by of r rows = cond (not of) (r ∷ rows) rows

  abbrev parts_by : Bool → Bool → OffsetRow → List OffsetRow → List OffsetRow → List OffsetRow
  parts_by b f r xs ys = cond b (r ∷ xs) xs ++ cond f (r ∷ ys) ys

  pub cleared_is : (rows : List OffsetRow) → Ascend rows → cleared rows source stream ≡ ahead_of rows ++ behind_of rows
  cleared_is [] h = refl
  cleared_is (r ∷ rs) h = by (side source stream r) (cleared_is rs h.1) where
    by : Side source stream r → cleared rs source stream ≡ ahead_of rs ++ behind_of rs → cleared (r ∷ rs) source stream ≡ ahead_of (r ∷ rs) ++ behind_of (r ∷ rs)
    by (ahead b f s) rest =
        ap (λ v. clear_by v r (cleared rs source stream)) s ∙ (ap (λ xs. r ∷ xs) rest ∙ sym (ap₂ (λ u v. parts_by u v r (ahead_of rs) (behind_of rs)) b f))
    by (among b f s) rest =
        ap (λ v. clear_by v r (cleared rs source stream)) s ∙ (rest ∙ sym (ap₂ (λ u v. parts_by u v r (ahead_of rs) (behind_of rs)) b f))
    by (behind b f s) rest =
        let none : ahead_of rs ≡ [] = all_behind r rs f h.0 in
        ap (λ v. clear_by v r (cleared rs source stream)) s
        ∙ (
        ap (λ xs. r ∷ xs) (rest ∙ ap (λ xs. xs ++ behind_of rs) none)
        ∙ (sym (ap (λ xs. xs ++ (r ∷ behind_of rs)) none) ∙ sym (ap₂ (λ u v. parts_by u v r (ahead_of rs) (behind_of rs)) b f))
        )

  first_rows : (rows : List OffsetRow) → AllByRecursion (IsFirst source stream) (ahead_of rows)
  first_rows [] = tt
  first_rows (r ∷ rs) = by (side source stream r) (first_rows rs) where
    by : Side source stream r → AllByRecursion (IsFirst source stream) (ahead_of rs) → AllByRecursion (IsFirst source stream) (ahead_of (r ∷ rs))
    by (ahead b f s) rest = subst (λ v. AllByRecursion (IsFirst source stream) (cond v (r ∷ ahead_of rs) (ahead_of rs))) (sym b) ((b, s), rest)
    by (behind b f s) rest = subst (λ v. AllByRecursion (IsFirst source stream) (cond v (r ∷ ahead_of rs) (ahead_of rs))) (sym b) rest
    by (among b f s) rest = subst (λ v. AllByRecursion (IsFirst source stream) (cond v (r ∷ ahead_of rs) (ahead_of rs))) (sym b) rest

  last_rows : (rows : List OffsetRow) → AllByRecursion (IsLast source stream) (behind_of rows)
  last_rows [] = tt
  last_rows (r ∷ rs) = by (side source stream r) (last_rows rs) where
    by : Side source stream r → AllByRecursion (IsLast source stream) (behind_of rs) → AllByRecursion (IsLast source stream) (behind_of (r ∷ rs))
    by (behind b f s) rest = subst (λ v. AllByRecursion (IsLast source stream) (cond v (r ∷ behind_of rs) (behind_of rs))) (sym f) ((f, s), rest)
    by (ahead b f s) rest = subst (λ v. AllByRecursion (IsLast source stream) (cond v (r ∷ behind_of rs) (behind_of rs))) (sym f) rest
    by (among b f s) rest = subst (λ v. AllByRecursion (IsLast source stream) (cond v (r ∷ behind_of rs) (behind_of rs))) (sym f) rest

  -- the rows around stay as they are
  pub placed : (rows : List OffsetRow) (os : List Offset) → Ascend rows → reset_to rows source stream os ≡ ahead_of rows ++ (store [] source stream os ++ behind_of rows)
  placed rows os h = ap (λ xs. store xs source stream os) (cleared_is rows h) ∙ store_between os (ahead_of rows) [] (behind_of rows) (first_rows rows) (last_rows rows)

store_ascends : (source stream : List ℕ) (os : List Offset) (rows : List OffsetRow) → Ascend rows → Ascend (store rows source stream os)
store_ascends source stream [] rows h = h
store_ascends source stream (o ∷ os) rows h = store_ascends source stream os (set_row (row_for source stream o) rows) (set_ascends (row_for source stream o) rows h)

pub reset_ascends : (source stream : List ℕ) (os : List Offset) (rows : List OffsetRow) → Ascend rows → Ascend (reset_to rows source stream os)
reset_ascends source stream os rows h = store_ascends source stream os (cleared rows source stream) (pass_ascends (λ r. not (is_of_stream source stream r)) rows h)

pub clear_ascends : (source stream : List ℕ) (rows : List OffsetRow) → Ascend rows → Ascend (cleared rows source stream)
clear_ascends source stream rows h = pass_ascends (λ r. not (is_of_stream source stream r)) rows h

-- ---- how many there are after

set_last : (row : OffsetRow) (block : List OffsetRow) → AllByRecursion (λ r. Stands r row) block → set_row row block ≡ block ++ row ∷ []
set_last row [] h = refl
set_last row (r ∷ rs) h =
    let none = or_parts (is_same_key row r) (is_less (key_cmp row r)) (none_before row r h.0) in
    ap₂ (λ same later. cond same (row ∷ rs) (cond later (row ∷ r ∷ rs) (r ∷ set_row row rs))) none.0 none.1 ∙ ap (λ xs. r ∷ xs) (set_last row rs h.1)

all_next : (row next : OffsetRow) (block : List OffsetRow) → Stands row next → AllByRecursion (λ r. Stands r row) block → AllByRecursion (λ r. Stands r next) (block ++ row ∷ [])
all_next row next [] s h = (s, tt)
all_next row next (r ∷ rs) s h = (further r row next h.0 s, all_next row next rs s h.1)

one_over : (a b : ℕ) → (a + 1) + b ≡ a + suc b
one_over a b = omega arith

two_over : (f b n : ℕ) → (f + b) + n ≡ f + (n + b)
two_over f b n = omega arith

grown : (source stream : List ℕ) (o : Offset) (os : List Offset) (block : List OffsetRow) → list_links (λ a b. nat_lt a.partition b.partition) (o ∷ os) ≡ true
    → AllByRecursion (λ r. Stands r (row_for source stream o)) block → length (store block source stream (o ∷ os)) ≡ length block + length (o ∷ os)
grown source stream o [] block links h = ap (λ (xs : List OffsetRow). length xs) (set_last (row_for source stream o) block h) ∙ length_push block (row_for source stream o)
grown source stream o (p ∷ os) block links h =
    let both = and_parts (nat_lt o.partition p.partition) (list_links (λ a b. nat_lt a.partition b.partition) (p ∷ os)) links in
    let row : OffsetRow = row_for source stream o in
    let rest : length (store (block ++ row ∷ []) source stream (p ∷ os)) ≡ length (block ++ row ∷ []) + length (p ∷ os) =
    grown source stream p os (block ++ row ∷ []) both.1 (all_next row (row_for source stream p) block (next_row source stream o p both.0) h) in
    let one : length (block ++ row ∷ []) ≡ length block + 1 = length_push block row in
    ap (λ (xs : List OffsetRow). length (store xs source stream (p ∷ os))) (set_last row block h) ∙ (rest ∙ (ap (λ n. n + length (p ∷ os)) one ∙ one_over (length block) (length (p ∷ os))))

stored_count : (source stream : List ℕ) (os : List Offset) → list_links (λ a b. nat_lt a.partition b.partition) os ≡ true → length (store [] source stream os) ≡ length os
stored_count source stream [] links = refl
stored_count source stream (o ∷ os) links = grown source stream o os [] links tt ∙ zero-add (length (o ∷ os))

pub reset_length : (source stream : List ℕ) (os : List Offset) (rows : List OffsetRow) → Ascend rows → length (cleared rows source stream) + length (store [] source stream os) ≡ length (reset_to rows source stream os)
reset_length source stream os rows h =
    let front : List OffsetRow = ahead_of source stream rows in
    let back : List OffsetRow = behind_of source stream rows in
    let block : List OffsetRow = store [] source stream os in
    let whole : length (reset_to rows source stream os) ≡ length (front ++ (block ++ back)) = ap (λ (xs : List OffsetRow). length xs) (placed source stream rows os h) in
    let parts : length (front ++ (block ++ back)) ≡ length front + (length block + length back) = length-append front (block ++ back) ∙ ap (λ n. length front + n) (length-append block back) in
    let others : length (cleared rows source stream) ≡ length front + length back = ap (λ (xs : List OffsetRow). length xs) (cleared_is source stream rows h) ∙ length-append front back in
    ap (λ n. n + length block) others ∙ (two_over (length front) (length back) (length block) ∙ sym (whole ∙ parts))

pub reset_count : (source stream : List ℕ) (os : List Offset) (rows : List OffsetRow) → Ascend rows → list_links (λ a b. nat_lt a.partition b.partition) os ≡ true
    → length (cleared rows source stream) + length os ≡ length (reset_to rows source stream os)
reset_count source stream os rows h links =
    ap (λ n. length (cleared rows source stream) + n) (sym (stored_count source stream os links)) ∙ reset_length source stream os rows h
