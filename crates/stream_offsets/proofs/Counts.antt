-- How many offsets there are once the ends of ranges are stored.
use Rattle.std.proofs.Common.{◌+◌, ◌<◌, ◌==◌, ◌∙◌, ◌∷◌, ◌≡◌, Bool, List, None, Option, Some, [], ap, arith, cond, false, filter, find, length, nat_lt, refl, sym, true, ℕ}
use Rattle.std.specs.List.{AllByRecursion}
use Rattle.std.specs.Option.{is_none}
use Rattle.std.proofs.lemmas.Bool.{and_parts, and_right, eqb-true, ltb-true, ne_eqb}
use Rattle.book_rows.specs.Ids.{is_less}
use Rattle.book_rows.specs.Lists.{list_links}
use Rattle.book_rows.specs.Offsets.{advance, end_of, is_at, is_of_stream, is_same_key, key_cmp, offset_in, row_for, set_row, stored}
use Rattle.book_rows.specs.declared.rows.Offset.{Offset}
use Rattle.book_rows.specs.declared.rows.OffsetRow.{OffsetRow}
use Rattle.book_rows.specs.declared.rows.Range.{Range}
use Rattle.tab_streams.specs.Order.{Ascend, Stands}
use Rattle.tab_streams.proofs.RowOrder.{all_later, other_than, set_ascends}
use Rattle.stream_offsets.specs.Room.{is_new}

-- ---- one more row

none_later : (row : OffsetRow) (rows : List OffsetRow) → AllByRecursion (Stands row) rows → find (is_same_key row) rows ≡ None
none_later row [] h = refl
none_later row (r ∷ rs) h = ap (λ same. cond same (Some r) (find (is_same_key row) rs)) (other_than row r h.0) ∙ none_later row rs h.1

set_count : (row : OffsetRow) (rows : List OffsetRow) → Ascend rows → length (set_row row rows) ≡ length rows + cond (is_none (stored rows row.source row.stream row.partition)) 1 0
set_count row [] h = refl
set_count row (r ∷ rs) h = by (is_same_key row r) (is_less (key_cmp row r)) refl (set_count row rs h.1) where
  by : (same later : Bool) → is_less (key_cmp row r) ≡ later → length (set_row row rs) ≡ length rs + cond (is_none (offset_in (find (is_same_key row) rs))) 1 0
      → length (cond same (row ∷ rs) (cond later (row ∷ r ∷ rs) (r ∷ set_row row rs))) ≡ length (r ∷ rs) + cond (is_none (offset_in (cond same (Some r) (find (is_same_key row) rs)))) 1 0
  by true later e rest = omega arith
  by false true e rest = rw (none_later row rs (all_later row r rs e h.0)) (omega arith)
  by false false e rest = omega (arith, rest)

-- ---- a partition beside the row's

module _ (source stream : List ℕ) where
  module _ (o : Offset) (partition : ℕ) (apart : (o.partition == partition) ≡ false) where
    abbrev row : OffsetRow
    row = row_for source stream o

    abbrev at : OffsetRow → Bool
    at r = is_at source stream partition r

    row_off : at row ≡ false
    row_off = and_right (is_of_stream source stream row) (o.partition == partition) apart

    same_off : (r : OffsetRow) → is_same_key row r ≡ true → at r ≡ false
    same_off r on =
        let both = and_parts (is_of_stream source stream r) (r.partition == o.partition) on in
        and_right (is_of_stream source stream r) (r.partition == partition) (ap (λ p. p == partition) (eqb-true r.partition o.partition both.1) ∙ apart)

    past : (b : Bool) (r : OffsetRow) (x y : Option OffsetRow) → offset_in x ≡ offset_in y → offset_in (cond b (Some r) x) ≡ offset_in (cond b (Some r) y)
    past true r x y e = refl
    past false r x y e = e

    -- keeps its stored offset
    stored_beside : (rows : List OffsetRow) → stored (set_row row rows) source stream partition ≡ stored rows source stream partition
    stored_beside [] = ap (λ b. offset_in (cond b (Some row) None)) row_off
    stored_beside (r ∷ rs) = by (is_same_key row r) (is_less (key_cmp row r)) refl (stored_beside rs) where
      by : (same later : Bool) → is_same_key row r ≡ same → stored (set_row row rs) source stream partition ≡ stored rs source stream partition
          → stored (cond same (row ∷ rs) (cond later (row ∷ r ∷ rs) (r ∷ set_row row rs))) source stream partition ≡ stored (r ∷ rs) source stream partition
      by true later e rest = ap (λ b. offset_in (cond b (Some row) (find at rs))) row_off ∙ sym (ap (λ b. offset_in (cond b (Some r) (find at rs))) (same_off r e))
      by false true e rest = ap (λ b. offset_in (cond b (Some row) (find at (r ∷ rs)))) row_off
      by false false e rest = past (at r) r (find at (set_row row rs)) (find at rs) rest

  -- ---- ranges whose partitions ascend

  abbrev before : Range → Range → Bool
  before a b = nat_lt a.partition b.partition

  abbrev AreAbove : ℕ → List Range → Type 0
  AreAbove partition rs = AllByRecursion (λ r. partition < r.partition) rs

  above_lower : (p q : ℕ) → p < q → (rs : List Range) → AreAbove q rs → AreAbove p rs
  above_lower p q lt [] h = tt
  above_lower p q lt (r ∷ rs) h = (let first : q < r.partition = h.0 in (omega (arith, lt, first), above_lower p q lt rs h.1))

  others_above : (r : Range) (rs : List Range) → list_links before (r ∷ rs) ≡ true → AreAbove r.partition rs
  others_above r [] on = tt
  others_above r (s ∷ rs) on =
      let both = and_parts (before r s) (list_links before (s ∷ rs)) on in
      let lt : r.partition < s.partition = ltb-true r.partition s.partition both.0 in
      (lt, above_lower r.partition s.partition lt rs (others_above s rs both.1))

  others_ascend : (r : Range) (rs : List Range) → list_links before (r ∷ rs) ≡ true → list_links before rs ≡ true
  others_ascend r [] on = refl
  others_ascend r (s ∷ rs) on = (and_parts (before r s) (list_links before (s ∷ rs)) on).1

  -- what is new stays so where another partition's end is stored
  new_stays : (r : Range) (rows : List OffsetRow) (rs : List Range) → AreAbove r.partition rs → filter (is_new (set_row (row_for source stream (end_of r)) rows) source stream) rs ≡ filter (is_new rows source stream) rs
  new_stays r rows [] h = refl
  new_stays r rows (s ∷ rs) h =
      let lt : r.partition < s.partition = h.0 in
      let other : (r.partition == s.partition) ≡ false = ne_eqb r.partition s.partition (λ e. omega (arith, lt, e)) in
      ap (λ o. cond (is_none o) (s ∷ filter (is_new (set_row (row_for source stream (end_of r)) rows) source stream) rs) (filter (is_new (set_row (row_for source stream (end_of r)) rows) source stream) rs))
      (stored_beside (end_of r) s.partition other rows)
      ∙ ap (λ xs. cond (is_new rows source stream s) (s ∷ xs) xs) (new_stays r rows rs h.1)

  first_counts : (b : Bool) (r : Range) (rs : List Range) → length (cond b (r ∷ rs) rs) ≡ cond b 1 0 + length rs
  first_counts true r rs = omega arith
  first_counts false r rs = omega arith

  pub advance_count : (rs : List Range) (rows : List OffsetRow) → Ascend rows → list_links before rs ≡ true → length (advance rows source stream rs) ≡ length rows + length (filter (is_new rows source stream) rs)
  advance_count [] rows h on = omega arith
  advance_count (r ∷ rs) rows h on =
      let after : List OffsetRow = set_row (row_for source stream (end_of r)) rows in
      let rest : length (advance after source stream rs) ≡ length after + length (filter (is_new after source stream) rs) =
      advance_count rs after (set_ascends (row_for source stream (end_of r)) rows h) (others_ascend r rs on) in
      let set : length after ≡ length rows + cond (is_new rows source stream r) 1 0 = set_count (row_for source stream (end_of r)) rows h in
      let same : length (filter (is_new after source stream) rs) ≡ length (filter (is_new rows source stream) rs) = ap (λ (xs : List Range). length xs) (new_stays r rows rs (others_above r rs on)) in
      let first : length (filter (is_new rows source stream) (r ∷ rs)) ≡ cond (is_new rows source stream r) 1 0 + length (filter (is_new rows source stream) rs) =
      first_counts (is_new rows source stream r) r (filter (is_new rows source stream) rs) in
      omega (arith, rest, set, same, first)
