-- How many rows there are once one is set.
use Rattle.std.proofs.Common.{◌+◌, ◌∙◌, ◌∷◌, ◌≡◌, ◌≤◌, Bool, List, None, Some, [], ap, arith, cond, false, find, length, refl, suc, sym, true, ℕ}
use Rattle.std.specs.List.{AllByRecursion}
use Rattle.book_rows.specs.Ids.{is_less}
use Rattle.book_rows.specs.Offsets.{cleared, is_same_key, key_cmp, offset_in, reset_to, set_row, store, stored}
use Rattle.book_rows.specs.declared.rows.Offset.{Offset}
use Rattle.book_rows.specs.declared.rows.OffsetRow.{OffsetRow}
use Rattle.tab_streams.specs.Order.{Ascend, IsCounted, Stands}
use Rattle.tab_streams.proofs.RowOrder.{all_later, other_than, set_ascends}
use Rattle.tab_streams.proofs.Resetting.{clear_ascends, reset_ascends, reset_length}

none_later : (z : OffsetRow) (rows : List OffsetRow) → AllByRecursion (Stands z) rows → find (is_same_key z) rows ≡ None
none_later z [] h = refl
none_later z (r ∷ rs) h = ap (λ same. cond same (Some r) (find (is_same_key z) rs)) (other_than z r h.0) ∙ none_later z rs h.1

-- the row is a new one
grown : (row : OffsetRow) (rows : List OffsetRow) → offset_in (find (is_same_key row) rows) ≡ None → length (set_row row rows) ≡ length rows + 1
grown row [] none = refl
grown row (r ∷ rs) none = by (is_same_key row r) (is_less (key_cmp row r)) none (grown row rs) where
  by : (same later : Bool) → offset_in (cond same (Some r) (find (is_same_key row) rs)) ≡ None → (offset_in (find (is_same_key row) rs) ≡ None → length (set_row row rs) ≡ length rs + 1)
      → length (cond same (row ∷ rs) (cond later (row ∷ r ∷ rs) (r ∷ set_row row rs))) ≡ length (r ∷ rs) + 1
  by true later none rest = cc
  by false true none rest = omega arith
  by false false none rest = let more = rest none in omega (arith, more)

-- the row takes another's place
kept : (row : OffsetRow) (rows : List OffsetRow) (z : ℕ) → Ascend rows → offset_in (find (is_same_key row) rows) ≡ Some z → length (set_row row rows) ≡ length rows
kept row [] z h some = cc
kept row (r ∷ rs) z h some = by (is_same_key row r) (is_less (key_cmp row r)) refl some (kept row rs z h.1) where
  by : (same later : Bool) → is_less (key_cmp row r) ≡ later → offset_in (cond same (Some r) (find (is_same_key row) rs)) ≡ Some z → (offset_in (find (is_same_key row) rs) ≡ Some z → length (set_row row rs) ≡ length rs)
      → length (cond same (row ∷ rs) (cond later (row ∷ r ∷ rs) (r ∷ set_row row rs))) ≡ length (r ∷ rs)
  by true later e some rest = refl
  by false true e some rest =
      let clash : None ≡ Some z = sym (ap offset_in (none_later row rs (all_later row r rs e h.0))) ∙ some in
      absurd (cc)
  by false false e some rest = ap (λ n. suc n) (rest some)

pub counted_new : (row : OffsetRow) (rows : List OffsetRow) (count n : ℕ) → IsCounted rows count → stored rows row.source row.stream row.partition ≡ None → n ≡ count + 1 → n ≤ 4611686018427387904 → IsCounted (set_row row rows) n
counted_new row rows count n h none more few = record { ascend = set_ascends row rows h.ascend; exact = more ∙ (ap (λ m. m + 1) h.exact ∙ sym (grown row rows none)); few = few }

pub counted_over : (row : OffsetRow) (rows : List OffsetRow) (count z : ℕ) → IsCounted rows count → stored rows row.source row.stream row.partition ≡ Some z → IsCounted (set_row row rows) count
counted_over row rows count z h some = record { ascend = set_ascends row rows h.ascend; exact = h.exact ∙ sym (kept row rows z h.ascend some); few = h.few }

pub counted_reset : (source stream : List ℕ) (os : List Offset) (rows : List OffsetRow) (n count : ℕ) → Ascend rows → count ≡ length (cleared rows source stream) + n → n ≡ length (store [] source stream os) → count ≤ 4611686018427387904
    → IsCounted (reset_to rows source stream os) count
counted_reset source stream os rows n count h sum made few = record {
  ascend = reset_ascends source stream os rows h;
  exact = sum ∙ (ap (λ m. length (cleared rows source stream) + m) made ∙ reset_length source stream os rows h);
  few = few;
}

pub counted_cleared : (source stream : List ℕ) (rows : List OffsetRow) (count : ℕ) → Ascend rows → count ≡ length (cleared rows source stream) → count ≤ 4611686018427387904 → IsCounted (cleared rows source stream) count
counted_cleared source stream rows count h exact few = record { ascend = clear_ascends source stream rows h; exact = exact; few = few }
