-- What is stored of a partition after rows are set, or a stream's rows go.
use Rattle.std.proofs.Common.{◌≡◌, ℕ, Bool, true, false, cond, not, ◌==◌, ◌&&◌, List, [], ◌∷◌, map, find, Some, None, Option, refl, sym, ◌∙◌, arith, inl, inr}
use Rattle.std.specs.List.{AllByRecursion}
use Rattle.std.specs.Str.{bytes_eq}
use Rattle.std.proofs.lemmas.Bool.Decides.{nat_tests}
use Rattle.std.proofs.lemmas.Bool.{and_parts, and_from, eqb-true, eq-eqb, false≢true, cases_Bool}
use Rattle.book_rows.specs.Ids.{is_less}
use Rattle.book_rows.specs.Lists.{or_else}
use Rattle.book_rows.specs.Offsets.{advance, cleared, end_of, is_at, is_of_stream, is_same_key, key_cmp, offset_in, reset_to, row_for, set_by, set_row, store, stored}
use Rattle.book_rows.specs.Tiles.{part_at}
use Rattle.book_rows.specs.declared.rows.Offset.{Offset}
use Rattle.book_rows.specs.declared.rows.OffsetRow.{OffsetRow}
use Rattle.book_rows.specs.declared.rows.Range.{Range}
use Rattle.laws_offsets.specs.Lookups.{end_in, listed}
use Rattle.laws_offsets.proofs.Distinct.{HasDistinctParts, HasDistinctPartitions, distinct_ends}
use Rattle.laws_offsets.proofs.Lists.{same_text, text_same}

-- a row of the same key answers the same look-ups
key_alike : (row r : OffsetRow) (source stream : List ℕ) (partition : ℕ) → is_same_key row r ≡ true → is_at source stream partition r ≡ is_at source stream partition row
key_alike row r source stream partition e =
    let one = and_parts (is_of_stream row.source row.stream r) (r.partition == row.partition) e in
    let two = and_parts (bytes_eq r.source row.source) (bytes_eq r.stream row.stream) one.0 in
    rw (same_text r.source row.source two.0, same_text r.stream row.stream two.1, eqb-true r.partition row.partition one.1) refl

module _ (source stream : List ℕ) (partition : ℕ) (row : OffsetRow) (later : OffsetRow → Bool) where
  set_rest : (r : OffsetRow) (rs : List OffsetRow) (b c : Bool)
      → stored (set_by (is_same_key row) later row rs) source stream partition ≡ cond (is_at source stream partition row) (Some row.offset) (stored rs source stream partition)
      → is_same_key row r ≡ b
      → stored (cond b (row ∷ rs) (cond c (row ∷ r ∷ rs) (r ∷ set_by (is_same_key row) later row rs))) source stream partition ≡ cond (is_at source stream partition row) (Some row.offset) (stored (r ∷ rs) source stream partition)
  set_rest r rs true c h e =
      rw (key_alike row r source stream partition e) (
      elim (is_at source stream partition row) as (λ b. offset_in (cond b (Some row) (find (is_at source stream partition) rs)) ≡ cond b (Some row.offset) (offset_in (cond b (Some r) (find (is_at source stream partition) rs))))
      [ true ↦ refl | false ↦ refl ])
  set_rest r rs false true h e =
      elim (is_at source stream partition row) as (λ b. offset_in (cond b (Some row) (find (is_at source stream partition) (r ∷ rs))) ≡ cond b (Some row.offset) (stored (r ∷ rs) source stream partition))
      [ true ↦ refl | false ↦ refl ]
  set_rest r rs false false h e = elim (cases_Bool (is_at source stream partition r)) [
    | inr off ↦ rw off h
    | inl on ↦ rw (on, apart on) refl
  ] where
    apart : is_at source stream partition r ≡ true → is_at source stream partition row ≡ false
    apart on = elim (cases_Bool (is_at source stream partition row)) [
      | inr off ↦ off
      | inl both ↦ absurd (false≢true (sym e ∙ one_key on both))
    ] where
      one_key : is_at source stream partition r ≡ true → is_at source stream partition row ≡ true → is_same_key row r ≡ true
      one_key on both =
          let a = and_parts _ _ on in
          let b = and_parts _ _ a.0 in
          let c = and_parts _ _ both in
          let d = and_parts _ _ c.0 in
          and_from _ _ (and_from _ _ (text_same _ _ (same_text r.source source b.0 ∙ sym (same_text row.source source d.0))) (text_same _ _ (same_text r.stream stream b.1 ∙ sym (same_text row.stream stream d.1))))
          (eq-eqb _ _ (eqb-true r.partition partition a.1 ∙ sym (eqb-true row.partition partition c.1)))

  -- a row that is set answers for its key, and no other
  stored_set_by : (rows : List OffsetRow) → stored (set_by (is_same_key row) later row rows) source stream partition ≡ cond (is_at source stream partition row) (Some row.offset) (stored rows source stream partition)
  stored_set_by [] = elim (is_at source stream partition row) as (λ b. offset_in (cond b (Some row) None) ≡ cond b (Some row.offset) None) [ true ↦ refl | false ↦ refl ]
  stored_set_by (r ∷ rs) = set_rest r rs (is_same_key row r) (later r) (stored_set_by rs) refl

stored_set : (source stream : List ℕ) (partition : ℕ) (row : OffsetRow) (rows : List OffsetRow) → stored (set_row row rows) source stream partition ≡ cond (is_at source stream partition row) (Some row.offset) (stored rows source stream partition)
stored_set source stream partition row rows = stored_set_by source stream partition row (λ r. is_less (key_cmp row r)) rows

-- other streams keep what they have
pub stored_elsewhere : (source stream : List ℕ) (partition : ℕ) (s t : List ℕ) (os : List Offset) (rows : List OffsetRow) → (bytes_eq s source && bytes_eq t stream) ≡ false → stored (store rows s t os) source stream partition ≡ stored rows source stream partition
stored_elsewhere source stream partition s t [] rows e = refl
stored_elsewhere source stream partition s t (o ∷ os) rows e =
    stored_elsewhere source stream partition s t os (set_row (row_for s t o) rows) e ∙ (stored_set source stream partition (row_for s t o) rows ∙ rw e refl)

not_listed : (p q : ℕ) (os : List Offset) → (p == q) ≡ true → AllByRecursion (λ (o : Offset). (p == o.partition) ≡ false) os → listed q os ≡ None
not_listed p q [] e a = refl
not_listed p q (o ∷ os) e a =
    let off : (o.partition == q) ≡ false = other p q o.partition e a.0 in
    rw off (not_listed p q os e a.1) where
      other : (p q x : ℕ) → (p == q) ≡ true → (p == x) ≡ false → (x == q) ≡ false
      other p q x h k = grind (arith, nat_tests)

-- the stream has what was listed, and else what it had
pub stored_here : (source stream : List ℕ) (partition : ℕ) (os : List Offset) (rows : List OffsetRow) → HasDistinctPartitions os → stored (store rows source stream os) source stream partition ≡ or_else (listed partition os) (stored rows source stream partition)
stored_here source stream partition [] rows d = refl
stored_here source stream partition (o ∷ os) rows d =
    stored_here source stream partition os (set_row (row_for source stream o) rows) d.1
    ∙ rw (stored_set source stream partition (row_for source stream o) rows, text_same source source refl, text_same stream stream refl)
    (elim (cases_Bool (o.partition == partition)) [
      | inl on ↦ rw (on, not_listed o.partition partition os on d.0) refl
      | inr off ↦ rw off refl
    ])

-- ---- a stream's rows go

stored_cleared_rest : (source stream : List ℕ) (partition : ℕ) (r : OffsetRow) (rs : List OffsetRow) (b : Bool) → is_of_stream source stream r ≡ b → stored (cleared rs source stream) source stream partition ≡ None
    → stored (cond (not b) (r ∷ cleared rs source stream) (cleared rs source stream)) source stream partition ≡ None
stored_cleared_rest source stream partition r rs true e h = h
stored_cleared_rest source stream partition r rs false e h = rw e h

-- the stream has nothing
stored_cleared : (source stream : List ℕ) (partition : ℕ) (rows : List OffsetRow) → stored (cleared rows source stream) source stream partition ≡ None
stored_cleared source stream partition [] = refl
stored_cleared source stream partition (r ∷ rs) = stored_cleared_rest source stream partition r rs _ refl (stored_cleared source stream partition rs)

not_of_both : (source stream s t : List ℕ) (r : OffsetRow) → (bytes_eq s source && bytes_eq t stream) ≡ false → is_of_stream s t r ≡ true → is_of_stream source stream r ≡ false
not_of_both source stream s t r e on =
    let a = and_parts (bytes_eq r.source s) (bytes_eq r.stream t) on in
    rw (same_text r.source s a.0, same_text r.stream t a.1) e

-- other streams have what they had
pub stored_uncleared : (source stream : List ℕ) (partition : ℕ) (s t : List ℕ) (rows : List OffsetRow) → (bytes_eq s source && bytes_eq t stream) ≡ false → stored (cleared rows s t) source stream partition ≡ stored rows source stream partition
stored_uncleared source stream partition s t [] e = refl
stored_uncleared source stream partition s t (r ∷ rs) e = rest (is_of_stream s t r) refl (stored_uncleared source stream partition s t rs e) where
  rest : (b : Bool) → is_of_stream s t r ≡ b → stored (cleared rs s t) source stream partition ≡ stored rs source stream partition → stored (cond (not b) (r ∷ cleared rs s t) (cleared rs s t)) source stream partition ≡ stored (r ∷ rs) source stream partition
  rest true on h = rw (not_of_both source stream s t r e on) h
  rest false off h = elim (is_at source stream partition r) as (λ b. offset_in (cond b (Some r) (find (is_at source stream partition) (cleared rs s t))) ≡ offset_in (cond b (Some r) (find (is_at source stream partition) rs))) [ true ↦ refl | false ↦ h ]

-- ---- after ranges are published, and after a reset

listed_ends : (partition : ℕ) (parts : List Range) → listed partition (map end_of parts) ≡ end_in (part_at partition parts)
listed_ends partition [] = refl
listed_ends partition (r ∷ rs) =
    elim (r.partition == partition) as (λ b. cond b (Some r.end) (listed partition (map end_of rs)) ≡ end_in (cond b (Some r) (part_at partition rs)))
    [ true ↦ refl | false ↦ listed_ends partition rs ]

pub stored_advanced : (rows : List OffsetRow) (s t : List ℕ) (parts : List Range) → HasDistinctParts parts → (source stream : List ℕ) (partition : ℕ)
    → stored (advance rows s t parts) source stream partition ≡ cond (bytes_eq s source && bytes_eq t stream) (or_else (end_in (part_at partition parts)) (stored rows source stream partition)) (stored rows source stream partition)
stored_advanced rows s t parts d source stream partition = elim (cases_Bool (bytes_eq s source && bytes_eq t stream)) [
  | inr off ↦ rw (stored_elsewhere source stream partition s t (map end_of parts) rows off, off) refl
  | inl on ↦ rw on (here (and_parts (bytes_eq s source) (bytes_eq t stream) on))
] where
  here : (bytes_eq s source ≡ true) × (bytes_eq t stream ≡ true) → stored (advance rows s t parts) source stream partition ≡ or_else (end_in (part_at partition parts)) (stored rows source stream partition)
  here both = rw (same_text s source both.0, same_text t stream both.1, stored_here source stream partition (map end_of parts) rows (distinct_ends parts d), listed_ends partition parts) refl

or_none : (o : Option ℕ) → or_else o None ≡ o
or_none None = refl
or_none (Some x) = refl

pub stored_reset : (rows : List OffsetRow) (s t : List ℕ) (os : List Offset) → HasDistinctPartitions os → (source stream : List ℕ) (partition : ℕ)
    → stored (reset_to rows s t os) source stream partition ≡ cond (bytes_eq s source && bytes_eq t stream) (listed partition os) (stored rows source stream partition)
stored_reset rows s t os d source stream partition = elim (cases_Bool (bytes_eq s source && bytes_eq t stream)) [
  | inr off ↦ rw (stored_elsewhere source stream partition s t os (cleared rows s t) off, stored_uncleared source stream partition s t rows off, off) refl
  | inl on ↦ rw on (here (and_parts (bytes_eq s source) (bytes_eq t stream) on))
] where
  here : (bytes_eq s source ≡ true) × (bytes_eq t stream ≡ true) → stored (reset_to rows s t os) source stream partition ≡ listed partition os
  here both = rw (same_text s source both.0, same_text t stream both.1, stored_here source stream partition os (cleared rows source stream) d, stored_cleared source stream partition rows, or_none) refl
