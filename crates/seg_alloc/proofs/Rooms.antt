-- The room in the tables of a book, by the numbers of their rows.
use Rattle.std.proofs.Common.{Bool, List, None, Option, Some, [], ap, arith, cond, false, filter, inl, inr, length, map, nat_lt, not, refl, subst, sym, true, ℕ, ◌&&◌, ◌++◌, ◌+◌, ◌<◌, ◌∙◌, ◌∷◌, ◌≡◌}
use Rattle.std.proofs.lemmas.Bool.{cases_Bool, false≢true}
use Rattle.std.proofs.lemmas.List.{length-map, length_push}
use Rattle.std.specs.List.{list_any}
use Rattle.std.specs.Option.{option_map}
use Rattle.std.specs.Prelude.{unwrap_or}
use Rattle.seg_names.specs.declared.seg_id.SegId.{SegId}
use Rattle.book_rows.specs.Allocation.{allotted, allotted_chunks, allotted_id, allotted_row, bumped, chunk_of, is_of_chunk, new_chunk, with_chunk}
use Rattle.book_rows.specs.Lists.{In, stands_in}
use Rattle.book_rows.specs.Locks.{stripped}
use Rattle.book_rows.specs.Outcome.{all_tables, is_full, no_room, part_limit, row_limit}
use Rattle.book_rows.specs.Shape.{AreDistinct, same_chunk_row}
use Rattle.book_rows.specs.declared.answers.NewPending.{NewPending}
use Rattle.book_rows.specs.declared.kinds.Table.{Table}
use Rattle.book_rows.specs.declared.kinds.Table.TheVariants as Tables
use Rattle.book_rows.specs.declared.rows.Book.{Book}
use Rattle.book_rows.specs.declared.rows.ChunkRow.{ChunkRow}
use Rattle.book_rows.specs.declared.rows.PendingRow.{PendingRow}
use Rattle.laws_chunks.proofs.LookUps.{find_none, find_some}
use Rattle.laws_locks.proofs.Lists.{In-append, In-map, In-right, any_In, any_from_In, both_true, filter_length, map_In, none_In}
use Rattle.tab_pending.specs.Searches.{is_of_one}
use Rattle.tab_segments.specs.SegmentRows.{chunk_id}
use Rattle.seg_alloc.specs.Room.{AreWithin, count_after, is_last, next_part, no_room_for, own_tables, too_full, with_tables}
use Rattle.seg_alloc.proofs.PartsGiven.{bumped_other, bumped_own, filter_kept, given_first, only_row}

-- the first table that fails, by the tests of the three
abbrev by_tests : Bool → Bool → Bool → Option Table
by_tests chunks parts pendings = cond chunks (Some Tables.Chunks) (cond parts (Some Tables.Parts) (cond pendings (Some Tables.Pendings) None))

abbrev has_too_many : ChunkRow → Bool
has_too_many c = nat_lt part_limit c.next

-- ---- the chunks

count_is : (a : SegId) (o : Option ChunkRow) (cs : List ChunkRow) → count_after (option_map (λ (c : ChunkRow). c.next) o) (length cs) ≡ length (map (bumped a) (with_chunk a o cs))
count_is a None cs = sym (length-map (cs ++ new_chunk a ∷ []) (bumped a) ∙ length_push cs (new_chunk a))
count_is a (Some c) cs = sym (length-map cs (bumped a))

-- ---- the parts

module _ (a : SegId) (cs : List ChunkRow) (none : list_any has_too_many cs ≡ false) where
  first_parts : (d : ChunkRow) → list_any has_too_many (cs ++ d ∷ []) ≡ has_too_many d
  first_parts d = both_true (list_any has_too_many (cs ++ d ∷ [])) (has_too_many d) to from where
    to : list_any has_too_many (cs ++ d ∷ []) ≡ true → has_too_many d ≡ true
    to on =
        let w = any_In has_too_many (cs ++ d ∷ []) on in
        elim (In-append w.0 cs (d ∷ []) w.1) [
          | inl i ↦ absurd (false≢true (sym (none_In has_too_many w.0 cs i none) ∙ w.2))
          | inr (inl is) ↦ subst (λ (c : ChunkRow). has_too_many c ≡ true) is w.2
          | inr (inr i) ↦ absurd i
        ]

    from : has_too_many d ≡ true → list_any has_too_many (cs ++ d ∷ []) ≡ true
    from on = any_from_In has_too_many d (cs ++ d ∷ []) (In-right d cs (d ∷ []) (inl refl)) on

  module _ (distinct : AreDistinct same_chunk_row cs) where
    module _ (c : ChunkRow) (found : chunk_of a cs ≡ Some c) where
      of_own : (d : ChunkRow) → In d cs → has_too_many (bumped a d) ≡ true → nat_lt part_limit (c.next + 1) ≡ true
      of_own d i on = elim (cases_Bool (is_of_chunk d a)) [
        | inl same ↦
            ap (λ (e : ChunkRow). nat_lt part_limit (e.next + 1)) (only_row a cs distinct c found d i same)
            ∙ (sym (ap has_too_many (bumped_own a d same)) ∙ on)
        | inr other ↦ absurd (false≢true (sym (none_In has_too_many d cs i none) ∙ (sym (ap has_too_many (bumped_other a d other)) ∙ on)))
      ]

      more_parts : list_any has_too_many (map (bumped a) cs) ≡ nat_lt part_limit (c.next + 1)
      more_parts = both_true (list_any has_too_many (map (bumped a) cs)) (nat_lt part_limit (c.next + 1)) to from where
        to : list_any has_too_many (map (bumped a) cs) ≡ true → nat_lt part_limit (c.next + 1) ≡ true
        to on =
            let w = any_In has_too_many (map (bumped a) cs) on in
            let m = In-map (bumped a) w.0 cs w.1 in
            of_own m.0 m.1 (sym (ap has_too_many m.2) ∙ w.2)

        from : nat_lt part_limit (c.next + 1) ≡ true → list_any has_too_many (map (bumped a) cs) ≡ true
        from on =
            let w = find_some (λ (e : ChunkRow). is_of_chunk e a) cs c found in
            any_from_In has_too_many (bumped a c) (map (bumped a) cs) (map_In (bumped a) c cs w.0) (ap has_too_many (bumped_own a c w.1) ∙ on)

    parts_by : (o : Option ChunkRow) → chunk_of a cs ≡ o → nat_lt part_limit (unwrap_or (option_map (λ (c : ChunkRow). c.next) o) 0 + 1) ≡ list_any has_too_many (allotted_chunks a cs)
    parts_by None e = sym (ap (list_any has_too_many) (sym (given_first a cs e)) ∙ first_parts (record (new_chunk a) { next = 1 }))
    parts_by (Some c) e = sym (ap (λ (o : Option ChunkRow). list_any has_too_many (map (bumped a) (with_chunk a o cs))) e ∙ more_parts c e)

    parts_are : nat_lt part_limit (unwrap_or (option_map (λ (c : ChunkRow). c.next) (chunk_of a cs)) 0 + 1) ≡ list_any has_too_many (allotted_chunks a cs)
    parts_are = parts_by (chunk_of a cs) refl

-- ---- the book after

module _ (n : NewPending) (cs : List ChunkRow) (ps : List PendingRow) where
  abbrev own_chunk : SegId
  own_chunk = chunk_id n.source n.span n.version

  abbrev too_many_chunks : Bool
  too_many_chunks = nat_lt row_limit (length (allotted_chunks own_chunk cs))

  abbrev too_many_parts : Bool
  too_many_parts = nat_lt part_limit (unwrap_or (next_part cs n) 0 + 1)

  -- what is told of the table is the same
  pub told_full : (next : Option ℕ) (count : ℕ) (last : Bool) → next ≡ next_part cs n → count ≡ length cs → last ≡ is_last (length ps) → too_full next count last ≡ no_room_for n cs ps
  told_full next count last e f g = λ i. too_full (e i) (f i) (g i)

  -- where no chunk has too many parts, the rules find the same table
  pub room_is : (b : Book) → AreDistinct same_chunk_row cs → list_any (λ (c : ChunkRow). nat_lt part_limit c.next) cs ≡ false → no_room_for n cs ps ≡ no_room own_tables (allotted n (with_tables cs ps b))
  room_is b distinct none =
      ap (λ (count : ℕ). by_tests (nat_lt row_limit count) too_many_parts (is_last (length ps))) (count_is own_chunk (chunk_of own_chunk cs) cs)
      ∙ (
      ap (λ (parts : Bool). by_tests too_many_chunks parts (is_last (length ps))) (parts_are own_chunk cs none distinct)
      ∙ ap (λ (count : ℕ). by_tests too_many_chunks (list_any has_too_many (allotted_chunks own_chunk cs)) (nat_lt row_limit count)) (sym (length_push ps (allotted_row (allotted_id cs n) n)))
      )

-- ---- pendings that go first

and_off : (b : Bool) → b && false ≡ false
and_off true = refl
and_off false = refl

and_on : (b : Bool) → b && true ≡ b
and_on true = refl
and_on false = refl

module _ {X : Type 0} (p : X → Bool) where
  all_stay : (xs : List X) → list_any p xs ≡ false → filter (λ x. not (p x)) xs ≡ xs
  all_stay xs none = filter_kept (λ x. not (p x)) xs (λ x i. ap not (none_In p x xs i none))

  some_go : (xs : List X) → list_any p xs ≡ true → length (filter (λ x. not (p x)) xs) < length xs
  some_go [] on = absurd (false≢true on)
  some_go (x ∷ xs) on = elim (cases_Bool (p x)) [
    | inl goes ↦ rw goes (omega (arith, filter_length (λ y. not (p y)) xs))
    | inr stays ↦ rw stays (omega (arith, some_go xs (rw stays at on)))
  ]

pub last_without : (ns : List ℕ) (ps : List PendingRow) → nat_lt row_limit (length ps) ≡ false → is_last (length ps) && not (list_any (is_of_one ns) ps) ≡ is_last (length (stripped (stands_in ns) ps))
last_without ns ps low = elim (cases_Bool (list_any (is_of_one ns) ps)) [
  | inl on ↦
      let fewer : length (stripped (stands_in ns) ps) < length ps = some_go (is_of_one ns) ps on in
      ap (λ (b : Bool). is_last (length ps) && not b) on ∙ (and_off (is_last (length ps)) ∙ sym (few (length (stripped (stands_in ns) ps)) (length ps) fewer low))
  | inr off ↦
      ap (λ (b : Bool). is_last (length ps) && not b) off
      ∙ (and_on (is_last (length ps)) ∙ ap (λ (qs : List PendingRow). is_last (length qs)) (sym (all_stay (is_of_one ns) ps off)))
] where
  few : (k m : ℕ) → k < m → nat_lt row_limit m ≡ false → nat_lt row_limit (k + 1) ≡ false
  few k m less low = grind arith

-- ---- tables that aren't too full

tests_of : (chunks parts pendings : Bool) → by_tests chunks parts pendings ≡ None → (chunks ≡ false) × (parts ≡ false) × (pendings ≡ false)
tests_of true parts pendings e = cc
tests_of false true pendings e = cc
tests_of false false true e = cc
tests_of false false false e = (refl, refl, refl)

module _ (cs : List ChunkRow) (ps : List PendingRow) (within : AreWithin cs ps) where
  all_tests : (nat_lt row_limit (length cs) ≡ false) × (list_any has_too_many cs ≡ false) × (nat_lt row_limit (length ps) ≡ false)
  all_tests = tests_of (nat_lt row_limit (length cs)) (list_any has_too_many cs) (nat_lt row_limit (length ps)) within

  pub few_parts : list_any (λ (c : ChunkRow). nat_lt part_limit c.next) cs ≡ false
  few_parts = all_tests.1

none_of : (chunks parts pendings : Bool) → chunks ≡ false → parts ≡ false → pendings ≡ false → by_tests chunks parts pendings ≡ None
none_of chunks parts pendings e f g = rw (e, f, g) refl

-- those of a book where no table is too full
pub within_book : (b : Book) → no_room all_tables b ≡ None → AreWithin b.chunks b.pendings
within_book b none =
    let room : (table : Table) → In table all_tables → is_full table b ≡ false = find_none (λ (table : Table). is_full table b) all_tables none in
    none_of (is_full Tables.Chunks b) (is_full Tables.Parts b) (is_full Tables.Pendings b)
    (room Tables.Chunks (inr (inr (inr (inl refl)))))
    (room Tables.Parts (inr (inr (inr (inr (inl refl))))))
    (room Tables.Pendings (inr (inr (inr (inr (inr (inr (inl refl))))))))
