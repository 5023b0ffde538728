-- What becomes of the chunks as a part is given.
use Rattle.std.proofs.Common.{Bool, List, None, Option, Some, [], ap, arith, cond, false, filter, find, inl, inr, map, not, refl, sym, true, ℕ, ◌++◌, ◌+◌, ◌∙◌, ◌∷◌, ◌≡◌}
use Rattle.std.proofs.lemmas.Bool.{cases_Bool, cond-true}
use Rattle.std.proofs.lemmas.List.{append-nil, map_push}
use Rattle.std.proofs.lemmas.List.Elements.{filter-append}
use Rattle.std.specs.Option.{option_map}
use Rattle.seg_names.specs.declared.seg_id.SegId.{SegId}
use Rattle.book_rows.specs.Allocation.{allotted_chunks, allotted_id, bumped, chunk_of, is_of_chunk, new_chunk, with_chunk}
use Rattle.book_rows.specs.Lists.{In}
use Rattle.book_rows.specs.Shape.{AreDistinct, same_chunk_row}
use Rattle.book_rows.specs.declared.answers.NewPending.{NewPending}
use Rattle.book_rows.specs.declared.rows.ChunkRow.{ChunkRow}
use Rattle.laws_chunks.proofs.AllottedIds.{of_chunk_from, of_chunk_means}
use Rattle.laws_chunks.proofs.ChunkRows.{one_row}
use Rattle.laws_chunks.proofs.LookUps.{find_none, find_some}
use Rattle.tab_segments.specs.SegmentRows.{SegmentRows, chunk_id, with_next}
use Rattle.seg_alloc.specs.Room.{next_part}

-- ---- lists

map_alike : {X Y : Type 0} (f g : X → Y) (xs : List X) → ((x : X) → In x xs → f x ≡ g x) → map f xs ≡ map g xs
map_alike f g [] h = refl
map_alike f g (x ∷ xs) h = rw (h x (inl refl), map_alike f g xs (λ y i. h y (inr i))) refl

map_kept : {X : Type 0} (f : X → X) (xs : List X) → ((x : X) → In x xs → f x ≡ x) → map f xs ≡ xs
map_kept f [] h = refl
map_kept f (x ∷ xs) h = rw (h x (inl refl), map_kept f xs (λ y i. h y (inr i))) refl

pub filter_kept : {X : Type 0} (p : X → Bool) (xs : List X) → ((x : X) → In x xs → p x ≡ true) → filter p xs ≡ xs
filter_kept p [] h = refl
filter_kept p (x ∷ xs) h = cond-true (p x) (x ∷ filter p xs) (filter p xs) (h x (inl refl)) ∙ ap (λ (ys : List _). x ∷ ys) (filter_kept p xs (λ y i. h y (inr i)))

-- ---- the rows of the chunk of an id, and others

plus_none : (n : ℕ) → n + 0 ≡ n
plus_none n = omega arith

module _ (a : SegId) where
  pub bumped_other : (c : ChunkRow) → is_of_chunk c a ≡ false → bumped a c ≡ c
  bumped_other c off = ap (λ (b : Bool). record c { next = c.next + cond b 1 0 }) off ∙ ap (λ (n : ℕ). record c { next = n }) (plus_none c.next)

  pub bumped_own : (c : ChunkRow) → is_of_chunk c a ≡ true → bumped a c ≡ record c { next = c.next + 1 }
  bumped_own c on = ap (λ (b : Bool). record c { next = c.next + cond b 1 0 }) on

  own_chunk : (c : ChunkRow) → c.source ≡ a.source → c.span ≡ a.span → c.version ≡ a.version → is_of_chunk c a ≡ true
  own_chunk c s x v = of_chunk_from c a (record { source_is = sym s; span_is = sym x; version_is = sym v })

  -- the chunk is there: its next part is set to one more
  module _ (cs : List ChunkRow) (distinct : AreDistinct same_chunk_row cs) (c : ChunkRow) (found : chunk_of a cs ≡ Some c) where
    pub only_row : (d : ChunkRow) → In d cs → is_of_chunk d a ≡ true → c ≡ d
    only_row d i on =
        let w = find_some (λ (e : ChunkRow). is_of_chunk e a) cs c found in
        one_row cs distinct c d a w.0 i (of_chunk_means c a w.1) (of_chunk_means d a on)

    set_or_bumped : (d : ChunkRow) → In d cs → with_next a (c.next + 1) d ≡ bumped a d
    set_or_bumped d i = elim (cases_Bool (is_of_chunk d a)) [
      | inl on ↦
          ap (λ (b : Bool). record d { next = cond b (c.next + 1) d.next }) on
          ∙ (ap (λ (e : ChunkRow). record d { next = e.next + 1 }) (only_row d i on) ∙ sym (bumped_own d on))
      | inr off ↦ ap (λ (b : Bool). record d { next = cond b (c.next + 1) d.next }) off ∙ sym (bumped_other d off)
    ]

    pub given_there : map (with_next a (c.next + 1)) cs ≡ allotted_chunks a cs
    given_there =
        map_alike (with_next a (c.next + 1)) (bumped a) cs set_or_bumped
        ∙ ap (λ (o : Option ChunkRow). map (bumped a) (with_chunk a o cs)) (sym found)

  -- the chunk isn't there: it is made with its first part
  module _ (cs : List ChunkRow) (none : chunk_of a cs ≡ None) where
    off_all : (d : ChunkRow) → In d cs → is_of_chunk d a ≡ false
    off_all d i = find_none (λ (e : ChunkRow). is_of_chunk e a) cs none d i

    pub given_first : cs ++ record (new_chunk a) { next = 1 } ∷ [] ≡ allotted_chunks a cs
    given_first =
        sym (
        ap (λ (o : Option ChunkRow). map (bumped a) (with_chunk a o cs)) none
        ∙ (
        map_push (bumped a) cs (new_chunk a)
        ∙ (
        ap (λ (ds : List ChunkRow). ds ++ bumped a (new_chunk a) ∷ []) (map_kept (bumped a) cs (λ d i. bumped_other d (off_all d i)))
        ∙ ap (λ (d : ChunkRow). cs ++ d ∷ []) (bumped_own (new_chunk a) (own_chunk (new_chunk a) refl refl refl))
        )
        )
        )

    pub taken_back : filter (λ (d : ChunkRow). not (is_of_chunk d a)) (cs ++ record (new_chunk a) { next = 1 } ∷ []) ≡ cs
    taken_back =
        let own : is_of_chunk (record (new_chunk a) { next = 1 }) a ≡ true = own_chunk (record (new_chunk a) { next = 1 }) refl refl refl in
        filter-append (λ (d : ChunkRow). not (is_of_chunk d a)) cs (record (new_chunk a) { next = 1 } ∷ [])
        ∙ (
        ap (λ (ds : List ChunkRow). ds ++ filter (λ (d : ChunkRow). not (is_of_chunk d a)) (record (new_chunk a) { next = 1 } ∷ [])) (filter_kept (λ (d : ChunkRow). not (is_of_chunk d a)) cs (λ d i. ap not (off_all d i)))
        ∙ (ap (λ (b : Bool). cs ++ cond (not b) (record (new_chunk a) { next = 1 } ∷ []) []) own ∙ append-nil cs)
        )

-- ---- the part that is given

module _ (cs : List ChunkRow) (n : NewPending) where
  abbrev own_id : ℕ → SegId
  own_id part = record { source = n.source; span = n.span; version = n.version; part = part }

  found_by : (o : Option ChunkRow) (part : ℕ) → option_map (λ (c : ChunkRow). c.next) o ≡ Some part → (c : ChunkRow) × (o ≡ Some c) × (c.next ≡ part)
  found_by None part e = cc
  found_by (Some c) part e = (c, refl, cc)

  pub chunk_found : (part : ℕ) → next_part cs n ≡ Some part → (c : ChunkRow) × (chunk_of (chunk_id n.source n.span n.version) cs ≡ Some c) × (c.next ≡ part)
  chunk_found part e = found_by (chunk_of (own_id 0) cs) part e

  none_by : (o : Option ChunkRow) → option_map (λ (c : ChunkRow). c.next) o ≡ None → o ≡ None
  none_by None e = refl
  none_by (Some c) e = cc

  pub no_chunk_found : next_part cs n ≡ None → chunk_of (chunk_id n.source n.span n.version) cs ≡ None
  no_chunk_found e = none_by (chunk_of (own_id 0) cs) e

-- ---- the table, by what the calls make of it

module _ (n : NewPending) (before : SegmentRows) where
  abbrev cs : List ChunkRow
  cs = before.chunks

  abbrev own : SegId
  own = chunk_id n.source n.span n.version

  -- the chunk that was there gives one part more
  pub part_given : (after : SegmentRows) (id : SegId) (part : ℕ) → AreDistinct same_chunk_row before.chunks → next_part before.chunks n ≡ Some part
      → id ≡ record { source = n.source; span = n.span; version = n.version; part = part }
      → after ≡ record before { chunks = map (with_next (chunk_id id.source id.span id.version) (part + 1)) before.chunks }
      → after ≡ record before { chunks = allotted_chunks (allotted_id before.chunks n) before.chunks }
  part_given after id part distinct next own_is set =
      let found = chunk_found cs n part next in
      set
      ∙ ap (λ (ds : List ChunkRow). record before { chunks = ds })
      (
      ap (λ (x : SegId). map (with_next (chunk_id x.source x.span x.version) (part + 1)) cs) own_is
      ∙ (ap (λ (k : ℕ). map (with_next own (k + 1)) cs) (sym found.2) ∙ given_there own cs distinct found.0 found.1)
      )

  module _ (made : SegmentRows) (id : SegId) (chunk : ChunkRow) (none : next_part before.chunks n ≡ None)
      (own_is : id ≡ record { source = n.source; span = n.span; version = n.version; part = 0 }) (first : chunk ≡ record (new_chunk id) { next = 1 })
      (added : made ≡ record before { chunks = before.chunks ++ chunk ∷ [] }) where
    first_is : chunk ≡ record (new_chunk own) { next = 1 }
    first_is = first ∙ ap (λ (x : SegId). record (new_chunk x) { next = 1 }) own_is

    -- the chunk comes with its first part
    pub first_given : made ≡ record before { chunks = allotted_chunks (allotted_id before.chunks n) before.chunks }
    first_given = added ∙ ap (λ (ds : List ChunkRow). record before { chunks = ds }) (ap (λ (d : ChunkRow). cs ++ d ∷ []) first_is ∙ given_first own cs (no_chunk_found cs n none))

    -- and goes again
    pub taken_out : (after : SegmentRows) → after ≡ record made { chunks = filter (λ (d : ChunkRow). not (is_of_chunk d (chunk_id id.source id.span id.version))) made.chunks } → after ≡ before
    taken_out after taken =
        taken
        ∙ (
        ap (λ (m : SegmentRows). record m { chunks = filter (λ (d : ChunkRow). not (is_of_chunk d (chunk_id id.source id.span id.version))) m.chunks }) added
        ∙ ap (λ (ds : List ChunkRow). record before { chunks = ds })
        (
        ap (λ (x : SegId). filter (λ (d : ChunkRow). not (is_of_chunk d (chunk_id x.source x.span x.version))) (cs ++ chunk ∷ [])) own_is
        ∙ (ap (λ (k : ChunkRow). filter (λ (d : ChunkRow). not (is_of_chunk d own)) (cs ++ k ∷ [])) first_is ∙ taken_back own cs (no_chunk_found cs n none))
        )
        )
