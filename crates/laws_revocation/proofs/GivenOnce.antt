-- Chunks go on, and ids are given once.
use Rattle.std.proofs.Common.{◌≡◌, ℕ, ◌≤◌, ◌&&◌, not, Bool, true, false, cond, List, [], ◌∷◌, ◌++◌, map, filter, Ok, Option, refl, sym, ◌∙◌, inl, inr, subst, arith, nat_lt}
use Rattle.std.specs.List.{list_all}
use Rattle.std.specs.Prelude.{Some, None}
use Rattle.std.proofs.lemmas.Bool.{and_parts, cases_Bool, false≢true}
use Rattle.seg_names.specs.Ids.{same_id}
use Rattle.seg_names.specs.Names.{is_task_id}
use Rattle.seg_names.specs.declared.seg_id.SegId.{SegId}
use Rattle.book_rows.specs.Allocation.{allotted_chunks, allotted_id, allotted_row, bumped, chunk_of, is_of_chunk, new_chunk, next_of, with_chunk}
use Rattle.book_rows.specs.Answer.{book_after, empty_book, next}
use Rattle.book_rows.specs.Form.{AllKeepForm, are_ids, are_lists, are_ranges_of, are_spans, is_some_few, keeps_form}
use Rattle.book_rows.specs.Ids.{is_listed}
use Rattle.book_rows.specs.Lists.{In, gathered, is_empty, list_links, stands_in}
use Rattle.book_rows.specs.Locks.{ends_at}
use Rattle.book_rows.specs.Over.{Replacing, Target, check_over}
use Rattle.book_rows.specs.Publications.{Publish}
use Rattle.book_rows.specs.Rewrite.{chunk_for, copies_of, how_many}
use Rattle.book_rows.specs.Spans.{is_span, span_at_most}
use Rattle.book_rows.specs.declared.answers.NewPending.{NewPending}
use Rattle.book_rows.specs.declared.commands.Command.{Command}
use Rattle.book_rows.specs.declared.rows.Book.{Book}
use Rattle.book_rows.specs.declared.rows.ChunkRow.{ChunkRow}
use Rattle.book_rows.specs.declared.rows.PendingRow.{PendingRow}
use Rattle.book_rows.specs.declared.rows.TaskRow.{TaskRow}
use Rattle.book_rows.specs.Sound.{Sound}
use Rattle.laws_chunks.proofs.AllottedIds.{of_chunk_from, of_chunk_means}
use Rattle.laws_chunks.proofs.LookUps.{find_none, find_some}
use Rattle.laws_chunks.proofs.OnceAdded.{distinct_ids}
use Rattle.laws_chunks.proofs.SoundChunks.{sound_has_sound_chunks}
use Rattle.laws_chunks.proofs.Members.{In-append, In-filter, In-left, map_In, all_from_In, pairs_append, pairs_filter, pairs_push}
use Rattle.laws_chunks.proofs.Spans.{same_id_means}
use Rattle.laws_revocation.specs.GivenIds.{AreGiven, ChunksGoOn, GivenIdsComeNoMore, GivenPendingsStay, GivenStays, IsLaterChunk, NextPartsGrow, ReachedHasGivenPendings, SoundHasGivenPendings, is_given, next_part}
use Rattle.laws_revocation.specs.LockNumbers.{AreNumbered, HasNumbers}
use Rattle.laws_revocation.proofs.CheckedCopies.{copies_differ, copy_is_given, copy_is_new}
use Rattle.laws_revocation.proofs.ChunkSearch.{allotted_is_given, allotted_is_new, given_more, is_below, more_by, next_allotted, next_more}
use Rattle.laws_revocation.proofs.EachStep.{after_keeps, next_keeps}
use Rattle.laws_revocation.proofs.Facts.{Fact, IsKept, Of}
use Rattle.laws_revocation.proofs.Numbering.{numbered_kept, reached_has_numbers}

-- ---- each chunk row goes on

no_less_than : (low n m : ℕ) → low ≤ n → n ≤ m → low ≤ m
no_less_than low n m h k = omega arith

-- the row is there later
abbrev HasLater : ChunkRow → List ChunkRow → Type 0
HasLater c cs = (d : ChunkRow) × In d cs × IsLaterChunk c d

later_more : (c : ChunkRow) (cs ds : List ChunkRow) → HasLater c cs → HasLater c (cs ++ ds)
later_more c cs ds h = (h.0, In-left h.0 cs ds h.1, h.2)

later_with : (c : ChunkRow) (x : SegId) (r : Option ChunkRow) (cs : List ChunkRow) → HasLater c cs → HasLater c (with_chunk x r cs)
later_with c x (Some d) cs h = h
later_with c x None cs h = later_more c cs (new_chunk x ∷ []) h

later_bumped : (c : ChunkRow) (x : SegId) (cs : List ChunkRow) → HasLater c cs → HasLater c (map (bumped x) cs)
later_bumped c x cs h = (
  bumped x h.0,
  map_In (bumped x) h.0 cs h.1,
  record {
    source_is = h.2.source_is;
    span_is = h.2.span_is;
    version_is = h.2.version_is;
    core_is = h.2.core_is;
    grows = no_less_than c.next h.0.next (bumped x h.0).next h.2.grows (more_by h.0.next (cond (is_of_chunk h.0 x) 1 0));
  },
)

module _ (c : ChunkRow) where
  abbrev later_fact : Fact
  later_fact next qs ps cs = HasLater c cs

  later_kept : IsKept (λ c. Unit {0}) later_fact
  later_kept = record {
    members = λ ms next qs ps cs h. h;
    revoked = λ ns next qs ps cs h. h;
    made = λ q next qs ps cs new h. h;
    left = λ n task next qs ps cs h. h;
    allotted = λ n next qs ps cs lock h. later_bumped c (allotted_id cs n) (with_chunk (allotted_id cs n) (chunk_of (allotted_id cs n) cs) cs) (later_with c (allotted_id cs n) (chunk_of (allotted_id cs n) cs) cs h);
    appended = λ ids next qs ps cs h. h;
    inserted = λ b t task given xs form e h. later_more c b.chunks (map (chunk_for t.source given.ids 0) xs) h;
    replaced = λ b t task given xs form e h. later_more c b.chunks (map (λ x. chunk_for t.source given.ids (how_many (copies_of b t given.ids x)) x) xs) h;
  }

pub chunks_go_on : ChunksGoOn
chunks_go_on b cs c i = after_keeps (later_fact c) (later_kept c) b cs (c, i, record { source_is = refl; span_is = refl; version_is = refl; core_is = refl; grows = itself c.next }) where
  itself : (n : ℕ) → n ≤ n
  itself n = omega arith

-- ---- the next part of an id's chunk

module _ (low : ℕ) (a : SegId) where
  abbrev grown_fact : Fact
  grown_fact next qs ps cs = low ≤ next_part cs a

  grown_kept : IsKept (λ c. Unit {0}) grown_fact
  grown_kept = record {
    members = λ ms next qs ps cs h. h;
    revoked = λ ns next qs ps cs h. h;
    made = λ q next qs ps cs new h. h;
    left = λ n task next qs ps cs h. h;
    allotted = λ n next qs ps cs lock h. no_less_than low (next_part cs a) (next_part (allotted_chunks (allotted_id cs n) cs) a) h (next_allotted (allotted_id cs n) a cs);
    appended = λ ids next qs ps cs h. h;
    inserted = λ b t task given xs form e h.
        no_less_than low (next_part b.chunks a) (next_part (b.chunks ++ map (chunk_for t.source given.ids 0) xs) a) h (next_more b.chunks (map (chunk_for t.source given.ids 0) xs) a);
    replaced = λ b t task given xs form e h.
        no_less_than low (next_part b.chunks a) (next_part (b.chunks ++ map (λ x. chunk_for t.source given.ids (how_many (copies_of b t given.ids x)) x) xs) a) h
        (next_more b.chunks (map (λ x. chunk_for t.source given.ids (how_many (copies_of b t given.ids x)) x) xs) a);
  }

pub next_parts_grow : NextPartsGrow
next_parts_grow b cs a = after_keeps (grown_fact (next_part b.chunks a) a) (grown_kept (next_part b.chunks a) a) b cs (itself (next_part b.chunks a)) where
  itself : (n : ℕ) → n ≤ n
  itself n = omega arith

pub given_stays : GivenStays
given_stays b cs a e = given_more b.chunks (book_after b cs).chunks a (next_parts_grow b cs a) e

-- ---- commands that keep their form

abbrev pub Formed : Command → Type 0
Formed c = keeps_form c ≡ true

pub formed_after : (fact : Fact) → IsKept Formed fact → (b : Book) (cs : List Command) → AllKeepForm cs → Of fact b → Of fact (book_after b cs)
formed_after fact kept b [] forms h = h
formed_after fact kept b (c ∷ cs) forms h =
    let both = and_parts (keeps_form c) (list_all keeps_form cs) forms in
    formed_after fact kept (next b c) cs both.1 (next_keeps Formed fact kept b c both.0 h)

-- the spans of an insert or a replacement
pub listed_spans : (task : List ℕ) (given : Publish) → (is_task_id task && are_lists given.spans given.ids given.tombstones given.ranges) ≡ true → list_all is_span given.spans ≡ true
listed_spans task given h =
    let lists = (and_parts (is_task_id task) (are_lists given.spans given.ids given.tombstones given.ranges) h).1 in
    let four = (and_parts (are_spans given.spans && are_ids given.ids && are_ids given.tombstones && not (is_empty given.ids && is_empty given.tombstones)) (are_ranges_of given.ranges) lists).0 in
    let three = (and_parts (are_spans given.spans && are_ids given.ids && are_ids given.tombstones) (not (is_empty given.ids && is_empty given.tombstones)) four).0 in
    let two = (and_parts (are_spans given.spans && are_ids given.ids) (are_ids given.tombstones) three).0 in
    let one = (and_parts (are_spans given.spans) (are_ids given.ids) two).0 in
    (and_parts (is_some_few given.spans) (list_all is_span given.spans) (and_parts (is_some_few given.spans && list_all is_span given.spans) (list_links span_at_most given.spans) one).0).1

-- ---- each pending's id was given, and no two have one

-- in a sound book its chunk row is there, with a next part above its own
given_where_sound : (b : Book) (p : PendingRow) → Sound b → In p b.pendings → (r : Option ChunkRow) → chunk_of p.id b.chunks ≡ r → nat_lt p.id.part (next_of r) ≡ true
given_where_sound b p h i None e =
    let w = (sound_has_sound_chunks b h).shape.chunk_rows p.id (inr (p, i, refl)) in
    absurd (false≢true (sym (find_none (λ c. is_of_chunk c p.id) b.chunks e w.0 w.1) ∙ of_chunk_from w.0 p.id w.2))
given_where_sound b p h i (Some d) e =
    let w = find_some (λ c. is_of_chunk c p.id) b.chunks d e in
    is_below p.id.part d.next ((sound_has_sound_chunks b h).shape.parts p d i w.0 (of_chunk_means d p.id w.1))

pub sound_has_given_pendings : SoundHasGivenPendings
sound_has_given_pendings b h = record { given = λ p i. given_where_sound b p h i (chunk_of p.id b.chunks) refl; distinct = distinct_ids b.pendings b.publications (sound_has_sound_chunks b h).shape.once }

given_with : (cs ds : List ChunkRow) (ps : List PendingRow) → ((a : SegId) → next_part cs a ≤ next_part ds a) → AreGiven cs ps → AreGiven ds ps
given_with cs ds ps grows h = record { given = λ p i. given_more cs ds p.id (grows p.id) (h.given p i); distinct = h.distinct }

given_filter : (test : PendingRow → Bool) (cs : List ChunkRow) (ps : List PendingRow) → AreGiven cs ps → AreGiven cs (filter test ps)
given_filter test cs ps h = record { given = λ p i. h.given p (In-filter test p ps i).0; distinct = pairs_filter (λ p q. same_id p.id q.id ≡ false) test ps h.distinct }

-- an id that was given isn't one that wasn't
given_differs : (cs : List ChunkRow) (a c : SegId) → is_given cs a ≡ true → is_given cs c ≡ false → same_id a c ≡ false
given_differs cs a c h e = elim (cases_Bool (same_id a c)) [
  | inr off ↦ off
  | inl on ↦ absurd (false≢true (sym e ∙ subst (λ (x : SegId). is_given cs x ≡ true) (same_id_means a c on) h))
]

given_allotted : (n : NewPending) (cs : List ChunkRow) (ps : List PendingRow) → AreGiven cs ps → AreGiven (allotted_chunks (allotted_id cs n) cs) (ps ++ allotted_row (allotted_id cs n) n ∷ [])
given_allotted n cs ps h =
    let a = allotted_id cs n in
    let new : PendingRow = allotted_row a n in
    record {
      given = λ p i. elim (In-append p ps (new ∷ []) i) [
        | inl old ↦ given_more cs (allotted_chunks a cs) p.id (next_allotted a p.id cs) (h.given p old)
        | inr (inl same) ↦ subst (λ (q : PendingRow). is_given (allotted_chunks a cs) q.id ≡ true) (sym same) (allotted_is_given n cs)
        | inr (inr none) ↦ absurd none
      ];
      distinct = pairs_push (λ p q. same_id p.id q.id ≡ false) ps new h.distinct (all_from_In (λ p. same_id p.id new.id ≡ false) ps (λ p i. given_differs cs p.id a (h.given p i) (allotted_is_new n cs)));
    }

abbrev copies_now : Book → TaskRow → List SegId → List Target → List PendingRow
copies_now b t ids xs = gathered (λ x. (copies_of b t ids x).pendings) xs

abbrev chunks_now : Book → TaskRow → List SegId → List Target → List ChunkRow
chunks_now b t ids xs = b.chunks ++ map (λ x. chunk_for t.source ids (how_many (copies_of b t ids x)) x) xs

given_replaced : (b : Book) (t : TaskRow) (what : Publish) (xs : List Target) → HasNumbers b → list_all is_span what.spans ≡ true → check_over Replacing b what t ≡ Ok xs
    → AreGiven b.chunks b.pendings → AreGiven (chunks_now b t what.ids xs) (b.pendings ++ copies_now b t what.ids xs)
given_replaced b t what xs numbers proper ok h = record {
  given = λ p i. elim (In-append p b.pendings (copies_now b t what.ids xs) i) [
    | inl old ↦ given_more b.chunks (chunks_now b t what.ids xs) p.id (next_more b.chunks (map (λ x. chunk_for t.source what.ids (how_many (copies_of b t what.ids x)) x) xs) p.id) (h.given p old)
    | inr new ↦ copy_is_given b t what xs proper ok p new
  ];
  distinct = pairs_append (λ p q. same_id p.id q.id ≡ false) b.pendings (copies_now b t what.ids xs) h.distinct (copies_differ b t what xs proper ok)
      (λ p q i j. given_differs b.chunks p.id q.id (h.given p i) (copy_is_new b t what xs proper ok q j));
}

abbrev given_fact : Fact
given_fact next qs ps cs = AreNumbered next qs × AreGiven cs ps

given_kept : IsKept Formed given_fact
given_kept = record {
  members = λ ms next qs ps cs h. ((numbered_kept Formed).members ms next qs ps cs h.0, h.1);
  revoked = λ ns next qs ps cs h. ((numbered_kept Formed).revoked ns next qs ps cs h.0, given_filter (λ p. not (stands_in ns p.posse)) cs ps h.1);
  made = λ q next qs ps cs new h. ((numbered_kept Formed).made q next qs ps cs new h.0, h.1);
  left = λ n task next qs ps cs h. ((numbered_kept Formed).left n task next qs ps cs h.0, given_filter (λ p. not (ends_at n task qs p.posse)) cs ps h.1);
  allotted = λ n next qs ps cs lock h. (h.0, given_allotted n cs ps h.1);
  appended = λ ids next qs ps cs h. (h.0, given_filter (λ p. not (is_listed ids p.root)) cs ps h.1);
  inserted = λ b t task given xs form e h.
      (h.0, given_with b.chunks (b.chunks ++ map (chunk_for t.source given.ids 0) xs) b.pendings (λ a. next_more b.chunks (map (chunk_for t.source given.ids 0) xs) a) h.1);
  replaced = λ b t task given xs form e h. (h.0, given_replaced b t given xs h.0 (listed_spans task given form) e h.1);
}

pub given_pendings_stay : GivenPendingsStay
given_pendings_stay b cs forms numbers h = (formed_after given_fact given_kept b cs forms (numbers, h)).1

pub reached_has_given_pendings : ReachedHasGivenPendings
reached_has_given_pendings cs forms = given_pendings_stay empty_book cs forms (reached_has_numbers []) (record { given = λ p i. absurd i; distinct = tt })

-- ---- an id that was given comes no more

module _ (a : SegId) (before : List PendingRow) where
  -- it was given, and a pending of it is one of before
  abbrev AreOld : List PendingRow → Type 0
  AreOld ps = (p : PendingRow) → In p ps → p.id ≡ a → In p before

  abbrev old_fact : Fact
  old_fact next qs ps cs = AreNumbered next qs × (is_given cs a ≡ true) × AreOld ps

  old_filter : (test : PendingRow → Bool) (ps : List PendingRow) → AreOld ps → AreOld (filter test ps)
  old_filter test ps h p i e = h p (In-filter test p ps i).0 e

  -- what is added has ids that weren't given
  old_more : (cs : List ChunkRow) (ps more : List PendingRow) → is_given cs a ≡ true → ((p : PendingRow) → In p more → is_given cs p.id ≡ false) → AreOld ps → AreOld (ps ++ more)
  old_more cs ps more given new h p i e = elim (In-append p ps more i) [
    | inl old ↦ h p old e
    | inr j ↦ absurd (false≢true (sym (new p j) ∙ subst (λ (x : SegId). is_given cs x ≡ true) (sym e) given))
  ]

  only_new : (n : NewPending) (cs : List ChunkRow) (p : PendingRow) → In p (allotted_row (allotted_id cs n) n ∷ []) → is_given cs p.id ≡ false
  only_new n cs p (inl same) = subst (λ (q : PendingRow). is_given cs q.id ≡ false) (sym same) (allotted_is_new n cs)
  only_new n cs p (inr none) = absurd none

  old_kept : IsKept Formed old_fact
  old_kept = record {
    members = λ ms next qs ps cs h. ((numbered_kept Formed).members ms next qs ps cs h.0, h.1, h.2);
    revoked = λ ns next qs ps cs h. ((numbered_kept Formed).revoked ns next qs ps cs h.0, h.1, old_filter (λ p. not (stands_in ns p.posse)) ps h.2);
    made = λ q next qs ps cs new h. ((numbered_kept Formed).made q next qs ps cs new h.0, h.1, h.2);
    left = λ n task next qs ps cs h. ((numbered_kept Formed).left n task next qs ps cs h.0, h.1, old_filter (λ p. not (ends_at n task qs p.posse)) ps h.2);
    allotted = λ n next qs ps cs lock h. (
      h.0,
      given_more cs (allotted_chunks (allotted_id cs n) cs) a (next_allotted (allotted_id cs n) a cs) h.1,
      old_more cs ps (allotted_row (allotted_id cs n) n ∷ []) h.1 (only_new n cs) h.2,
    );
    appended = λ ids next qs ps cs h. (h.0, h.1, old_filter (λ p. not (is_listed ids p.root)) ps h.2);
    inserted = λ b t task given xs form e h.
        (h.0, given_more b.chunks (b.chunks ++ map (chunk_for t.source given.ids 0) xs) a (next_more b.chunks (map (chunk_for t.source given.ids 0) xs) a) h.1, h.2);
    replaced = λ b t task given xs form e h. (
      h.0,
      given_more b.chunks (chunks_now b t given.ids xs) a (next_more b.chunks (map (λ x. chunk_for t.source given.ids (how_many (copies_of b t given.ids x)) x) xs) a) h.1,
      old_more b.chunks b.pendings (copies_now b t given.ids xs) h.1 (λ p i. copy_is_new b t given xs (listed_spans task given form) e p i) h.2,
    );
  }

pub given_ids_come_no_more : GivenIdsComeNoMore
given_ids_come_no_more b cs p forms numbers given i = (formed_after (old_fact p.id b.pendings) (old_kept p.id b.pendings) b cs forms (numbers, given, λ q j e. j)).2 p i refl
