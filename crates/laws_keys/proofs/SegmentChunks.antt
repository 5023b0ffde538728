-- Each segment has its chunk row, with a next part above its own.
use Rattle.std.proofs.Common.{List, [], ap, arith, filter, inl, inr, length, map, refl, subst, sym, ℕ, ◌+◌, ◌++◌, ◌<◌, ◌∷◌, ◌≡◌}
use Rattle.seg_names.specs.declared.seg_id.SegId.{SegId}
use Rattle.book_rows.specs.Allocation.{allotted_id}
use Rattle.book_rows.specs.Answer.{next}
use Rattle.book_rows.specs.Append.{rows_of_root}
use Rattle.book_rows.specs.Ids.{is_of_span}
use Rattle.book_rows.specs.Lists.{In, gathered}
use Rattle.book_rows.specs.LockSteps.{pending_for}
use Rattle.book_rows.specs.Over.{Target}
use Rattle.book_rows.specs.Publications.{Publish, publication_of}
use Rattle.book_rows.specs.Rewrite.{after_insert, after_replace, chunk_for, copies_of, core_of, how_many, is_copied, is_taken_up, own_rows, pending_copy, unused, upgrade_copy}
use Rattle.book_rows.specs.Shape.{HasChunk, all_adds, all_empties}
use Rattle.book_rows.specs.Sound.{Sound}
use Rattle.book_rows.specs.declared.rows.Book.{Book}
use Rattle.book_rows.specs.declared.rows.ChunkRow.{ChunkRow}
use Rattle.book_rows.specs.declared.kinds.PubKind.TheVariants as PubKinds
use Rattle.book_rows.specs.declared.rows.PendingRow.{PendingRow}
use Rattle.book_rows.specs.declared.rows.Publication.{Publication}
use Rattle.book_rows.specs.declared.rows.SegmentRow.{SegmentRow}
use Rattle.book_rows.specs.declared.rows.TaskRow.{TaskRow}
use Rattle.laws_chunks.specs.ChunksSound.{AreChunksSound, HaveAddedChunks}
use Rattle.laws_chunks.proofs.CheckedCommands.{checked_insert_keeps, checked_replace_keeps}
use Rattle.laws_chunks.proofs.Members.{In-append, In-filter, In-left, In-map, In-right, map_In}
use Rattle.laws_chunks.proofs.NumberedRows.{length_numbered}
use Rattle.laws_chunks.proofs.PublishSteps.{IsKeptByPublishing}
use Rattle.laws_chunks.proofs.SoundChunks.{sound_has_sound_chunks}
use Rattle.laws_keys.specs.KeyLaws.{IdsStayInChunks}
use Rattle.laws_keys.proofs.GrownChunks.{allotted_has, more_has}
use Rattle.laws_keys.proofs.NewRows.{IsOwn, IsUpgradeCopy, appended_row, copy_at, own_at}
use Rattle.laws_keys.proofs.RowTables.{OfRows, chunks_after, of_book, rows_after}

abbrev SegmentChunks : OfRows
SegmentChunks cs rows pubs ps us = (r : SegmentRow) → In r rows → HasChunk cs r.id

-- ---- ids of the last publication

last_adds : (pubs : List Publication) (m : Publication) (a : SegId) → In a m.adds → In a (all_adds (pubs ++ m ∷ []))
last_adds [] m a i = In-left a m.adds [] i
last_adds (n ∷ pubs) m a i = In-right a n.adds (all_adds (pubs ++ m ∷ [])) (last_adds pubs m a i)

last_empties : (pubs : List Publication) (m : Publication) (a : SegId) → In a m.empties → In a (all_empties (pubs ++ m ∷ []))
last_empties [] m a i = In-left a m.empties [] i
last_empties (n ∷ pubs) m a i = In-right a n.empties (all_empties (pubs ++ m ∷ [])) (last_empties pubs m a i)

-- a segment of an id or a tombstone of the last publication
own_has : (cs : List ChunkRow) (pubs : List Publication) (m : Publication) (k : ℕ) (x : Target) (r : SegmentRow) → HaveAddedChunks cs (pubs ++ m ∷ []) → IsOwn k m.adds m.empties x r → HasChunk cs r.id
own_has cs pubs m k x r h (inl w) =
    subst (λ (r : SegmentRow). HasChunk cs r.id) (sym w.2)
    (h w.0 (In-left w.0 (all_adds (pubs ++ m ∷ [])) (all_empties (pubs ++ m ∷ [])) (last_adds pubs m w.0 (In-filter (is_of_span x.span) w.0 m.adds w.1).0)))
own_has cs pubs m k x r h (inr w) =
    subst (λ (r : SegmentRow). HasChunk cs r.id) (sym w.2)
    (h w.0 (In-right w.0 (all_adds (pubs ++ m ∷ [])) (all_empties (pubs ++ m ∷ [])) (last_empties pubs m w.0 (In-filter (is_of_span x.span) w.0 m.empties w.1).0)))

-- ---- copies

module _ (b : Book) (t : TaskRow) (ids : List SegId) (x : Target) where
  abbrev pub chunk_made : ChunkRow
  chunk_made = chunk_for t.source ids (how_many (copies_of b t ids x)) x

  -- as many parts as copies after the core
  copies_counted : how_many (copies_of b t ids x) ≡ length (filter (is_taken_up x.lock x.span) b.upgrades) + length (filter (is_copied t.source x.span) b.pendings)
  copies_counted = rw (
    length_numbered (upgrade_copy t.source x.span x.version (length b.publications)) (core_of ids x.span) (filter (is_taken_up x.lock x.span) b.upgrades),
    length_numbered (pending_copy t.source x.span x.version) (core_of ids x.span + length (filter (is_taken_up x.lock x.span) b.upgrades)) (filter (is_copied t.source x.span) b.pendings),
  ) refl

  copy_low : (r : SegmentRow) (w : IsUpgradeCopy b t ids x r) → r.id.part < chunk_made.next
  copy_low r w =
      let part : r.id.part ≡ w.place = ap (λ (r : SegmentRow). r.id.part) w.is in
      let high = w.high in
      let counted = copies_counted in
      omega (arith, part, high, counted)

  copy_has : (cs : List ChunkRow) (r : SegmentRow) → In chunk_made cs → IsUpgradeCopy b t ids x r → HasChunk cs r.id
  copy_has cs r i w = record {
    chunk = chunk_made;
    among = i;
    is_in = record { source_is = ap (λ (r : SegmentRow). r.id.source) w.is; span_is = ap (λ (r : SegmentRow). r.id.span) w.is; version_is = ap (λ (r : SegmentRow). r.id.version) w.is };
    below = copy_low r w;
  }

-- ---- the commands

module _ (b : Book) (s : Sound b) where
  chunks_before : (r : SegmentRow) → In r b.segments → HasChunk b.chunks r.id
  chunks_before r i = s.shape.chunks.segments r.id (map_In (λ (r : SegmentRow). r.id) r b.segments i)

  abbrev over : TaskRow → List Target → Publish → Publication
  over t xs given = publication_of PubKinds.Over t (map (λ x. record { span = x.span; since = 0 }) xs) given

  abbrev replacing : TaskRow → List Target → Publish → Publication
  replacing t xs given = publication_of PubKinds.Replace t (map (λ x. record { span = x.span; since = x.since }) xs) given

  chunks_appended : (ids : List SegId) (r : SegmentRow) → In r (b.segments ++ gathered (λ a. rows_of_root (length b.publications) a b.pendings) ids) → HasChunk b.chunks r.id
  chunks_appended ids r i = elim (In-append r b.segments (gathered (λ a. rows_of_root (length b.publications) a b.pendings) ids) i) [
    | inl old ↦ chunks_before r old
    | inr j ↦ (let w = appended_row (length b.publications) ids b.pendings r j in
        subst (λ (r : SegmentRow). HasChunk b.chunks r.id) (sym w.is) (s.shape.chunks.pendings w.pending.id (map_In (λ (p : PendingRow). p.id) w.pending b.pendings w.among)))
  ]

  chunks_inserted : (t : TaskRow) (xs : List Target) (given : Publish) → AreChunksSound (after_insert t given xs b) → (r : SegmentRow) → In r (after_insert t given xs b).segments → HasChunk (after_insert t given xs b).chunks r.id
  chunks_inserted t xs given after r i = elim (In-append r b.segments (gathered (λ x. own_rows (length b.publications) given.ids given.tombstones x.span) xs) i) [
    | inl old ↦ more_has b.chunks (map (chunk_for t.source given.ids 0) xs) r.id (chunks_before r old)
    | inr j ↦ (let w = own_at (length b.publications) given.ids given.tombstones xs r j in
        own_has (b.chunks ++ map (chunk_for t.source given.ids 0) xs) b.publications (over t xs given) (length b.publications) w.0 r after.shape.added w.2)
  ]

  chunks_replaced : (t : TaskRow) (xs : List Target) (given : Publish) → AreChunksSound (after_replace t given xs b) → (r : SegmentRow) → In r (after_replace t given xs b).segments → HasChunk (after_replace t given xs b).chunks r.id
  chunks_replaced t xs given after r i =
      elim (In-append r (b.segments ++ gathered (λ x. own_rows (length b.publications) given.ids given.tombstones x.span) xs) (gathered (λ x. (copies_of b t given.ids x).segments) xs) i) [
        | inl j ↦ elim (In-append r b.segments (gathered (λ x. own_rows (length b.publications) given.ids given.tombstones x.span) xs) j) [
          | inl old ↦ more_has b.chunks (map (chunk_made b t given.ids) xs) r.id (chunks_before r old)
          | inr own ↦ (let w = own_at (length b.publications) given.ids given.tombstones xs r own in
              own_has (b.chunks ++ map (chunk_made b t given.ids) xs) b.publications (replacing t xs given) (length b.publications) w.0 r after.shape.added w.2)
        ]
        | inr j ↦ (let w = copy_at b t given.ids xs r j in
            copy_has b t given.ids w.0 (b.chunks ++ map (chunk_made b t given.ids) xs) r (In-right (chunk_made b t given.ids w.0) b.chunks (map (chunk_made b t given.ids) xs) (map_In (chunk_made b t given.ids) w.0 xs w.1)) w.2)
      ]

  chunks_published : IsKeptByPublishing (of_book SegmentChunks) b
  chunks_published = record {
    pushed = λ m none clean free. chunks_before;
    allocated = λ r t x l other fresh found e s i. allotted_has (allotted_id b.chunks (pending_for t r x l)) b.chunks s.id (chunks_before s i);
    appended = λ t ids ranges distinct among fault. chunks_appended ids;
    inserted = λ t given xs proper ids_once tombs_once ok. chunks_inserted t xs given (checked_insert_keeps b t given xs proper ok (sound_has_sound_chunks b s));
    replaced = λ t given xs proper ids_once tombs_once ok. chunks_replaced t xs given (checked_replace_keeps b t given xs proper ok (sound_has_sound_chunks b s));
    dropped = λ source span fault r i. (let w = In-map (unused source span) r b.segments i in subst (λ (r : SegmentRow). HasChunk b.chunks r.id) (sym w.2) (chunks_before w.0 w.1));
  }

pub ids_stay_in_chunks : IdsStayInChunks
ids_stay_in_chunks b c form s =
    let rows = rows_after SegmentChunks (λ cs rows pubs ps us p u h. h) b c form (chunks_before b s) (chunks_published b s) in
    let sh = (chunks_after b c form s).shape in
    let after = next b c in
    record {
      segments = λ a i. (let w = In-map (λ (r : SegmentRow). r.id) a after.segments i in subst (HasChunk after.chunks) (sym w.2) (rows w.0 w.1));
      pendings = λ a i. (let w = In-map (λ (p : PendingRow). p.id) a after.pendings i in
          let c = sh.chunk_rows w.0.id (inr (w.0, w.1, refl)) in
          subst (HasChunk after.chunks) (sym w.2) (record { chunk = c.0; among = c.1; is_in = c.2; below = sh.parts w.0 c.0 w.1 c.1 c.2 }));
      adds = λ a i. sh.added a (In-left a (all_adds after.publications) (all_empties after.publications) i);
      empties = λ a i. sh.added a (In-right a (all_adds after.publications) (all_empties after.publications) i);
    }
