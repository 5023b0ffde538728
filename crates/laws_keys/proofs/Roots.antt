-- Tombstones stay those of their publications, and the root of any other segment stays added, not after the segment's own commit.
use Rattle.std.proofs.Common.{List, Some, [], arith, false, inl, inr, length, map, refl, subst, suc, sym, true, zero, ℕ, ◌+◌, ◌++◌, ◌<◌, ◌∙◌, ◌∷◌, ◌≡◌}
use Rattle.std.proofs.lemmas.Bool.{false≢true}
use Rattle.iv_span.specs.Extent.{Extent}
use Rattle.seg_names.specs.declared.seg_id.SegId.{SegId}
use Rattle.book_rows.specs.Allocation.{allotted_chunks, allotted_id, bumped}
use Rattle.book_rows.specs.Append.{as_row, rows_of_root}
use Rattle.book_rows.specs.Ids.{is_of_span}
use Rattle.book_rows.specs.Lists.{In, at_place, gathered}
use Rattle.book_rows.specs.Live.{IsIn}
use Rattle.book_rows.specs.LockSteps.{pending_for}
use Rattle.book_rows.specs.Over.{Inserting, Replacing, Target}
use Rattle.book_rows.specs.Publications.{appending, drop_publication, publication_of}
use Rattle.book_rows.specs.Rewrite.{chunk_for, copies_of, how_many, is_taken_up, own_row, own_rows, tomb_row, unused}
use Rattle.book_rows.specs.Rules.{IsAddedSince}
use Rattle.book_rows.specs.Shape.{HasAddedRoot, IsTombstone}
use Rattle.book_rows.specs.Sound.{Sound}
use Rattle.book_rows.specs.declared.kinds.LockKind.{LockKind}
use Rattle.book_rows.specs.declared.kinds.LockKind.TheVariants as LockKinds
use Rattle.book_rows.specs.declared.kinds.PubKind.TheVariants as PubKinds
use Rattle.book_rows.specs.declared.rows.Book.{Book}
use Rattle.book_rows.specs.declared.rows.ChunkRow.{ChunkRow}
use Rattle.book_rows.specs.declared.rows.Publication.{Publication}
use Rattle.book_rows.specs.declared.rows.SegmentRow.{SegmentRow}
use Rattle.book_rows.specs.declared.rows.TaskRow.{TaskRow}
use Rattle.laws_chunks.proofs.Members.{In-append, In-filter, In-left, In-map, In-right, map_In}
use Rattle.laws_chunks.proofs.PublishSteps.{IsKeptByPublishing}
use Rattle.laws_keys.specs.KeyLaws.{RootsStayPublished}
use Rattle.laws_keys.proofs.FilledSpans.{tomb_is}
use Rattle.laws_keys.proofs.GrownChunks.{bumped_in}
use Rattle.laws_keys.proofs.NewRows.{IsOwn, IsUpgradeCopy, appended_row, copy_at, own_at}
use Rattle.laws_keys.proofs.RowTables.{OfRows, of_book, rows_after}
use Rattle.laws_keys.proofs.Targets.{AreTargets, over_targets}
use Rattle.laws_sequences.proofs.PlacesStay.{last_place}

-- ---- places

at_more : {X : Type 0} (k : ℕ) (xs ys : List X) (x : X) → at_place k xs ≡ Some x → at_place k (xs ++ ys) ≡ Some x
at_more k [] ys x e = cc
at_more zero (y ∷ xs) ys x e = e
at_more (suc k) (y ∷ xs) ys x e = at_more k xs ys x e

-- where an id was added
record IsAddedAt (pubs : List Publication) (a : SegId) : Type 0 where
  pub place : ℕ
  pub publication : Publication
  pub at : at_place place pubs ≡ Some publication
  pub listed : In a publication.adds
  pub below : place < length pubs

added_at : (since k : ℕ) (pubs : List Publication) (a : SegId) → IsAddedSince since k pubs a → IsAddedAt pubs a
added_at since k [] a h = absurd h
added_at since k (m ∷ ms) a (inl h) = record { place = 0; publication = m; at = refl; listed = h.1; below = omega arith }
added_at since k (m ∷ ms) a (inr h) =
    let w = added_at since (k + 1) ms a h in
    let low = w.below in
    record { place = suc w.place; publication = w.publication; at = w.at; listed = w.listed; below = omega (arith, low) }

-- ---- what is said of each segment

record IsFounded (cs : List ChunkRow) (pubs : List Publication) (r : SegmentRow) : Type 0 where
  pub tombstone : r.tombstone ≡ true → IsTombstone cs pubs r
  pub other : r.tombstone ≡ false → HasAddedRoot pubs r

abbrev FoundedRows : OfRows
FoundedRows cs rows pubs ps us = (r : SegmentRow) → In r rows → IsFounded cs pubs r

-- with more publications
founded_more : (cs : List ChunkRow) (pubs more : List Publication) (r : SegmentRow) → IsFounded cs pubs r → IsFounded cs (pubs ++ more) r
founded_more cs pubs more r h = record {
  tombstone = λ on. (let w = h.tombstone on in record {
    own = w.own;
    part_is = w.part_is;
    chunk = w.chunk;
    among = w.among;
    is_in = w.is_in;
    core_is = w.core_is;
    publication = w.publication;
    at = at_more r.commit pubs more w.publication w.at;
    listed = w.listed;
  });
  other = λ off. (let w = h.other off in record {
    place = w.place;
    publication = w.publication;
    at = at_more w.place pubs more w.publication w.at;
    listed = w.listed;
    not_after = w.not_after;
  });
}

-- with other chunk rows, of which one stands for each of before
founded_grown : (f : ChunkRow → ChunkRow) (cs after : List ChunkRow) (pubs : List Publication) (r : SegmentRow) → ((c : ChunkRow) → In c cs → In (f c) after) → ((c : ChunkRow) → IsIn c r.id → IsIn (f c) r.id) → ((c : ChunkRow) → (f c).core ≡ c.core)
    → IsFounded cs pubs r → IsFounded after pubs r
founded_grown f cs after pubs r among is_in core h = record {
  tombstone = λ on. (let w = h.tombstone on in record {
    own = w.own;
    part_is = w.part_is;
    chunk = f w.chunk;
    among = among w.chunk w.among;
    is_in = is_in w.chunk w.is_in;
    core_is = core w.chunk ∙ w.core_is;
    publication = w.publication;
    at = w.at;
    listed = w.listed;
  });
  other = h.other;
}

-- a segment of an id that the last publication adds
founded_added : (cs : List ChunkRow) (pubs : List Publication) (m : Publication) (r : SegmentRow) → r.tombstone ≡ false → r.commit ≡ length pubs → In r.root m.adds → IsFounded cs (pubs ++ m ∷ []) r
founded_added cs pubs m r off commit i = record {
  tombstone = λ on. absurd (false≢true (sym off ∙ on));
  other = λ e. record { place = length pubs; publication = m; at = last_place pubs m; listed = i; not_after = omega (arith, commit) };
}

-- and one of its tombstones
founded_tomb : (cs : List ChunkRow) (pubs : List Publication) (m : Publication) (c : ChunkRow) (a : SegId) → In c cs → IsIn c a → c.core ≡ 1 → a.part ≡ 0 → In a m.empties → IsFounded cs (pubs ++ m ∷ []) (tomb_row (length pubs) a)
founded_tomb cs pubs m c a i k core part j = record {
  tombstone = λ on. record { own = refl; part_is = part; chunk = c; among = i; is_in = k; core_is = core; publication = m; at = last_place pubs m; listed = j };
  other = λ off. absurd (false≢true (sym off));
}

-- ---- the commands

module _ (b : Book) (s : Sound b) where
  founded_before : (r : SegmentRow) → In r b.segments → IsFounded b.chunks b.publications r
  founded_before r i = record { tombstone = s.shape.roots.tombstones r i; other = s.shape.roots.others r i }

  founded_pushed : (m : Publication) (r : SegmentRow) → In r b.segments → IsFounded b.chunks (b.publications ++ m ∷ []) r
  founded_pushed m r i = founded_more b.chunks b.publications (m ∷ []) r (founded_before r i)

  founded_allocated : (a : SegId) (r : SegmentRow) → In r b.segments → IsFounded (allotted_chunks a b.chunks) b.publications r
  founded_allocated a r i =
      founded_grown (bumped a) b.chunks (allotted_chunks a b.chunks) b.publications r (bumped_in a b.chunks) (λ c k. record { source_is = k.source_is; span_is = k.span_is; version_is = k.version_is }) (λ c. refl) (founded_before r i)

  founded_appended : (m : Publication) (r : SegmentRow) → In r (b.segments ++ gathered (λ a. rows_of_root (length b.publications) a b.pendings) m.adds) → IsFounded b.chunks (b.publications ++ m ∷ []) r
  founded_appended m r i = elim (In-append r b.segments (gathered (λ a. rows_of_root (length b.publications) a b.pendings) m.adds) i) [
    | inl old ↦ founded_pushed m r old
    | inr j ↦ (let w = appended_row (length b.publications) m.adds b.pendings r j in
        subst (λ (r : SegmentRow). IsFounded b.chunks (b.publications ++ m ∷ []) r) (sym w.is) (founded_added b.chunks b.publications m (as_row (length b.publications) w.pending) refl refl w.listed))
  ]

  founded_dropped : (source : List ℕ) (span : Extent) (r : SegmentRow) → In r (map (unused source span) b.segments) → IsFounded b.chunks (b.publications ++ drop_publication source span ∷ []) r
  founded_dropped source span r i =
      let w = In-map (unused source span) r b.segments i in
      let h = founded_pushed (drop_publication source span) w.0 w.1 in
      subst (λ (r : SegmentRow). IsFounded b.chunks (b.publications ++ drop_publication source span ∷ []) r) (sym w.2) (record {
        tombstone = λ on. (let t = h.tombstone on in record {
          own = t.own;
          part_is = t.part_is;
          chunk = t.chunk;
          among = t.among;
          is_in = t.is_in;
          core_is = t.core_is;
          publication = t.publication;
          at = t.at;
          listed = t.listed;
        });
        other = λ off. (let o = h.other off in record { place = o.place; publication = o.publication; at = o.at; listed = o.listed; not_after = o.not_after });
      })

  module _ (t : TaskRow) (kind : LockKind) (m : Publication) (xs : List Target) (g : AreTargets b t kind m.adds m.empties xs) (copies : Target → ℕ) where
    abbrev chunks_made : List ChunkRow
    chunks_made = b.chunks ++ map (λ x. chunk_for t.source m.adds (copies x) x) xs

    made_in : (x : Target) → In x xs → In (chunk_for t.source m.adds (copies x) x) (b.chunks ++ map (λ x. chunk_for t.source m.adds (copies x) x) xs)
    made_in x i = In-right (chunk_for t.source m.adds (copies x) x) b.chunks (map (λ x. chunk_for t.source m.adds (copies x) x) xs) (map_In (λ (x : Target). chunk_for t.source m.adds (copies x) x) x xs i)

    founded_own : (x : Target) (r : SegmentRow) → In x xs → IsOwn (length b.publications) m.adds m.empties x r → IsFounded chunks_made (b.publications ++ m ∷ []) r
    founded_own x r i (inl w) =
        subst (λ (r : SegmentRow). IsFounded chunks_made (b.publications ++ m ∷ []) r) (sym w.2)
        (founded_added chunks_made b.publications m (own_row (length b.publications) w.0) refl refl (In-filter (is_of_span x.span) w.0 m.adds w.1).0)
    founded_own x r i (inr w) =
        let part = tomb_is m.adds m.empties x.span (g.parts x i) w.0 w.1 in
        let k = (g.filled x i).tombs_of w.0 w.1 in
        subst (λ (r : SegmentRow). IsFounded chunks_made (b.publications ++ m ∷ []) r) (sym w.2)
        (founded_tomb chunks_made b.publications m (chunk_for t.source m.adds (copies x) x) w.0 (made_in x i) (record { source_is = k.source_is; span_is = k.span_is; version_is = k.version_is }) part.1 part.0
        (In-filter (is_of_span x.span) w.0 m.empties w.1).0)

    founded_spans : (r : SegmentRow) → In r (b.segments ++ gathered (λ x. own_rows (length b.publications) m.adds m.empties x.span) xs) → IsFounded chunks_made (b.publications ++ m ∷ []) r
    founded_spans r i = elim (In-append r b.segments (gathered (λ x. own_rows (length b.publications) m.adds m.empties x.span) xs) i) [
      | inl old ↦ founded_grown (λ c. c) b.chunks chunks_made (b.publications ++ m ∷ []) r (λ c j. In-left c b.chunks (map (λ x. chunk_for t.source m.adds (copies x) x) xs) j) (λ c k. k) (λ c. refl) (founded_pushed m r old)
      | inr j ↦ (let w = own_at (length b.publications) m.adds m.empties xs r j in founded_own w.0 r w.1 w.2)
    ]

  -- the root of a copy was added before
  founded_copy : (cs : List ChunkRow) (m : Publication) (t : TaskRow) (ids : List SegId) (x : Target) (r : SegmentRow) → IsUpgradeCopy b t ids x r → IsFounded cs (b.publications ++ m ∷ []) r
  founded_copy cs m t ids x r w =
      let up = s.upgrades w.item (In-filter (is_taken_up x.lock x.span) w.item b.upgrades w.among).0 in
      let a = added_at up.posse.since 0 b.publications w.item.root up.added in
      let low = a.below in
      subst (λ (r : SegmentRow). IsFounded cs (b.publications ++ m ∷ []) r) (sym w.is) (record {
        tombstone = λ on. absurd (false≢true on);
        other = λ off. record { place = a.place; publication = a.publication; at = at_more a.place b.publications (m ∷ []) a.publication a.at; listed = a.listed; not_after = omega (arith, low) };
      })

  founded_replaced : (t : TaskRow) (m : Publication) (xs : List Target) → AreTargets b t LockKinds.Replace m.adds m.empties xs
      → (r : SegmentRow) → In r ((b.segments ++ gathered (λ x. own_rows (length b.publications) m.adds m.empties x.span) xs) ++ gathered (λ x. (copies_of b t m.adds x).segments) xs)
      → IsFounded (b.chunks ++ map (λ x. chunk_for t.source m.adds (how_many (copies_of b t m.adds x)) x) xs) (b.publications ++ m ∷ []) r
  founded_replaced t m xs g r i = elim (In-append r (b.segments ++ gathered (λ x. own_rows (length b.publications) m.adds m.empties x.span) xs) (gathered (λ x. (copies_of b t m.adds x).segments) xs) i) [
    | inl j ↦ founded_spans t LockKinds.Replace m xs g (λ x. how_many (copies_of b t m.adds x)) r j
    | inr j ↦ (let w = copy_at b t m.adds xs r j in founded_copy (b.chunks ++ map (λ x. chunk_for t.source m.adds (how_many (copies_of b t m.adds x)) x) xs) m t m.adds w.0 r w.2)
  ]

  roots_published : IsKeptByPublishing (of_book FoundedRows) b
  roots_published = record {
    pushed = λ m none clean free. founded_pushed m;
    allocated = λ r t x l other fresh found e. founded_allocated (allotted_id b.chunks (pending_for t r x l));
    appended = λ t ids ranges distinct among fault. founded_appended (publication_of PubKinds.Append t [] (appending ids ranges));
    inserted = λ t given xs proper ids_once tombs_once ok.
        founded_spans t LockKinds.Exclusive (publication_of PubKinds.Over t (map (λ x. record { span = x.span; since = 0 }) xs) given) xs
        (over_targets Inserting b t given xs proper ok) (λ x. 0);
    replaced = λ t given xs proper ids_once tombs_once ok.
        founded_replaced t (publication_of PubKinds.Replace t (map (λ x. record { span = x.span; since = x.since }) xs) given) xs
        (over_targets Replacing b t given xs proper ok);
    dropped = λ source span fault. founded_dropped source span;
  }

pub roots_stay_published : RootsStayPublished
roots_stay_published b c form s =
    let founded = rows_after FoundedRows (λ cs rows pubs ps us p u h. h) b c form (founded_before b s) (roots_published b s) in
    record { tombstones = λ r i. (founded r i).tombstone; others = λ r i. (founded r i).other }
