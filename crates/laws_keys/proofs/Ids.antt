-- Ids of segments and pendings stay distinct.
use Rattle.std.proofs.Common.{Bool, List, None, Option, Some, [], ap, arith, false, filter, inl, inr, length, map, not, refl, subst, sym, true, ℕ, ◌+◌, ◌++◌, ◌<◌, ◌∙◌, ◌∷◌, ◌≡◌}
use Rattle.std.proofs.lemmas.Bool.{and_parts, false≢true}
use Rattle.iv_span.specs.Extent.{overlap}
use Rattle.seg_names.specs.Ids.{same_id}
use Rattle.seg_names.specs.declared.seg_id.SegId.{SegId}
use Rattle.book_rows.specs.Allocation.{allotted_id, allotted_row, chunk_of, is_of_chunk, next_of}
use Rattle.book_rows.specs.Answer.{next}
use Rattle.book_rows.specs.Append.{as_row, is_copy_of, is_root_of, rows_of_root, without_roots}
use Rattle.book_rows.specs.Ids.{is_listed, is_of_span}
use Rattle.book_rows.specs.Lists.{In, Pairs, gathered, stands_in}
use Rattle.book_rows.specs.LockSteps.{pending_for}
use Rattle.book_rows.specs.Over.{Inserting, Replacing, Target}
use Rattle.book_rows.specs.Rewrite.{copies_of, core_of, is_copied, is_taken_up, own_row, own_rows, tomb_row, unused, upgrade_copy}
use Rattle.book_rows.specs.Shape.{AreDistinct, HasChunk, pending_ids, segment_ids}
use Rattle.book_rows.specs.Sound.{Sound}
use Rattle.book_rows.specs.declared.answers.NewPending.{NewPending}
use Rattle.book_rows.specs.declared.kinds.LockKind.{LockKind}
use Rattle.book_rows.specs.declared.kinds.LockKind.TheVariants as LockKinds
use Rattle.book_rows.specs.declared.rows.Book.{Book}
use Rattle.book_rows.specs.declared.rows.ChunkRow.{ChunkRow}
use Rattle.book_rows.specs.declared.rows.PendingRow.{PendingRow}
use Rattle.book_rows.specs.declared.rows.SegmentRow.{SegmentRow}
use Rattle.book_rows.specs.declared.rows.TaskRow.{TaskRow}
use Rattle.book_rows.specs.declared.rows.UpgradeRow.{UpgradeRow}
use Rattle.laws_chunks.specs.Allotments.{id_in}
use Rattle.laws_chunks.specs.ChunksSound.{HaveDistinctIds, all_ids}
use Rattle.laws_chunks.proofs.AllottedIds.{no_chunk, of_chunk_means}
use Rattle.laws_chunks.proofs.ChunkRows.{one_row}
use Rattle.laws_chunks.proofs.LookUps.{find_some}
use Rattle.laws_chunks.proofs.Members.{In-append, In-filter, In-map, any_from_In, map_In, pairs_append, pairs_between, pairs_filter, pairs_map}
use Rattle.laws_chunks.proofs.NumberedRows.{numbered_In, numbered_pairs}
use Rattle.laws_chunks.proofs.PublishSteps.{IsKeptByPublishing}
use Rattle.laws_chunks.proofs.SoundChunks.{pairs_left, pairs_right, pairs_unmapped}
use Rattle.laws_chunks.proofs.Spans.{one_pending, same_id_from}
use Rattle.laws_keys.specs.KeyLaws.{IdsStayDistinct}
use Rattle.laws_keys.proofs.FilledSpans.{not_both, own_low, tomb_is}
use Rattle.laws_keys.proofs.NewRows.{IsOwn, IsPendingCopy, IsUpgradeCopy, appended_row, copy_at, own_at, own_is, pending_copy_at, root_row}
use Rattle.laws_keys.proofs.PairLists.{pairs_gathered, pairs_mapped}
use Rattle.laws_keys.proofs.RowTables.{OfRows, chunks_after, of_book, rows_after}
use Rattle.laws_keys.proofs.TargetParts.{IsPart, apart, made_apart, old_apart, parts_apart, spans_apart}
use Rattle.laws_keys.proofs.Targets.{AreTargets, IsMadeIn, over_targets}

abbrev Differ : SegmentRow → SegmentRow → Type 0
Differ r q = same_id r.id q.id ≡ false

-- the ids of segments are distinct, and none is that of a pending
record AreApart (rows : List SegmentRow) (ps : List PendingRow) : Type 0 where
  pub own : Pairs Differ rows
  pub pendings : (r : SegmentRow) (p : PendingRow) → In r rows → In p ps → same_id r.id p.id ≡ false

abbrev ApartRows : OfRows
ApartRows cs rows pubs ps us = AreApart rows ps

apart_fewer : (rows : List SegmentRow) (ps : List PendingRow) (keep : PendingRow → Bool) → AreApart rows ps → AreApart rows (filter keep ps)
apart_fewer rows ps keep h = record { own = h.own; pendings = λ r p i j. h.pendings r p i (In-filter keep p ps j).0 }

module _ (b : Book) (s : Sound b) where
  apart_before : AreApart b.segments b.pendings
  apart_before = record {
    own = pairs_unmapped (λ a c. same_id a c ≡ false) (λ (r : SegmentRow). r.id) b.segments (pairs_left (λ a c. same_id a c ≡ false) (segment_ids b.segments) (pending_ids b.pendings) s.shape.keys.ids);
    pendings = λ r p i j. pairs_between (λ a c. same_id a c ≡ false) (segment_ids b.segments) (pending_ids b.pendings) r.id p.id s.shape.keys.ids (map_In (λ (r : SegmentRow). r.id) r b.segments i) (map_In (λ (p : PendingRow). p.id) p b.pendings j);
  }

  distinct_pendings : HaveDistinctIds b.pendings
  distinct_pendings = pairs_unmapped (λ a c. same_id a c ≡ false) (λ (p : PendingRow). p.id) b.pendings (pairs_right (λ a c. same_id a c ≡ false) (segment_ids b.segments) (pending_ids b.pendings) s.shape.keys.ids)

  segment_has : (r : SegmentRow) → In r b.segments → HasChunk b.chunks r.id
  segment_has r i = s.shape.chunks.segments r.id (map_In (λ (r : SegmentRow). r.id) r b.segments i)

  pending_has : (p : PendingRow) → In p b.pendings → HasChunk b.chunks p.id
  pending_has p i = s.shape.chunks.pendings p.id (map_In (λ (p : PendingRow). p.id) p b.pendings i)

  -- ---- an id is allocated

  -- its part is above all others of its chunk
  module _ (n : NewPending) where
    not_allotted : (a : SegId) (h : HasChunk b.chunks a) (o : Option ChunkRow) → chunk_of (id_in n) b.chunks ≡ o → a ≡ allotted_id b.chunks n → ⊥
    not_allotted a h None e is = no_chunk b.chunks (id_in n) e h.chunk h.among (record {
      source_is = ap (λ (a : SegId). a.source) (sym is) ∙ h.is_in.source_is;
      span_is = ap (λ (a : SegId). a.span) (sym is) ∙ h.is_in.span_is;
      version_is = ap (λ (a : SegId). a.version) (sym is) ∙ h.is_in.version_is;
    })
    not_allotted a h (Some d) e is =
        let w = find_some (λ c. is_of_chunk c (id_in n)) b.chunks d e in
        let one : d ≡ h.chunk = one_row b.chunks s.shape.keys.chunks d h.chunk (id_in n) w.0 h.among (of_chunk_means d (id_in n) w.1) (record {
          source_is = ap (λ (a : SegId). a.source) (sym is) ∙ h.is_in.source_is;
          span_is = ap (λ (a : SegId). a.span) (sym is) ∙ h.is_in.span_is;
          version_is = ap (λ (a : SegId). a.version) (sym is) ∙ h.is_in.version_is;
        }) in
        let part : a.part ≡ h.chunk.next = ap (λ (a : SegId). a.part) is ∙ ap next_of e ∙ ap (λ (c : ChunkRow). c.next) one in
        let below = h.below in
        clash a.part h.chunk.next part below where
          clash : (m n : ℕ) → m ≡ n → m < n → ⊥
          clash m n e lt = omega (arith, e, lt)

    apart_allocated : (keep : PendingRow → Bool) → AreApart b.segments (filter keep b.pendings ++ allotted_row (allotted_id b.chunks n) n ∷ [])
    apart_allocated keep = record {
      own = apart_before.own;
      pendings = λ r p i j. elim (In-append p (filter keep b.pendings) (allotted_row (allotted_id b.chunks n) n ∷ []) j) [
        | inl old ↦ (apart_fewer b.segments b.pendings keep apart_before).pendings r p i old
        | inr (inl is) ↦ subst (λ (p : PendingRow). same_id r.id p.id ≡ false) (sym is) (apart r.id (allotted_id b.chunks n) (not_allotted r.id (segment_has r i) (chunk_of (id_in n) b.chunks) refl))
        | inr (inr none) ↦ absurd none
      ];
    }

  -- ---- an append

  module _ (k : ℕ) where
    -- pendings of one id are one
    pendings_differ : (p q : PendingRow) → In p b.pendings → In q b.pendings → (p.root ≡ q.root → ⊥) → same_id p.id q.id ≡ false
    pendings_differ p q i j other = apart p.id q.id (λ e. other (ap (λ (p : PendingRow). p.root) (one_pending b.pendings p q distinct_pendings i j e)))

    root_distinct : (a : SegId) → Pairs Differ (rows_of_root k a b.pendings)
    root_distinct a =
        pairs_mapped Differ (as_row k) (filter (is_root_of a) b.pendings ++ filter (is_copy_of a) b.pendings)
        (pairs_append (λ p q. same_id p.id q.id ≡ false) (filter (is_root_of a) b.pendings) (filter (is_copy_of a) b.pendings)
        (pairs_filter (λ p q. same_id p.id q.id ≡ false) (is_root_of a) b.pendings distinct_pendings)
        (pairs_filter (λ p q. same_id p.id q.id ≡ false) (is_copy_of a) b.pendings distinct_pendings)
        (λ p q i j. apart p.id q.id (λ e.
        let root = (and_parts (same_id p.root a) (same_id p.id a) (In-filter (is_root_of a) p b.pendings i).1).1 in
        let copy = (and_parts (same_id q.root a) (not (same_id q.id a)) (In-filter (is_copy_of a) q b.pendings j).1).1 in
        off (same_id q.id a) copy (subst (λ x. same_id x a ≡ true) e root)))) where
          off : (b : Bool) → not b ≡ true → b ≡ true → ⊥
          off true h e = false≢true h
          off false h e = false≢true e

    appended_distinct : (ids : List SegId) → AreDistinct same_id ids → Pairs Differ (gathered (λ a. rows_of_root k a b.pendings) ids)
    appended_distinct ids distinct =
        pairs_gathered Differ (λ x y. same_id x y ≡ false) (λ a. rows_of_root k a b.pendings) ids distinct (λ a i. root_distinct a)
        (λ x y i j off u v l m.
        let p = root_row k x b.pendings u l in
        let q = root_row k y b.pendings v m in
        subst (λ (u : SegmentRow). same_id u.id v.id ≡ false) (sym p.3) (subst (λ (v : SegmentRow). same_id p.0.id v.id ≡ false) (sym q.3)
        (pendings_differ p.0 q.0 p.1 q.1 (λ e. false≢true (sym off ∙ same_id_from x y (sym p.2 ∙ e ∙ q.2))))))

    apart_appended : (ids : List SegId) → AreDistinct same_id ids → AreApart (b.segments ++ gathered (λ a. rows_of_root k a b.pendings) ids) (without_roots ids b.pendings)
    apart_appended ids distinct = record {
      own = pairs_append Differ b.segments (gathered (λ a. rows_of_root k a b.pendings) ids) apart_before.own (appended_distinct ids distinct)
          (λ r q i j. let w = appended_row k ids b.pendings q j in subst (λ (q : SegmentRow). same_id r.id q.id ≡ false) (sym w.is) (apart_before.pendings r w.pending i w.among));
      pendings = λ r p i j. elim (In-append r b.segments (gathered (λ a. rows_of_root k a b.pendings) ids) i) [
        | inl old ↦ apart_before.pendings r p old (In-filter (λ p. not (is_listed ids p.root)) p b.pendings j).0
        | inr new ↦ new_row r p new (In-filter (λ p. not (is_listed ids p.root)) p b.pendings j)
      ];
    } where
      off : (b : Bool) → not b ≡ true → b ≡ true → ⊥
      off true h e = false≢true h
      off false h e = false≢true e

      -- a pending that stays has another root
      new_row : (r : SegmentRow) (p : PendingRow) → In r (gathered (λ a. rows_of_root k a b.pendings) ids) → In p b.pendings × (not (is_listed ids p.root) ≡ true) → same_id r.id p.id ≡ false
      new_row r p i f =
          let w = appended_row k ids b.pendings r i in
          subst (λ (r : SegmentRow). same_id r.id p.id ≡ false) (sym w.is)
          (pendings_differ w.pending p w.among f.0 (λ e. off (is_listed ids p.root) f.1 (any_from_In (λ x. same_id x p.root) w.pending.root ids w.listed (same_id_from w.pending.root p.root e))))

  -- ---- an insert or a replacement

  module _ (k : ℕ) (t : TaskRow) (kind : LockKind) (ids tombs : List SegId) (xs : List Target) (g : AreTargets b t kind ids tombs xs) (ids_once : AreDistinct same_id ids) (tombs_once : AreDistinct same_id tombs) where
    abbrev owns : List SegmentRow
    owns = gathered (λ x. own_rows k ids tombs x.span) xs

    own_part : (x : Target) (r : SegmentRow) → In x xs → IsOwn k ids tombs x r → IsPart t x 0 (core_of ids x.span) r.id
    own_part x r i (inl w) =
        let m = (g.filled x i).ids_of w.0 w.1 in
        subst (λ (r : SegmentRow). IsPart t x 0 (core_of ids x.span) r.id) (sym w.2)
        (record { made = record { source_is = m.source_is; span_is = m.span_is; version_is = m.version_is }; low = omega arith; high = own_low ids tombs x.span (g.parts x i) w.0 w.1 })
    own_part x r i (inr w) =
        let m = (g.filled x i).tombs_of w.0 w.1 in
        let part = tomb_is ids tombs x.span (g.parts x i) w.0 w.1 in
        subst (λ (r : SegmentRow). IsPart t x 0 (core_of ids x.span) r.id) (sym w.2)
        (record { made = record { source_is = m.source_is; span_is = m.span_is; version_is = m.version_is }; low = omega arith; high = first w.0.part (core_of ids x.span) part.0 part.1 }) where
          first : (m n : ℕ) → m ≡ 0 → n ≡ 1 → m < n
          first m n e f = omega (arith, e, f)

    own_distinct : (x : Target) → In x xs → Pairs Differ (own_rows k ids tombs x.span)
    own_distinct x i =
        pairs_append Differ (map (own_row k) (filter (is_of_span x.span) ids)) (map (tomb_row k) (filter (is_of_span x.span) tombs))
        (pairs_mapped Differ (own_row k) (filter (is_of_span x.span) ids) (pairs_filter (λ a c. same_id a c ≡ false) (is_of_span x.span) ids ids_once))
        (pairs_mapped Differ (tomb_row k) (filter (is_of_span x.span) tombs) (pairs_filter (λ a c. same_id a c ≡ false) (is_of_span x.span) tombs tombs_once))
        (λ r q j l.
        let u = In-map (own_row k) r (filter (is_of_span x.span) ids) j in
        let v = In-map (tomb_row k) q (filter (is_of_span x.span) tombs) l in
        absurd (not_both ids tombs x.span (g.parts x i) u.0 v.0 u.1 v.1))

    owns_distinct : Pairs Differ owns
    owns_distinct =
        pairs_gathered Differ (λ x y. overlap x.span y.span ≡ false) (λ x. own_rows k ids tombs x.span) xs g.disjoint own_distinct
        (λ x y i j off u v l m. spans_apart b t kind ids tombs xs g u.id v.id x y i off (own_part x u i (own_is k ids tombs x u l)).made (own_part y v j (own_is k ids tombs y v m)).made)

    -- none of before is made
    apart_owns : AreApart (b.segments ++ owns) b.pendings
    apart_owns = record {
      own = pairs_append Differ b.segments owns apart_before.own owns_distinct
          (λ r q i j. let w = own_at k ids tombs xs q j in old_apart b t kind ids tombs xs g r.id q.id w.0 (segment_has r i) w.1 (own_part w.0 q w.1 w.2).made);
      pendings = λ r p i j. elim (In-append r b.segments owns i) [
        | inl old ↦ apart_before.pendings r p old j
        | inr l ↦ (let w = own_at k ids tombs xs r l in made_apart b t kind ids tombs xs g r.id p.id w.0 (pending_has p j) w.1 (own_part w.0 r w.1 w.2).made)
      ];
    }

  -- ---- the copies of a replacement

  module _ (t : TaskRow) (ids tombs : List SegId) (xs : List Target) (g : AreTargets b t LockKinds.Replace ids tombs xs) (ids_once : AreDistinct same_id ids) (tombs_once : AreDistinct same_id tombs) where
    abbrev all_owns : List SegmentRow
    all_owns = gathered (λ x. own_rows (length b.publications) ids tombs x.span) xs

    abbrev copies : List SegmentRow
    copies = gathered (λ x. (copies_of b t ids x).segments) xs

    abbrev pending_copies : List PendingRow
    pending_copies = gathered (λ x. (copies_of b t ids x).pendings) xs

    -- where the copies of upgrade roots begin and end
    abbrev core_at : Target → ℕ
    core_at x = core_of ids x.span

    abbrev taken_at : Target → ℕ
    taken_at x = core_of ids x.span + length (filter (is_taken_up x.lock x.span) b.upgrades)

    copy_part : (x : Target) (r : SegmentRow) → IsUpgradeCopy b t ids x r → IsPart t x (core_at x) (taken_at x) r.id
    copy_part x r w = subst (λ (r : SegmentRow). IsPart t x (core_at x) (taken_at x) r.id) (sym w.is) (record { made = record { source_is = refl; span_is = refl; version_is = refl }; low = w.low; high = w.high })

    pending_part : (x : Target) (p : PendingRow) → IsPendingCopy b t ids x p → IsPart t x (taken_at x) (taken_at x + length (filter (is_copied t.source x.span) b.pendings)) p.id
    pending_part x p w = subst (λ (p : PendingRow). IsPart t x (taken_at x) (taken_at x + length (filter (is_copied t.source x.span) b.pendings)) p.id) (sym w.is) (record { made = record { source_is = refl; span_is = refl; version_is = refl }; low = w.low; high = w.high })

    copies_distinct : Pairs Differ copies
    copies_distinct =
        pairs_gathered Differ (λ x y. overlap x.span y.span ≡ false) (λ x. (copies_of b t ids x).segments) xs g.disjoint
        (λ x i. numbered_pairs Differ (upgrade_copy t.source x.span x.version (length b.publications)) (λ m n u v lt. apart (copy_of x m u) (copy_of x n v) (λ e. clash m n lt (ap (λ (a : SegId). a.part) e))) (core_of ids x.span) (filter (is_taken_up x.lock x.span) b.upgrades))
        (λ x y i j off u v l m.
        spans_apart b t LockKinds.Replace ids tombs xs g u.id v.id x y i off (made_at x u l) (made_at y v m)) where
          copy_of : Target → ℕ → UpgradeRow → SegId
          copy_of x m u = (upgrade_copy t.source x.span x.version (length b.publications) m u).id

          clash : (m n : ℕ) → m < n → m ≡ n → ⊥
          clash m n lt e = omega (arith, lt, e)

          made_at : (x : Target) (r : SegmentRow) → In r (copies_of b t ids x).segments → IsMadeIn t x r.id
          made_at x r i = (copy_part x r (numbered_In (upgrade_copy t.source x.span x.version (length b.publications)) (core_of ids x.span) (filter (is_taken_up x.lock x.span) b.upgrades) r i)).made

    -- ids and tombstones, then copies of upgrade roots, then copies of pendings
    apart_replaced : AreApart ((b.segments ++ all_owns) ++ copies) (b.pendings ++ pending_copies)
    apart_replaced = record {
      own = pairs_append Differ (b.segments ++ all_owns) copies before.own copies_distinct segments_copies;
      pendings = λ r p i j. elim (In-append p b.pendings pending_copies j) [
        | inl old ↦ elim (In-append r (b.segments ++ all_owns) copies i) [
          | inl l ↦ before.pendings r p l old
          | inr l ↦ (let w = copy_at b t ids xs r l in made_apart b t LockKinds.Replace ids tombs xs g r.id p.id w.0 (pending_has p old) w.1 (copy_part w.0 r w.2).made)
        ]
        | inr new ↦ segments_pendings r p (pending_copy_at b t ids xs p new) i
      ];
    } where
      before : AreApart (b.segments ++ all_owns) b.pendings
      before = apart_owns (length b.publications) t LockKinds.Replace ids tombs xs g ids_once tombs_once

      part : (x : Target) (r : SegmentRow) → In x xs → IsOwn (length b.publications) ids tombs x r → IsPart t x 0 (core_at x) r.id
      part = own_part (length b.publications) t LockKinds.Replace ids tombs xs g ids_once tombs_once

      segments_copies : (r q : SegmentRow) → In r (b.segments ++ all_owns) → In q copies → same_id r.id q.id ≡ false
      segments_copies r q i j =
          let c = copy_at b t ids xs q j in
          let k = copy_part c.0 q c.2 in
          elim (In-append r b.segments all_owns i) [
            | inl old ↦ old_apart b t LockKinds.Replace ids tombs xs g r.id q.id c.0 (segment_has r old) c.1 k.made
            | inr l ↦ (let w = own_at (length b.publications) ids tombs xs r l in
                parts_apart b t LockKinds.Replace ids tombs xs g core_at core_at (λ x. omega arith) 0 (taken_at c.0) r.id q.id w.0 c.0 w.1 c.1 (part w.0 r w.1 w.2) k)
          ]

      segments_pendings : (r : SegmentRow) (p : PendingRow) → (x : Target) × In x xs × IsPendingCopy b t ids x p → In r ((b.segments ++ all_owns) ++ copies) → same_id r.id p.id ≡ false
      segments_pendings r p c i =
          let k = pending_part c.0 p c.2 in
          let end = taken_at c.0 + length (filter (is_copied t.source c.0.span) b.pendings) in
          elim (In-append r (b.segments ++ all_owns) copies i) [
            | inl j ↦ elim (In-append r b.segments all_owns j) [
              | inl old ↦ old_apart b t LockKinds.Replace ids tombs xs g r.id p.id c.0 (segment_has r old) c.1 k.made
              | inr l ↦ (let w = own_at (length b.publications) ids tombs xs r l in
                  parts_apart b t LockKinds.Replace ids tombs xs g core_at taken_at (λ x. omega arith) 0 end r.id p.id w.0 c.0 w.1 c.1 (part w.0 r w.1 w.2) k)
            ]
            | inr l ↦ (let w = copy_at b t ids xs r l in
                parts_apart b t LockKinds.Replace ids tombs xs g taken_at taken_at (λ x. omega arith) (core_at w.0) end r.id p.id w.0 c.0 w.1 c.1 (copy_part w.0 r w.2) k)
          ]

  -- ---- the commands

  ids_published : IsKeptByPublishing (of_book ApartRows) b
  ids_published = record {
    pushed = λ m none clean free. apart_before;
    allocated = λ r t x l other fresh found e. apart_allocated (pending_for t r x l) (λ p. not (stands_in l.granted.revoked p.posse));
    appended = λ t ids ranges distinct among fault. apart_appended (length b.publications) ids distinct;
    inserted = λ t given xs proper ids_once tombs_once ok.
        apart_owns (length b.publications) t LockKinds.Exclusive given.ids given.tombstones xs (over_targets Inserting b t given xs proper ok) ids_once tombs_once;
    replaced = λ t given xs proper ids_once tombs_once ok.
        apart_replaced t given.ids given.tombstones xs (over_targets Replacing b t given xs proper ok) ids_once tombs_once;
    dropped = λ source span fault. record {
      own = pairs_map Differ Differ (unused source span) (λ r q off. off) b.segments apart_before.own;
      pendings = λ r p i j. (let w = In-map (unused source span) r b.segments i in subst (λ (r : SegmentRow). same_id r.id p.id ≡ false) (sym w.2) (apart_before.pendings w.0 p w.1 j));
    };
  }

pub ids_stay_distinct : IdsStayDistinct
ids_stay_distinct b c form s =
    let after = next b c in
    let h = rows_after ApartRows (λ cs rows pubs ps us p u h. apart_fewer rows ps p h) b c form (apart_before b s) (ids_published b s) in
    let once = (chunks_after b c form s).shape.once in
    pairs_append (λ x y. same_id x y ≡ false) (segment_ids after.segments) (pending_ids after.pendings)
    (pairs_mapped (λ x y. same_id x y ≡ false) (λ (r : SegmentRow). r.id) after.segments h.own)
    (pairs_left (λ x y. same_id x y ≡ false) (pending_ids after.pendings) (all_ids after.publications) once)
    (λ x y i j.
    let r = In-map (λ (r : SegmentRow). r.id) x after.segments i in
    let p = In-map (λ (p : PendingRow). p.id) y after.pendings j in
    subst (λ x. same_id x y ≡ false) (sym r.2) (subst (λ y. same_id r.0.id y ≡ false) (sym p.2) (h.pendings r.0 p.0 r.1 p.1)))
