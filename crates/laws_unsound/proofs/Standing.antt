-- What stands under locks and in chunks: pendings, upgrade rows, cores and copies.
use Rattle.std.proofs.Common.{Bool, List, [], ap, arith, inl, inr, int_lt, not, pos, refl, subst, sym, true, ℕ, ℤ, ◌&&◌, ◌+◌, ◌<◌, ◌∙◌, ◌∷◌, ◌≡◌, ◌⊎◌}
use Rattle.std.proofs.lemmas.Bool.{and_from, and_parts}
use Rattle.std.specs.List.{list_any, range_with_len}
use Rattle.std.specs.Ordering.{int_eq}
use Rattle.std.specs.Prelude.{bytes_eq}
use Rattle.iv_span.specs.Extent.{Extent, covers, overlap}
use Rattle.seg_names.specs.Ids.{same_extent, same_id}
use Rattle.seg_names.specs.declared.seg_id.SegId.{SegId}
use Rattle.book_rows.specs.Allocation.{is_of_chunk}
use Rattle.book_rows.specs.Ids.{same_chunk}
use Rattle.book_rows.specs.Lists.{In, Pairs, count}
use Rattle.book_rows.specs.Live.{DoMeet, IsIn, IsLive, IsOwner, IsWhole}
use Rattle.book_rows.specs.Rules.{HasPosse, HasRoot, HaveCopies, HaveCores, IsAddedSince, IsCopy, IsRooted, IsUpgrade}
use Rattle.book_rows.specs.Shape.{HaveChunks}
use Rattle.book_rows.specs.declared.kinds.LockKind.TheVariants as LockKinds
use Rattle.book_rows.specs.declared.rows.Book.{Book}
use Rattle.book_rows.specs.declared.rows.ChunkRow.{ChunkRow}
use Rattle.book_rows.specs.declared.rows.PendingRow.{PendingRow}
use Rattle.book_rows.specs.declared.rows.PosseRow.{PosseRow}
use Rattle.book_rows.specs.declared.rows.Publication.{Publication}
use Rattle.book_rows.specs.declared.rows.SegmentRow.{SegmentRow}
use Rattle.book_rows.specs.declared.rows.UpgradeRow.{UpgradeRow}
use Rattle.laws_chunks.proofs.IdOrder.{range_In}
use Rattle.laws_chunks.proofs.Members.{count_alike, pair_of}
use Rattle.laws_chunks.proofs.Spans.{lt_not_self}
use Rattle.laws_chunks.proofs.WholeParts.{range_within}
use Rattle.laws_unsound.specs.Breaks.{HasCopies, IsBareAbove, IsLiveChunk}
use Rattle.laws_unsound.specs.ChunkRows.{fits_owner, has_copies, has_core, is_above, is_added_since, is_copy, is_posse_of, is_root_of, is_rooted, is_upgrade, is_whole, lacks_copies, one_lacks, owns}
use Rattle.laws_unsound.specs.Counts.{before_chunks, before_pendings, before_upgrades}
use Rattle.laws_unsound.specs.Laws.{IsRowOfChunkRule, IsRowOfRule}
use Rattle.laws_unsound.specs.Unsound.{Copied, Rooted, Whole}
use Rattle.laws_unsound.proofs.Deciding.{IsTestOf, at_most, below, both, each_in, each_of, either, like, listed, off, on, one_id, one_instant, one_name, one_number, one_of, one_previous, replacing, sharing, sure, unless, where_so}
use Rattle.laws_unsound.proofs.Least.{by_meaning, first_of_two, first_without, last, more, pairs_In, together}
use Rattle.laws_unsound.proofs.LiveChunks.{live, meeting_sources, meeting_spans, row_of_live, rows_meet}
use Rattle.laws_unsound.proofs.Shaping.{in_chunk}

-- ---- pendings

module _ (qs : List PosseRow) (ps : List PendingRow) (p : PendingRow) where
  root_of : IsTestOf (list_any (is_root_of p) ps) (HasRoot ps p)
  root_of = like
      (λ w. record { root = w.0; among = w.1; is_root = w.2.0; root_is = w.2.1.0; posse_is = w.2.1.1.0; sequence_is = w.2.1.1.1.0; previous_is = w.2.1.1.1.1 })
      (λ h. (h.root, h.among, (h.is_root, (h.root_is, (h.posse_is, (h.sequence_is, h.previous_is))))))
      (one_of (λ r. both (one_id r.id r.root) (both (one_id r.id p.root) (both (one_number r.posse p.posse) (both (one_name r.sequence p.sequence) (one_previous r.previous p.previous))))) ps)

  posse_of : IsTestOf (list_any (is_posse_of p) qs) (HasPosse qs p)
  posse_of = like
      (λ w. record { posse = w.0; is_valid = record { among = w.1; valid = w.2.0 }; number_is = w.2.1.0; source_is = w.2.1.1.0; covers_root = w.2.1.1.1 })
      (λ h. (h.posse, h.is_valid.among, (h.is_valid.valid, (h.number_is, (h.source_is, h.covers_root)))))
      (one_of (λ q. both (off q.revoked) (both (one_number q.number p.posse) (both (one_name q.source p.id.source) (on (covers q.span p.root.span))))) qs)

  copy : IsTestOf (is_copy p) (IsCopy p)
  copy = like (λ w. record { covers_root = w.0; above = w.1 }) (λ h. (h.covers_root, h.above)) (both (on (covers p.id.span p.root.span)) (on (int_lt p.root.version p.id.version)))

  rooted : IsTestOf (is_rooted qs ps p) (IsRooted qs ps p)
  rooted = like (λ w. record { has_root = w.0; has_posse = w.1.0; kind_is = w.1.1 }) (λ h. (h.has_root, (h.has_posse, h.kind_is)))
      (both root_of (both posse_of (either (one_id p.id p.root) copy)))

-- ---- upgrade rows

added_since : (since k : ℕ) (pubs : List Publication) (a : SegId) → IsTestOf (is_added_since since k pubs a) (IsAddedSince since k pubs a)
added_since since k [] a = record { means = λ h. absurd (cc); passes = λ none. absurd none }
added_since since k (m ∷ ms) a = either (both (at_most since k) (listed m.adds a)) (added_since since (k + 1) ms a)

upgrade : (qs : List PosseRow) (pubs : List Publication) (u : UpgradeRow) → IsTestOf (is_upgrade qs pubs u) (IsUpgrade qs pubs u)
upgrade qs pubs u = like
    (λ w. record { posse = w.0; is_valid = record { among = w.1; valid = w.2.0 }; number_is = w.2.1.0; kind_is = w.2.1.1.0; covers_root = w.2.1.1.1.0; added = w.2.1.1.1.1 })
    (λ h. (h.posse, h.is_valid.among, (h.is_valid.valid, (h.number_is, (h.kind_is, (h.covers_root, h.added))))))
    (one_of (λ q. both (off q.revoked) (both (one_number q.number u.posse) (both (replacing q.lock_kind) (both (on (covers q.span u.root.span)) (added_since q.since 0 pubs u.root))))) qs)

pub rooted_row : IsRowOfRule Rooted
rooted_row b = together (λ w. w) (λ h. h) (more (first_without (rooted b.posses b.pendings) (before_pendings b) b.pendings) (last (first_without (upgrade b.posses b.publications) (before_upgrades b) b.upgrades)))

-- ---- cores

owner : (qs : List PosseRow) (c : ChunkRow) (q : PosseRow) → In q qs → IsTestOf (owns c q) (IsOwner qs c q)
owner qs c q i = like (λ w. record { is_valid = record { among = i; valid = w.0 }; source_is = w.1.0; version_is = w.1.1 }) (λ h. (h.is_valid.valid, (h.source_is, h.version_is)))
    (both (off q.revoked) (both (one_name c.source q.source) (one_instant c.version q.version)))

whole : (rows : List SegmentRow) (c : ChunkRow) → IsTestOf (is_whole rows c) (IsWhole rows c)
whole rows c = like
    (λ h i l. (let w = h i (subst (λ (n : ℕ). In n (range_with_len 0 c.core)) (zero_add i) (range_In i 0 c.core l)) in (w.0, w.1, w.2.0, w.2.1.0, w.2.1.1)))
    (λ h i j. (let w = h i (within i j) in (w.0, w.1, (w.2, (w.3, w.4)))))
    (each_of (λ i. one_of (λ r. both (on r.used) (both (in_chunk c r.id) (one_number r.id.part i))) rows) (range_with_len 0 c.core)) where
      zero_add : (i : ℕ) → 0 + i ≡ i
      zero_add i = omega arith

      within : (i : ℕ) → In i (range_with_len 0 c.core) → i < c.core
      within i j = let w = range_within i 0 c.core j in let high = w.1 in omega (arith, high)

-- what a valid lock of its version asks of a chunk
record FitsOwner (rows : List SegmentRow) (c : ChunkRow) (q : PosseRow) : Type 0 where
  whole : IsWhole rows c
  shared : q.lock_kind ≡ LockKinds.Shared → c.core ≡ 0
  replace : q.lock_kind ≡ LockKinds.Replace → 0 < c.core
  within : int_lt (pos 0) c.version ≡ true → covers q.span c.span ≡ true

fitting : (rows : List SegmentRow) (c : ChunkRow) (q : PosseRow) → IsTestOf (fits_owner rows c q) (FitsOwner rows c q)
fitting rows c q = like (λ w. record { whole = w.0; shared = w.1.0; replace = w.1.1.0; within = w.1.1.1 }) (λ h. (h.whole, (h.shared, (h.replace, h.within))))
    (both (whole rows c) (both (where_so (sharing q.lock_kind) (one_number c.core 0)) (both (where_so (replacing q.lock_kind) (below 0 c.core)) (where_so (on (int_lt (pos 0) c.version)) (on (covers q.span c.span))))))

module _ (qs : List PosseRow) (rows : List SegmentRow) (ps : List PendingRow) where
  alone : (c d : ChunkRow) → In d (c ∷ []) → d ≡ c
  alone c d (inl e) = e
  alone c d (inr i) = absurd i

  core : (c : ChunkRow) → IsTestOf (has_core qs rows ps c) (HaveCores qs (c ∷ []) rows ps)
  core c = like
      (λ w. record {
        live = λ d a i lives at. subst (λ (x : ChunkRow). IsWhole rows x) (sym (alone c d i)) (w.0 (record { id = a; is_live = lives; is_in = subst (λ (x : ChunkRow). IsIn x a) (alone c d i) at }));
        owned = λ d q i o. subst (λ (x : ChunkRow). IsWhole rows x) (sym (alone c d i)) (w.1.1 q o.is_valid.among (subst (λ (x : ChunkRow). IsOwner qs x q) (alone c d i) o)).whole;
        zero_version = λ d i. subst (λ (x : ChunkRow). x.version ≡ pos 0 → x.core ≡ 0) (sym (alone c d i)) w.1.0;
        shared = λ d q i o. subst (λ (x : ChunkRow). q.lock_kind ≡ LockKinds.Shared → x.core ≡ 0) (sym (alone c d i)) (w.1.1 q o.is_valid.among (subst (λ (x : ChunkRow). IsOwner qs x q) (alone c d i) o)).shared;
        replace = λ d q i o. subst (λ (x : ChunkRow). q.lock_kind ≡ LockKinds.Replace → 0 < x.core) (sym (alone c d i)) (w.1.1 q o.is_valid.among (subst (λ (x : ChunkRow). IsOwner qs x q) (alone c d i) o)).replace;
        within = λ d q i o. subst (λ (x : ChunkRow). int_lt (pos 0) x.version ≡ true → covers q.span x.span ≡ true) (sym (alone c d i)) (w.1.1 q o.is_valid.among (subst (λ (x : ChunkRow). IsOwner qs x q) (alone c d i) o)).within;
      })
      (λ h. (
        λ x. h.live c x.id (inl refl) x.is_live x.is_in,
        (
          λ e. h.zero_version c (inl refl) e,
          λ q i o. record { whole = h.owned c q (inl refl) o; shared = h.shared c q (inl refl) o; replace = h.replace c q (inl refl) o; within = h.within c q (inl refl) o },
        ),
      ))
      (both (where_so (live rows ps c) (whole rows c)) (both (where_so (one_instant c.version (pos 0)) (one_number c.core 0)) (each_in qs (λ q i. where_so (owner qs c q i) (fitting rows c q)))))

  cores_of : (cs : List ChunkRow) → ((c : ChunkRow) → In c cs → HaveCores qs (c ∷ []) rows ps) → HaveCores qs cs rows ps
  cores_of cs h = record {
    live = λ c a i lives at. (h c i).live c a (inl refl) lives at;
    owned = λ c q i o. (h c i).owned c q (inl refl) o;
    zero_version = λ c i e. (h c i).zero_version c (inl refl) e;
    shared = λ c q i o k. (h c i).shared c q (inl refl) o k;
    replace = λ c q i o k. (h c i).replace c q (inl refl) o k;
    within = λ c q i o v. (h c i).within c q (inl refl) o v;
  }

  each_core : (cs : List ChunkRow) → HaveCores qs cs rows ps → (c : ChunkRow) → In c cs → HaveCores qs (c ∷ []) rows ps
  each_core cs h c i = record {
    live = λ d a j lives at. h.live d a (among d j) lives at;
    owned = λ d q j o. h.owned d q (among d j) o;
    zero_version = λ d j e. h.zero_version d (among d j) e;
    shared = λ d q j o k. h.shared d q (among d j) o k;
    replace = λ d q j o k. h.replace d q (among d j) o k;
    within = λ d q j o v. h.within d q (among d j) o v;
  } where
    among : (d : ChunkRow) → In d (c ∷ []) → In d cs
    among d j = subst (λ (x : ChunkRow). In x cs) (sym (alone c d j)) i

pub whole_row : IsRowOfRule Whole
whole_row b = by_meaning (cores_of b.posses b.segments b.pendings b.chunks) (each_core b.posses b.segments b.pendings b.chunks) (first_without (core b.posses b.segments b.pendings) (before_chunks b) b.chunks)

-- ---- copies

abbrev is_of : List ℕ → Extent → ℤ → SegId → Bool
is_of source s version a = bytes_eq a.source source && same_extent a.span s && int_eq a.version version

-- the row of a chunk and an id in it have the same ids
counted : (d : ChunkRow) (b root : SegId) (ps : List PendingRow) → IsIn d b → count (λ x. is_of_chunk d x.id && same_id x.root root) ps ≡ count (λ x. same_chunk x.id b && same_id x.root root) ps
counted d b root ps at = count_alike (λ x. is_of_chunk d x.id && same_id x.root root) (λ x. same_chunk x.id b && same_id x.root root) ps (λ x i. ap (λ (t : Bool). t && same_id x.root root) (same x.id)) where
  same : (a : SegId) → is_of d.source d.span d.version a ≡ is_of b.source b.span b.version a
  same a = ap (λ (s : List ℕ). is_of s d.span d.version a) (sym at.source_is) ∙ ap (λ (s : Extent). is_of b.source s d.version a) (sym at.span_is) ∙ ap (λ (v : ℤ). is_of b.source b.span v a) (sym at.version_is)

-- the second lies above the first
record IsAbove (rows : List SegmentRow) (ps : List PendingRow) (c d : ChunkRow) : Type 0 where
  low : IsLiveChunk rows ps c
  high : IsLiveChunk rows ps d
  do_meet : DoMeet low.id high.id
  above : int_lt low.id.version high.id.version ≡ true

module _ (rows : List SegmentRow) (ps : List PendingRow) (c d : ChunkRow) where
  lower : (x y : SegId) → IsIn c x → IsIn d y → int_lt c.version d.version ≡ true → int_lt x.version y.version ≡ true
  lower x y i j h = subst (λ (s : ℤ). int_lt s y.version ≡ true) (sym i.version_is) (subst (λ (s : ℤ). int_lt c.version s ≡ true) (sym j.version_is) h)

  lower_rows : (x y : SegId) → IsIn c x → IsIn d y → int_lt x.version y.version ≡ true → int_lt c.version d.version ≡ true
  lower_rows x y i j h = subst (λ (s : ℤ). int_lt s d.version ≡ true) i.version_is (subst (λ (s : ℤ). int_lt x.version s ≡ true) j.version_is h)

  above : IsTestOf (is_above rows ps c d) (IsAbove rows ps c d)
  above = like
      (λ w. (let x = w.0 in let y = w.1.0 in record {
        low = x;
        high = y;
        do_meet = rows_meet c d x.id y.id x.is_in y.is_in w.1.1.0 w.1.1.1.0;
        above = lower x.id y.id x.is_in y.is_in w.1.1.1.1;
      }))
      (λ h. (let x = h.low in let y = h.high in (
        x,
        (
          y,
          (
            meeting_sources c d x.id y.id x.is_in y.is_in h.do_meet,
            (meeting_spans c d x.id y.id x.is_in y.is_in h.do_meet, lower_rows x.id y.id x.is_in y.is_in h.above),
          ),
        ),
      )))
      (both (live rows ps c) (both (live rows ps d) (both (one_name c.source d.source) (both (on (overlap c.span d.span)) (on (int_lt c.version d.version))))))

  copies : (a : SegId) → IsIn d a → IsTestOf (has_copies ps c d) (HasCopies ps c d a)
  copies a at = like
      (λ w. record {
        core = w.0;
        contains = λ r i own j. subst (λ (s : Extent). covers s r.id.span ≡ true) (sym at.span_is) (w.1 r i (own, j)).0;
        copies = λ r i own j. sym (counted d a r.id ps at) ∙ (w.1 r i (own, j)).1;
      })
      (λ h. (h.core, λ r i w. (subst (λ (s : Extent). covers s r.id.span ≡ true) at.span_is (h.contains r i w.0 w.1), counted d a r.id ps at ∙ h.copies r i w.0 w.1)))
      (both (below 0 d.core) (each_of (λ r. where_so (both (one_id r.id r.root) (in_chunk c r.id)) (both (on (covers d.span r.id.span)) (one_number (count (λ x. is_of_chunk d x.id && same_id x.root r.id) ps) 1))) ps))

  bare : IsTestOf (lacks_copies rows ps c d) (IsBareAbove rows ps c d)
  bare = record { means = means; passes = passes } where
    means : lacks_copies rows ps c d ≡ true → IsBareAbove rows ps c d
    means h =
        let p = and_parts (is_above rows ps c d) (not (has_copies ps c d)) h in
        let w = above.means p.0 in
        record { low = w.low; high = w.high; do_meet = w.do_meet; above = w.above; lacks = (unless (copies w.high.id w.high.is_in)).means p.1 }

    passes : IsBareAbove rows ps c d → lacks_copies rows ps c d ≡ true
    passes h = and_from (is_above rows ps c d) (not (has_copies ps c d)) (above.passes (record { low = h.low; high = h.high; do_meet = h.do_meet; above = h.above })) ((unless (copies h.high.id h.high.is_in)).passes h.lacks)

module _ (b : Book) where
  abbrev IsOneBare : ChunkRow → ChunkRow → Type 0
  IsOneBare c d = IsBareAbove b.segments b.pendings c d ⊎ IsBareAbove b.segments b.pendings d c

  abbrev NoneIsBare : ChunkRow → ChunkRow → Type 0
  NoneIsBare c d = IsOneBare c d → ⊥

  module _ (h : HaveChunks b) (none : Pairs NoneIsBare b.chunks) where
    -- two live ids, the second above the first, in the rows of their chunks
    copied : (c d : ChunkRow) (x y : SegId) → In c b.chunks → In d b.chunks → IsIn c x → IsIn d y → IsLive b.segments b.pendings x → IsLive b.segments b.pendings y → DoMeet x y → int_lt x.version y.version ≡ true → HasCopies b.pendings c d y
    copied c d x y i j cx dy lx ly meet v = by (pair_of NoneIsBare c d b.chunks none i j) where
      bare_so : (HasCopies b.pendings c d y → ⊥) → IsBareAbove b.segments b.pendings c d
      bare_so f = record { low = record { id = x; is_live = lx; is_in = cx }; high = record { id = y; is_live = ly; is_in = dy }; do_meet = meet; above = v; lacks = f }

      by : (c ≡ d) ⊎ (NoneIsBare c d ⊎ NoneIsBare d c) → HasCopies b.pendings c d y
      by (inl e) = absurd (lt_not_self c.version d.version (ap (λ (z : ChunkRow). z.version) e) (lower_rows b.segments b.pendings c d x y cx dy v))
      by (inr (inl f)) = sure (copies b.segments b.pendings c d y dy) (λ g. f (inl (bare_so g)))
      by (inr (inr f)) = sure (copies b.segments b.pendings c d y dy) (λ g. f (inr (bare_so g)))

  copies_of_rows : HaveChunks b → Pairs NoneIsBare b.chunks → HaveCopies b.chunks b.segments b.pendings
  copies_of_rows h none = record {
    cores = λ x y d lx ly meet v j dy. (let c = row_of_live b h x lx in (copied h none c.chunk d x y c.among j c.is_in dy lx ly meet v).core);
    contains = λ r y i own ly meet v. (let c = row_of_live b h r.id (inr (r, i, refl)) in let d = row_of_live b h y ly in
        (copied h none c.chunk d.chunk r.id y c.among d.among c.is_in d.is_in (inr (r, i, refl)) ly meet v).contains r i own c.is_in);
    copies = λ r y i own ly meet v. (let c = row_of_live b h r.id (inr (r, i, refl)) in let d = row_of_live b h y ly in
        (copied h none c.chunk d.chunk r.id y c.among d.among c.is_in d.is_in (inr (r, i, refl)) ly meet v).copies r i own c.is_in);
  }

  none_bare : HaveCopies b.chunks b.segments b.pendings → (c d : ChunkRow) → In d b.chunks → IsBareAbove b.segments b.pendings c d → ⊥
  none_bare rule c d j w = w.lacks (record {
    core = rule.cores x.id y.id d x.is_live y.is_live w.do_meet w.above j y.is_in;
    contains = λ r i own at. rule.contains r y.id i own y.is_live (meets r at) (higher r at);
    copies = λ r i own at. rule.copies r y.id i own y.is_live (meets r at) (higher r at);
  }) where
    x : IsLiveChunk b.segments b.pendings c
    x = w.low

    y : IsLiveChunk b.segments b.pendings d
    y = w.high

    meets : (r : PendingRow) → IsIn c r.id → DoMeet r.id y.id
    meets r at = rows_meet c d r.id y.id at y.is_in (meeting_sources c d x.id y.id x.is_in y.is_in w.do_meet) (meeting_spans c d x.id y.id x.is_in y.is_in w.do_meet)

    higher : (r : PendingRow) → IsIn c r.id → int_lt r.id.version y.id.version ≡ true
    higher r at = lower b.segments b.pendings c d r.id y.id at y.is_in (lower_rows b.segments b.pendings c d x.id y.id x.is_in y.is_in w.above)

  rows_of_copies : HaveCopies b.chunks b.segments b.pendings → Pairs NoneIsBare b.chunks
  rows_of_copies rule = pairs_In NoneIsBare b.chunks (λ c d i j. neither c d i j) where
    neither : (c d : ChunkRow) → In c b.chunks → In d b.chunks → NoneIsBare c d
    neither c d i j (inl w) = none_bare rule c d j w
    neither c d i j (inr w) = none_bare rule d c i w

one_bare : (rows : List SegmentRow) (ps : List PendingRow) (c d : ChunkRow) → IsTestOf (one_lacks rows ps c d) (IsBareAbove rows ps c d ⊎ IsBareAbove rows ps d c)
one_bare rows ps c d = either (bare rows ps c d) (bare rows ps d c)

pub copied_row : IsRowOfChunkRule Copied
copied_row = record {
  where_holds = λ b h. (by_meaning (copies_of_rows b h) (rows_of_copies b) (first_of_two (one_bare b.segments b.pendings) (before_chunks b) b.chunks)).where_holds;
  names = λ b. (first_of_two (one_bare b.segments b.pendings) (before_chunks b) b.chunks).names;
}
