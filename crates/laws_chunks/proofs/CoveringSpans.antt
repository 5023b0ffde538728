-- A new chunk under an exclusive or replacing lock keeps the rules, where what is shown and carried is right.
use Rattle.std.proofs.Common.{List, [], ap, arith, false, filter, inl, inr, int_le, int_lt, length, length-append, map, pos, refl, subst, sym, true, ℕ, ◌++◌, ◌+◌, ◌<◌, ◌∙◌, ◌∷◌, ◌≡◌, ◌≤◌, ◌⊎◌}
use Rattle.std.proofs.lemmas.Bool.{cases_lt, false≢true}
use Rattle.iv_span.specs.Extent.{Extent, covers, overlap}
use Rattle.seg_names.specs.Ids.{same_id}
use Rattle.seg_names.specs.declared.seg_id.SegId.{SegId}
use Rattle.book_rows.specs.Ids.{is_of_span}
use Rattle.book_rows.specs.Kinds.{guards}
use Rattle.book_rows.specs.Lists.{In, Pairs, count}
use Rattle.book_rows.specs.Live.{IsIn, IsOf, IsOwner, IsValid}
use Rattle.book_rows.specs.Rewrite.{own_row, own_rows, tomb_row}
use Rattle.book_rows.specs.Rules.{AreUpgrades, CarriesUpgrades, ShowsContents}
use Rattle.book_rows.specs.declared.rows.Book.{Book}
use Rattle.book_rows.specs.declared.rows.ChunkRow.{ChunkRow}
use Rattle.book_rows.specs.declared.rows.PendingRow.{PendingRow}
use Rattle.book_rows.specs.declared.rows.PosseRow.{PosseRow}
use Rattle.book_rows.specs.declared.rows.Publication.{Publication}
use Rattle.book_rows.specs.declared.rows.SegmentRow.{SegmentRow}
use Rattle.book_rows.specs.declared.rows.UpgradeRow.{UpgradeRow}
use Rattle.laws_chunks.proofs.ChangeFacts.{HasCopy, IsAbove, IsLaid, IsNewCopy}
use Rattle.laws_chunks.proofs.ChunkRows.{rows_push}
use Rattle.laws_chunks.proofs.LaidChunks.{laid_below_locks, laid_chunks, laid_copies, laid_cores, laid_one_span, laid_rooted}
use Rattle.laws_chunks.proofs.LockFacts.{above_all, beside_exclusive, beside_replace}
use Rattle.laws_chunks.proofs.Members.{In-append, In-left, In-map}
use Rattle.laws_chunks.proofs.Spans.{le_from, overlap_self, overlap_swap, overlap_wider, same_id_means}
use Rattle.laws_chunks.proofs.Meanings.{count_pos, once}
use Rattle.laws_chunks.proofs.OnceAdded.{added_grown, once_grown, pendings_once}
use Rattle.laws_chunks.specs.ChunksSound.{AreChunksSound, AreProperRoots, all_ids}
use Rattle.laws_chunks.specs.Covering.{IsSpan, span_grown}
use Rattle.laws_chunks.specs.Growing.{building}
use Rattle.book_rows.specs.declared.kinds.LockKind.TheVariants as LockKinds

module _ (ms : List Publication) (m : Publication) (b : Book) (p : PosseRow) (d : ChunkRow) (k : ℕ) (ids tombs : List SegId) (sp : IsSpan b m p d k ids tombs) (h : AreChunksSound (building ms m b))
    (kind : (p.lock_kind ≡ LockKinds.Exclusive) ⊎ (p.lock_kind ≡ LockKinds.Replace)) where
  guarding : guards p.lock_kind ≡ true
  guarding = elim kind [ inl e ↦ rw e refl | inr r ↦ rw r refl ]

  not_append : p.lock_kind ≡ LockKinds.Append → ⊥
  not_append e = elim kind [ inl x ↦ cc | inr x ↦ cc ]

  high : int_lt (pos 0) p.version ≡ true
  high = elim (h.shape.versions p sp.is_valid.among) [ inl off ↦ absurd (not_append off.0) | inr on ↦ on ]

  -- no other guarding lock meets the lock's span
  alone : (q : PosseRow) → IsValid b.posses q → guards q.lock_kind ≡ true → q.source ≡ p.source → overlap q.span p.span ≡ true → q ≡ p
  alone q v g source o = elim kind [
    | inl e ↦ beside_exclusive b.posses h.compatible_locks q p v sp.is_valid e source o
    | inr r ↦ elim (beside_replace b.posses h.compatible_locks q p v sp.is_valid r source o) [
      | inl same ↦ same
      | inr other ↦ absurd (false≢true (rw other.0 at g))
    ]
  ]

  -- a lock of the chunk's version is the lock
  owner_is : (q : PosseRow) → IsOwner b.posses d q → p ≡ q
  owner_is q o = h.shape.one_version p q sp.is_valid.among o.is_valid.among high (sym sp.version_is ∙ o.version_is)

  above : IsAbove b.segments b.pendings d.source d.span d.version
  above = subst (λ s. IsAbove b.segments b.pendings s d.span d.version) (sym sp.source_is) (subst (λ v. IsAbove b.segments b.pendings p.source d.span v) (sym sp.version_is)
      (above_all b.posses b.chunks b.segments b.pendings h.one_span h.below_locks h.cores h.copies h.shape.chunk_rows p d.span sp.is_valid guarding sp.within sp.free))

  is_new : (c : ChunkRow) (a : SegId) → In c b.chunks → IsIn c a → IsIn d a → ⊥
  is_new c a i e f = sp.free (record {
    chunk = c;
    among = i;
    source_is = sym e.source_is ∙ f.source_is ∙ sp.source_is;
    version_is = sym e.version_is ∙ f.version_is ∙ sp.version_is;
    meets = subst (λ (s : Extent). overlap s d.span ≡ true) (sym f.span_is ∙ e.span_is) (overlap_self d.span sp.proper);
  })

  own_in : (n : SegmentRow) → In n (own_rows k ids tombs d.span) → IsIn d n.id
  own_in n i = elim (In-append n (map (own_row k) (filter (is_of_span d.span) ids)) (map (tomb_row k) (filter (is_of_span d.span) tombs)) i) [
    | inl j ↦ (let w = In-map (own_row k) n (filter (is_of_span d.span) ids) j in subst (λ (n : SegmentRow). IsIn d n.id) (sym w.2) (sp.ids_of w.0 w.1))
    | inr j ↦ (let w = In-map (tomb_row k) n (filter (is_of_span d.span) tombs) j in subst (λ (n : SegmentRow). IsIn d n.id) (sym w.2) (sp.tombs_of w.0 w.1))
  ]

  module _ (extra : List SegmentRow) (copies : List PendingRow) (extra_in : (n : SegmentRow) → In n extra → IsIn d n.id)
      (copies_of : (x : PendingRow) → In x copies → IsNewCopy b.pendings d.source d.span d.version x)
      (copied : (r : PendingRow) → In r b.pendings → r.id ≡ r.root → r.id.source ≡ d.source → overlap r.id.span d.span ≡ true → HasCopy copies d.span r)
      (apart_ids : Pairs (λ x y. same_id x.id y.id ≡ false) copies) (parts : (x : PendingRow) → In x copies → x.id.part < d.next) (copies_high : (x : PendingRow) → In x copies → d.core ≤ x.id.part) where
    laid : IsLaid b.posses b.chunks b.segments b.pendings d (own_rows k ids tombs d.span ++ extra) copies
    laid = record {
      above = above;
      is_new = is_new;
      has_core = sp.has_core;
      whole = λ i lt. (let w = sp.whole i lt in (w.0, In-left w.0 (own_rows k ids tombs d.span) extra w.1, w.2, w.3, w.4));
      rows_of = λ n i. elim (In-append n (own_rows k ids tombs d.span) extra i) [ inl j ↦ own_in n j | inr j ↦ extra_in n j ];
      copies_of = copies_of;
      copied = copied;
      guarded = λ q v g source o. (let one = alone q v g (sym source ∙ sp.source_is) (overlap_swap p.span q.span (overlap_wider p.span d.span q.span sp.within o)) in le_from d.version q.version (sp.version_is ∙ ap (λ (x : PosseRow). x.version) (sym one)));
      positive = rw sp.version_is high;
      not_shared = λ q o s. shared_not (ap (λ (x : PosseRow). x.lock_kind) (owner_is q o) ∙ s);
      within = λ q o. subst (λ (q : PosseRow). covers q.span d.span ≡ true) (owner_is q o) sp.within;
    } where
      shared_not : p.lock_kind ≡ LockKinds.Shared → ⊥
      shared_not s = elim kind [ inl x ↦ cc | inr x ↦ cc ]

    old_live : (x : PendingRow) → In x b.pendings → IsIn d x.id → ⊥
    old_live x i e = let c = h.shape.chunk_rows x.id (inr (x, i, refl)) in is_new c.0 x.id c.1 c.2 e

    old_id : (a : SegId) → In a (all_ids (ms ++ m ∷ [])) → IsIn d a → ⊥
    old_id a i e = let w = h.shape.added a i in is_new w.chunk a w.among w.is_in e

    own_id : (a : SegId) → In a (filter (is_of_span d.span) ids ++ filter (is_of_span d.span) tombs) → IsIn d a
    own_id a i = elim (In-append a (filter (is_of_span d.span) ids) (filter (is_of_span d.span) tombs) i) [ inl j ↦ sp.ids_of a j | inr j ↦ sp.tombs_of a j ]

    low : (a : SegId) → In a (filter (is_of_span d.span) ids ++ filter (is_of_span d.span) tombs) → a.part < d.next
    low a i = let under = sp.parts a i in let next = sp.next_low in omega (arith, under, next)

    -- parts of ids and tombstones are below the core, those of copies aren't
    news : (a : SegId) → count (λ p. same_id p.id a) copies + count (λ x. same_id x a) (filter (is_of_span d.span) ids ++ filter (is_of_span d.span) tombs) ≤ 1
    news a =
        let own : count (λ x. same_id x a) (filter (is_of_span d.span) ids ++ filter (is_of_span d.span) tombs) ≤ 1 = once a (filter (is_of_span d.span) ids ++ filter (is_of_span d.span) tombs) sp.distinct in
        let copied : count (λ p. same_id p.id a) copies ≤ 1 = pendings_once a copies apart_ids in
        elim (cases_lt 0 (count (λ p. same_id p.id a) copies)) [
          | inr none ↦ omega (arith, own, none)
          | inl some ↦ elim (cases_lt 0 (count (λ x. same_id x a) (filter (is_of_span d.span) ids ++ filter (is_of_span d.span) tombs))) [
            | inr none ↦ omega (arith, copied, none)
            | inl also ↦
                let x = count_pos (λ (p : PendingRow). same_id p.id a) copies some in
                let y = count_pos (λ x. same_id x a) (filter (is_of_span d.span) ids ++ filter (is_of_span d.span) tombs) also in
                let high = copies_high x.0 x.1 in
                let under = sp.parts y.0 y.1 in
                let one : x.0.id.part ≡ a.part = ap (λ (a : SegId). a.part) (same_id_means x.0.id a x.2) in
                let other : y.0.part ≡ a.part = ap (λ (a : SegId). a.part) (same_id_means y.0 a y.2) in
                absurd (omega (arith, high, under, one, other))
          ]
        ]

    pub laid_keeps : (upgrades : List UpgradeRow) (since : ℕ) → AreProperRoots upgrades → AreUpgrades b.posses upgrades (ms ++ span_grown d.span since ids tombs m ∷ [])
        → CarriesUpgrades b.posses (b.chunks ++ d ∷ []) upgrades (ms ++ span_grown d.span since ids tombs m ∷ [])
        → ShowsContents (b.segments ++ (own_rows k ids tombs d.span ++ extra)) (ms ++ span_grown d.span since ids tombs m ∷ [])
        → AreChunksSound (record b { chunks = b.chunks ++ d ∷ []; segments = b.segments ++ (own_rows k ids tombs d.span ++ extra); pendings = b.pendings ++ copies; upgrades = upgrades; publications = ms ++ span_grown d.span since ids tombs m ∷ [] })
    laid_keeps upgrades since proper ups carries shows =
        let as_long : 0 + length (ms ++ span_grown d.span since ids tombs m ∷ []) ≡ 0 + length (ms ++ m ∷ []) = simp length-append refl in
        record {
          shape = record {
            numbers = h.shape.numbers;
            below = h.shape.below;
            versions = h.shape.versions;
            append_zero = h.shape.append_zero;
            upto = h.shape.upto;
            one_version = h.shape.one_version;
            sinces = λ q i. (let was = h.shape.sinces q i in omega (arith, was, as_long));
            last_low = h.shape.last_low;
            chunk_upto = λ c i. elim (In-append c b.chunks (d ∷ []) i) [
              | inl j ↦ h.shape.chunk_upto c j
              | inr (inl is) ↦ subst (λ (c : ChunkRow). int_le c.version b.last ≡ true) (sym is) (rw sp.version_is (h.shape.upto p sp.is_valid.among))
              | inr (inr j) ↦ absurd j
            ];
            chunk_rows = laid_chunks b.posses b.chunks b.segments b.pendings d (own_rows k ids tombs d.span ++ extra) copies laid h.shape.chunk_rows;
            chunk_spans = λ c i. elim (In-append c b.chunks (d ∷ []) i) [
              | inl j ↦ h.shape.chunk_spans c j
              | inr (inl is) ↦ subst (λ (c : ChunkRow). int_lt c.span.start c.span.end ≡ true) (sym is) sp.proper
              | inr (inr j) ↦ absurd j
            ];
            root_spans = λ x i. elim (In-append x b.pendings copies i) [
              | inl j ↦ h.shape.root_spans x j
              | inr j ↦ (let c = copies_of x j in subst (λ (a : SegId). int_lt a.span.start a.span.end ≡ true) (sym (c.root_is ∙ c.is_root)) (h.shape.root_spans c.root c.among))
            ];
            upgrade_spans = proper;
            once = once_grown ms m (filter (is_of_span d.span) ids) (filter (is_of_span d.span) tombs) (span_grown d.span since ids tombs m) refl refl d b.pendings copies old_live old_id (λ x i. (copies_of x i).is_of) own_id news h.shape.once;
            added = added_grown ms m (filter (is_of_span d.span) ids) (filter (is_of_span d.span) tombs) (span_grown d.span since ids tombs m) refl refl b.chunks d (λ a i. (own_id a i, low a i)) h.shape.added;
            rows = rows_push b.chunks d h.shape.rows is_new;
            parts = λ x c i j e. part x c (In-append x b.pendings copies i) (In-append c b.chunks (d ∷ []) j) e;
          };
          compatible_locks = h.compatible_locks;
          one_span = laid_one_span b.posses b.chunks b.segments b.pendings d (own_rows k ids tombs d.span ++ extra) copies laid h.one_span;
          below_locks = laid_below_locks b.posses b.chunks b.segments b.pendings d (own_rows k ids tombs d.span ++ extra) copies laid h.below_locks;
          rooted = laid_rooted b.posses b.chunks b.segments b.pendings d (own_rows k ids tombs d.span ++ extra) copies laid h.rooted;
          upgrades = ups;
          cores = laid_cores b.posses b.chunks b.segments b.pendings d (own_rows k ids tombs d.span ++ extra) copies laid h.cores;
          copies = laid_copies b.posses b.chunks b.segments b.pendings d (own_rows k ids tombs d.span ++ extra) copies laid h.shape.chunk_rows h.copies;
          carried = carries;
          shown_contents = shows;
        } where
          part : (x : PendingRow) (c : ChunkRow) → In x b.pendings ⊎ In x copies → In c b.chunks ⊎ In c (d ∷ []) → IsIn c x.id → x.id.part < c.next
          part x c (inl i) (inl j) e = h.shape.parts x c i j e
          part x c (inl i) (inr (inl is)) e = absurd (old_live x i (subst (λ (c : ChunkRow). IsIn c x.id) is e))
          part x c (inl i) (inr (inr j)) e = absurd j
          part x c (inr i) (inl j) e = absurd (is_new c x.id j e (copies_of x i).is_of)
          part x c (inr i) (inr (inl is)) e = subst (λ (c : ChunkRow). x.id.part < c.next) (sym is) (parts x i)
          part x c (inr i) (inr (inr j)) e = absurd j

  -- an id of the chunk is of the publication's source
  pub of_pub : (a : SegId) → IsIn d a → IsOf m.source d.span d.version a
  of_pub a e = record { source_is = e.source_is ∙ sp.source_is ∙ sp.from; span_is = e.span_is; version_is = e.version_is }

  pub above_pub : IsAbove b.segments b.pendings m.source d.span d.version
  above_pub = subst (λ s. IsAbove b.segments b.pendings s d.span d.version) (sp.source_is ∙ sp.from) above

  pub first_row : (r : SegmentRow) × In r (own_rows k ids tombs d.span)
  first_row = let w = sp.whole 0 sp.has_core in (w.0, w.1)

  pub adds_kept : (since : ℕ) (a : SegId) → In a m.adds → In a (span_grown d.span since ids tombs m).adds
  adds_kept since a i = In-left a m.adds (filter (is_of_span d.span) ids) i
