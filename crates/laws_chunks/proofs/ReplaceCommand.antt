-- A replacement is its spans one after another, and keeps the rules on chunks.
use Rattle.std.proofs.Common.{Bool, List, [], ap, append_assoc, arith, bytes_eq, cond, false, filter, inl, inr, int_lt, length, map, not, refl, subst, sym, true, ℕ, ℤ, ◌&&◌, ◌+◌, ◌++◌, ◌==◌, ◌||◌, ◌∙◌, ◌∷◌, ◌≡◌, ◌⊎◌}
use Rattle.std.proofs.lemmas.Bool.{and_parts, cases_Bool, false≢true}
use Rattle.std.proofs.lemmas.List.{append-nil, map-append}
use Rattle.std.proofs.lemmas.List.Elements.{filter-append}
use Rattle.std.proofs.lemmas.List.Folds.{list_any-append}
use Rattle.iv_span.specs.Extent.{Extent, covers, overlap}
use Rattle.book_rows.specs.Allocation.{is_root}
use Rattle.book_rows.specs.Ids.{is_of_span}
use Rattle.book_rows.specs.Lists.{In, gathered}
use Rattle.book_rows.specs.Offsets.{advanced}
use Rattle.book_rows.specs.Over.{Target}
use Rattle.book_rows.specs.Publications.{Publish, in_spans, publication_of}
use Rattle.book_rows.specs.Rewrite.{chunk_for, copies_for, copies_of, core_of, how_many, is_copied, is_taken_up, is_used_up, own_rows, pending_copy}
use Rattle.book_rows.specs.Sequences.{published}
use Rattle.book_rows.specs.declared.answers.Copies.{Copies}
use Rattle.book_rows.specs.declared.rows.Book.{Book}
use Rattle.book_rows.specs.declared.rows.ChunkRow.{ChunkRow}
use Rattle.book_rows.specs.declared.rows.PendingRow.{PendingRow}
use Rattle.book_rows.specs.declared.rows.Publication.{Publication}
use Rattle.book_rows.specs.declared.rows.SegmentRow.{SegmentRow}
use Rattle.book_rows.specs.declared.rows.SpanSince.{SpanSince}
use Rattle.book_rows.specs.declared.rows.TaskRow.{TaskRow}
use Rattle.book_rows.specs.declared.rows.UpgradeRow.{UpgradeRow}
use Rattle.laws_chunks.specs.Appending.{IsTaken}
use Rattle.laws_chunks.specs.ChunksSound.{AreChunksSound, AreProperRoots}
use Rattle.laws_chunks.specs.Covering.{IsReplace, span_copies, upgrades_left}
use Rattle.laws_chunks.specs.Inserts.{AreDisjoint}
use Rattle.laws_chunks.specs.Replacements.{IsReplaceSpan, ReplacedKeeps}
use Rattle.laws_chunks.proofs.InsertCommand.{core_some, gathered_last, is_apart, publication_grows, spans_publication}
use Rattle.laws_chunks.proofs.LosingLocks.{filter_all}
use Rattle.laws_chunks.proofs.Members.{In-append, In-filter, In-left, In-map, In-right, any_In, pairs_between}
use Rattle.laws_chunks.proofs.NumberedRows.{numbered_In}
use Rattle.laws_chunks.proofs.OtherTables.{others_keep}
use Rattle.laws_chunks.proofs.PublicationOrder.{count_placed, gathered_In, of_spans, same_adds_keep, spans_differ}
use Rattle.laws_chunks.proofs.PushingPublications.{push_keeps}
use Rattle.laws_chunks.proofs.ReorderedRows.{orders_have_same_used, same_used_keeps}
use Rattle.laws_chunks.proofs.ReplacingSpans.{replace_keeps}
use Rattle.laws_chunks.proofs.Spans.{covers_self, overlap_both}
use Rattle.book_rows.specs.declared.kinds.PubKind.TheVariants as PubKinds

-- ---- lists

-- where each fails none is left
filter_none : {X : Type 0} (test : X → Bool) (xs : List X) → ((x : X) → In x xs → test x ≡ false) → filter test xs ≡ []
filter_none test [] h = refl
filter_none test (x ∷ xs) h = rw (h x (inl refl)) (filter_none test xs (λ y i. h y (inr i)))

-- those that pass one test pass the other too
filter_within : {X : Type 0} (test kept : X → Bool) (xs : List X) → ((x : X) → In x xs → test x ≡ true → kept x ≡ true) → filter test (filter kept xs) ≡ filter test xs
filter_within test kept [] h = refl
filter_within test kept (x ∷ xs) h = step (kept x) (test x) (filter_within test kept xs (λ y i. h y (inr i))) refl refl where
  step : (c d : Bool) → filter test (filter kept xs) ≡ filter test xs → kept x ≡ c → test x ≡ d → filter test (cond (kept x) (x ∷ filter kept xs) (filter kept xs)) ≡ cond (test x) (x ∷ filter test xs) (filter test xs)
  step true true rest e f = rw e (rw (f, rest) refl)
  step true false rest e f = rw e (rw (f, rest) refl)
  step false true rest e f = absurd (false≢true (sym e ∙ h x (inl refl) f))
  step false false rest e f = rw (e, f) rest

-- upgrade rows that some spans have left, and one more
left_more : (done : List Target) (x : Target) (us : List UpgradeRow) → filter (λ u. not (is_taken_up x.lock x.span u)) (filter (λ u. not (is_used_up done u)) us) ≡ filter (λ u. not (is_used_up (done ++ x ∷ []) u)) us
left_more done x [] = refl
left_more done x (u ∷ us) = rw (list_any-append (λ (x : Target). is_taken_up x.lock x.span u) done (x ∷ []), ← left_more done x us) (step (is_used_up done u) (is_taken_up x.lock x.span u) refl) where
  step : (c d : Bool) → is_taken_up x.lock x.span u ≡ d
      → filter (λ u. not (is_taken_up x.lock x.span u)) (cond (not c) (u ∷ filter (λ u. not (is_used_up done u)) us) (filter (λ u. not (is_used_up done u)) us))
      ≡ cond (not (c || (d || false))) (u ∷ filter (λ u. not (is_taken_up x.lock x.span u)) (filter (λ u. not (is_used_up done u)) us)) (filter (λ u. not (is_taken_up x.lock x.span u)) (filter (λ u. not (is_used_up done u)) us))
  step true d e = refl
  step false true e = rw e refl
  step false false e = rw e refl

-- copies are made of what passes
same_copies : (ps qs : List PendingRow) (us vs : List UpgradeRow) (lock : ℕ) (source : List ℕ) (s : Extent) (v : ℤ) (from k : ℕ) → filter (is_taken_up lock s) us ≡ filter (is_taken_up lock s) vs → filter (is_copied source s) ps ≡ filter (is_copied source s) qs
    → copies_for ps us lock source s v from k ≡ copies_for qs vs lock source s v from k
same_copies ps qs us vs lock source s v from k e f = rw (e, f) refl

-- ---- one span after another

module _ (b : Book) (t : TaskRow) (given : Publish) where
  abbrev chunk_at : Target → ChunkRow
  chunk_at x = chunk_for t.source given.ids (how_many (copies_of b t given.ids x)) x

  abbrev own_at : Target → List SegmentRow
  own_at x = own_rows (length b.publications) given.ids given.tombstones x.span

  abbrev since_at : Target → SpanSince
  since_at x = record { span = x.span; since = x.since }

  abbrev after_spans : List Target → Book
  after_spans xs = record b {
    chunks = b.chunks ++ map chunk_at xs;
    segments = b.segments ++ gathered (λ x. own_at x ++ (copies_of b t given.ids x).segments) xs;
    pendings = b.pendings ++ gathered (λ x. (copies_of b t given.ids x).pendings) xs;
    upgrades = filter (λ u. not (is_used_up xs u)) b.upgrades;
    publications = b.publications ++ spans_publication PubKinds.Replace t since_at given xs ∷ [];
  }

  none_yet : AreChunksSound b → AreChunksSound (after_spans [])
  none_yet h =
      subst (λ cs. AreChunksSound (record b { chunks = cs; segments = b.segments ++ []; pendings = b.pendings ++ []; upgrades = filter (λ u. true) b.upgrades; publications = b.publications ++ publication_of PubKinds.Replace t [] (in_spans [] [] [] given.ranges) ∷ [] })) (sym (append-nil b.chunks))
      (subst (λ rows. AreChunksSound (record b { segments = rows; pendings = b.pendings ++ []; upgrades = filter (λ u. true) b.upgrades; publications = b.publications ++ publication_of PubKinds.Replace t [] (in_spans [] [] [] given.ranges) ∷ [] })) (sym (append-nil b.segments))
      (subst (λ ps. AreChunksSound (record b { pendings = ps; upgrades = filter (λ u. true) b.upgrades; publications = b.publications ++ publication_of PubKinds.Replace t [] (in_spans [] [] [] given.ranges) ∷ [] })) (sym (append-nil b.pendings))
      (subst (λ us. AreChunksSound (record b { upgrades = us; publications = b.publications ++ publication_of PubKinds.Replace t [] (in_spans [] [] [] given.ranges) ∷ [] })) (sym (filter_all b.upgrades))
      (push_keeps (publication_of PubKinds.Replace t [] (in_spans [] [] [] given.ranges)) b refl refl refl h))))

  -- a copy of a root pending is in its own span's chunk
  copy_span : (xs : List Target) (r : PendingRow) → In r (gathered (λ x. (copies_of b t given.ids x).pendings) xs) → (y : Target) × In y xs × (r.id.span ≡ y.span)
  copy_span xs r i =
      let w = gathered_In (λ x. (copies_of b t given.ids x).pendings) xs r i in
      let z = numbered_In (pending_copy t.source w.0.span w.0.version) (core_of given.ids w.0.span + length (filter (is_taken_up w.0.lock w.0.span) b.upgrades)) (filter (is_copied t.source w.0.span) b.pendings) r w.2 in
      (w.0, w.1, ap (λ (x : PendingRow). x.id.span) z.is)

  module _ (proper_roots : AreProperRoots b.upgrades) (done : List Target) (x : Target) (off : (y : Target) → In y done → overlap y.span x.span ≡ false) (proper : (y : Target) → In y done → int_lt y.span.start y.span.end ≡ true) (g : IsReplaceSpan b t given.ids given.tombstones x) where
    -- what the span takes up isn't used up before
    taken_same : filter (is_taken_up x.lock x.span) (filter (λ u. not (is_used_up done u)) b.upgrades) ≡ filter (is_taken_up x.lock x.span) b.upgrades
    taken_same = filter_within (is_taken_up x.lock x.span) (λ u. not (is_used_up done u)) b.upgrades (λ u i on. kept u i (and_parts (u.posse == x.lock) (covers x.span u.root.span) on).1 (is_used_up done u) refl) where
      kept : (u : UpgradeRow) → In u b.upgrades → covers x.span u.root.span ≡ true → (c : Bool) → is_used_up done u ≡ c → not (is_used_up done u) ≡ true
      kept u i within false e = rw e refl
      kept u i within true e =
          let w = any_In (λ (y : Target). is_taken_up y.lock y.span u) done e in
          let over = (and_parts (u.posse == w.0.lock) (covers w.0.span u.root.span) w.2).1 in
          absurd (false≢true (sym (off w.0 w.1) ∙ overlap_both w.0.span x.span u.root.span over within (proper_roots u i)))

    -- and no copy of before is copied
    copied_same : filter (is_copied t.source x.span) (b.pendings ++ gathered (λ x. (copies_of b t given.ids x).pendings) done) ≡ filter (is_copied t.source x.span) b.pendings
    copied_same =
        filter-append (is_copied t.source x.span) b.pendings (gathered (λ x. (copies_of b t given.ids x).pendings) done)
        ∙ rw (filter_none (is_copied t.source x.span) (gathered (λ x. (copies_of b t given.ids x).pendings) done) (λ r i. apart r (copy_span done r i))) (append-nil (filter (is_copied t.source x.span) b.pendings)) where
          apart : (r : PendingRow) → (y : Target) × In y done × (r.id.span ≡ y.span) → is_copied t.source x.span r ≡ false
          apart r w = elim (cases_Bool (is_copied t.source x.span r)) [
            | inr not_copied ↦ not_copied
            | inl on ↦
                let within : covers x.span w.0.span ≡ true = subst (λ (s : Extent). covers x.span s ≡ true) w.2 (and_parts (is_root r && bytes_eq r.id.source t.source) (covers x.span r.id.span) on).1 in
                absurd (false≢true (sym (off w.0 w.1) ∙ overlap_both w.0.span x.span w.0.span (covers_self w.0.span) within (proper w.0 w.1)))
          ]

    copies_are : span_copies (after_spans done) g.filled.lock (chunk_at x) (length b.publications) ≡ copies_of b t given.ids x
    copies_are = subst (λ n. copies_for (b.pendings ++ gathered (λ x. (copies_of b t given.ids x).pendings) done) (filter (λ u. not (is_used_up done u)) b.upgrades) n t.source x.span x.version (core_of given.ids x.span) (length b.publications) ≡ copies_of b t given.ids x) (sym g.number_is)
        (same_copies (b.pendings ++ gathered (λ x. (copies_of b t given.ids x).pendings) done) b.pendings (filter (λ u. not (is_used_up done u)) b.upgrades) b.upgrades x.lock t.source x.span x.version (core_of given.ids x.span) (length b.publications) taken_same copied_same)

    is_replace : IsReplace (after_spans done) (spans_publication PubKinds.Replace t since_at given done) g.filled.lock (chunk_at x) (length b.publications) given.ids given.tombstones
    is_replace = record {
      span = record {
        is_valid = g.filled.is_valid;
        from = g.filled.source_is;
        source_is = sym g.filled.source_is;
        version_is = g.filled.version_is;
        within = g.filled.within;
        proper = g.filled.proper;
        free = λ k. free k (In-append k.chunk b.chunks (map chunk_at done) k.among);
        apart = is_apart PubKinds.Replace t since_at given done x.span (λ x. refl) off;
        ids_of = g.filled.ids_of;
        tombs_of = g.filled.tombs_of;
        distinct = g.filled.distinct;
        parts = g.filled.parts;
        next_low = omega arith;
        has_core = core_some (length (filter (is_of_span x.span) given.ids));
        whole = g.filled.whole;
      };
      is_replace = refl;
      kind_is = g.filled.kind_is;
      roots_within = λ r i root source o. elim (In-append r b.pendings (gathered (λ x. (copies_of b t given.ids x).pendings) done) i) [
        | inl old ↦ g.roots_within r old root source o
        | inr copy ↦ (let w = copy_span done r copy in absurd (false≢true (sym (off w.0 w.1) ∙ subst (λ (s : Extent). overlap s x.span ≡ true) w.2 o)))
      ];
      upgrades_within = λ u i e o. g.upgrades_within u (In-filter (λ u. not (is_used_up done u)) u b.upgrades i).0 (e ∙ g.number_is) o;
      next_is = ap (λ (c : Copies). core_of given.ids x.span + how_many c) (sym copies_are);
    } where
      free : (k : IsTaken (b.chunks ++ map chunk_at done) g.filled.lock x.span) → In k.chunk b.chunks ⊎ In k.chunk (map chunk_at done) → ⊥
      free k (inl i) = g.filled.free (record { chunk = k.chunk; among = i; source_is = k.source_is; version_is = k.version_is; meets = k.meets })
      free k (inr i) = let w = In-map chunk_at k.chunk done i in false≢true (sym (off w.0 w.1) ∙ subst (λ (c : ChunkRow). overlap c.span x.span ≡ true) w.2 k.meets)

    chunks_are : ((b.chunks ++ map chunk_at done) ++ chunk_at x ∷ []) ≡ (b.chunks ++ map chunk_at (done ++ x ∷ []))
    chunks_are = rw (map-append chunk_at done (x ∷ [])) (append_assoc b.chunks (map chunk_at done) (chunk_at x ∷ []))

    rows_are : ((b.segments ++ gathered (λ x. own_at x ++ (copies_of b t given.ids x).segments) done) ++ (own_at x ++ (span_copies (after_spans done) g.filled.lock (chunk_at x) (length b.publications)).segments)) ≡ (b.segments ++ gathered (λ x. own_at x ++ (copies_of b t given.ids x).segments) (done ++ x ∷ []))
    rows_are =
        ap (λ (c : Copies). (b.segments ++ gathered (λ x. own_at x ++ (copies_of b t given.ids x).segments) done) ++ (own_at x ++ c.segments)) copies_are
        ∙ append_assoc b.segments (gathered (λ x. own_at x ++ (copies_of b t given.ids x).segments) done) (own_at x ++ (copies_of b t given.ids x).segments)
        ∙ ap (λ rows. b.segments ++ rows) (sym (gathered_last (λ x. own_at x ++ (copies_of b t given.ids x).segments) done x))

    pendings_are : ((b.pendings ++ gathered (λ x. (copies_of b t given.ids x).pendings) done) ++ (span_copies (after_spans done) g.filled.lock (chunk_at x) (length b.publications)).pendings) ≡ (b.pendings ++ gathered (λ x. (copies_of b t given.ids x).pendings) (done ++ x ∷ []))
    pendings_are =
        ap (λ (c : Copies). (b.pendings ++ gathered (λ x. (copies_of b t given.ids x).pendings) done) ++ c.pendings) copies_are
        ∙ append_assoc b.pendings (gathered (λ x. (copies_of b t given.ids x).pendings) done) (copies_of b t given.ids x).pendings
        ∙ ap (λ ps. b.pendings ++ ps) (sym (gathered_last (λ x. (copies_of b t given.ids x).pendings) done x))

    upgrades_are : upgrades_left g.filled.lock.number x.span (filter (λ u. not (is_used_up done u)) b.upgrades) ≡ filter (λ u. not (is_used_up (done ++ x ∷ []) u)) b.upgrades
    upgrades_are = subst (λ n. upgrades_left n x.span (filter (λ u. not (is_used_up done u)) b.upgrades) ≡ filter (λ u. not (is_used_up (done ++ x ∷ []) u)) b.upgrades) (sym g.number_is) (left_more done x b.upgrades)

    publication_is : publication_of PubKinds.Replace t (map since_at done ++ record { span = x.span; since = g.filled.lock.since } ∷ []) (in_spans [] (gathered (λ x. filter (is_of_span x.span) given.ids) done ++ filter (is_of_span x.span) given.ids) (gathered (λ x. filter (is_of_span x.span) given.tombstones) done ++ filter (is_of_span x.span) given.tombstones) given.ranges) ≡ spans_publication PubKinds.Replace t since_at given (done ++ x ∷ [])
    publication_is = subst (λ n. publication_of PubKinds.Replace t (map since_at done ++ record { span = x.span; since = n } ∷ []) (in_spans [] (gathered (λ x. filter (is_of_span x.span) given.ids) done ++ filter (is_of_span x.span) given.ids) (gathered (λ x. filter (is_of_span x.span) given.tombstones) done ++ filter (is_of_span x.span) given.tombstones) given.ranges) ≡ spans_publication PubKinds.Replace t since_at given (done ++ x ∷ [])) (sym g.since_is)
        (publication_grows PubKinds.Replace t since_at given done x)

    one_more : AreChunksSound (after_spans done) → AreChunksSound (after_spans (done ++ x ∷ []))
    one_more sound = moved chunks_are rows_are pendings_are upgrades_are publication_is
        (replace_keeps (length b.publications) b.publications (spans_publication PubKinds.Replace t since_at given done) g.filled.lock (chunk_at x) given.ids given.tombstones (after_spans done) is_replace sound) where
          moved : {cs cs' : List ChunkRow} {rows rows' : List SegmentRow} {ps ps' : List PendingRow} {us us' : List UpgradeRow} {m m' : Publication} → cs ≡ cs' → rows ≡ rows' → ps ≡ ps' → us ≡ us' → m ≡ m'
              → AreChunksSound (record b { chunks = cs; segments = rows; pendings = ps; upgrades = us; publications = b.publications ++ m ∷ [] }) → AreChunksSound (record b { chunks = cs'; segments = rows'; pendings = ps'; upgrades = us'; publications = b.publications ++ m' ∷ [] })
          moved c r p u m h = subst (λ (x : Book). AreChunksSound x) (λ i. record b { chunks = c i; segments = r i; pendings = p i; upgrades = u i; publications = b.publications ++ m i ∷ [] }) h

  all_more : AreProperRoots b.upgrades → (done xs : List Target) → AreDisjoint (done ++ xs) → ((x : Target) → In x (done ++ xs) → IsReplaceSpan b t given.ids given.tombstones x) → AreChunksSound (after_spans done) → AreChunksSound (after_spans (done ++ xs))
  all_more roots done [] disjoint g sound = subst (λ xs. AreChunksSound (after_spans xs)) (sym (append-nil done)) sound
  all_more roots done (x ∷ xs) disjoint g sound =
      subst (λ xs. AreChunksSound (after_spans xs)) (append_assoc done (x ∷ []) xs)
      (all_more roots (done ++ x ∷ []) xs (subst (λ xs. AreDisjoint xs) (sym (append_assoc done (x ∷ []) xs)) disjoint) (λ y i. g y (subst (λ xs. In y xs) (append_assoc done (x ∷ []) xs) i))
      (one_more roots done x (λ y i. pairs_between (λ x y. overlap x.span y.span ≡ false) done (x ∷ xs) y x disjoint i (inl refl)) (λ y i. (g y (In-left y done (x ∷ xs) i)).filled.proper) (g x (In-right x done (x ∷ xs) (inl refl))) sound))

pub replaced_keeps : ReplacedKeeps
replaced_keeps b t xs given disjoint placed also g h =
    others_keep b.clock b.tasks (advanced b.offsets t.source given.ranges) b.supervisors (map (published t.group) b.sequences)
    (record b {
      chunks = b.chunks ++ map (λ x. chunk_for t.source given.ids (how_many (copies_of b t given.ids x)) x) xs;
      segments = (b.segments ++ gathered (λ x. own_rows (length b.publications) given.ids given.tombstones x.span) xs) ++ gathered (λ x. (copies_of b t given.ids x).segments) xs;
      pendings = b.pendings ++ gathered (λ x. (copies_of b t given.ids x).pendings) xs;
      upgrades = filter (λ u. not (is_used_up xs u)) b.upgrades;
      publications = b.publications ++ publication_of PubKinds.Replace t (map (λ x. record { span = x.span; since = x.since }) xs) given ∷ [];
    })
    (same_adds_keep b.publications (spans_publication PubKinds.Replace t (λ x. record { span = x.span; since = x.since }) given xs) given.ids given.tombstones
    (record b {
      chunks = b.chunks ++ map (λ x. chunk_for t.source given.ids (how_many (copies_of b t given.ids x)) x) xs;
      segments = (b.segments ++ gathered (λ x. own_rows (length b.publications) given.ids given.tombstones x.span) xs) ++ gathered (λ x. (copies_of b t given.ids x).segments) xs;
      pendings = b.pendings ++ gathered (λ x. (copies_of b t given.ids x).pendings) xs;
      upgrades = filter (λ u. not (is_used_up xs u)) b.upgrades;
      publications = b.publications ++ spans_publication PubKinds.Replace t (λ x. record { span = x.span; since = x.since }) given xs ∷ [];
    })
    (λ a i. of_spans xs given.ids a i)
    (λ root. count_placed xs given.ids root (spans_differ xs disjoint (λ x i. (g x i).filled.proper)) placed)
    (λ root. count_placed xs given.tombstones root (spans_differ xs disjoint (λ x i. (g x i).filled.proper)) also)
    (same_used_keeps ((b.segments ++ gathered (λ x. own_rows (length b.publications) given.ids given.tombstones x.span) xs) ++ gathered (λ x. (copies_of b t given.ids x).segments) xs) (after_spans b t given xs)
    (orders_have_same_used Target (λ x. own_rows (length b.publications) given.ids given.tombstones x.span) (λ x. (copies_of b t given.ids x).segments) b.segments xs)
    (all_more b t given h.shape.upgrade_spans [] xs disjoint g (none_yet b t given h))))
