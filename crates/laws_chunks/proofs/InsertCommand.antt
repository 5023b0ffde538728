-- An insert is its spans one after another, and keeps the rules on chunks.
use Rattle.std.proofs.Common.{List, [], ap, append_assoc, arith, false, filter, inl, inr, length, map, refl, subst, suc, sym, true, zero, ℕ, ◌++◌, ◌<◌, ◌∙◌, ◌∷◌, ◌≡◌, ◌⊎◌}
use Rattle.std.proofs.lemmas.Bool.{false≢true}
use Rattle.std.proofs.lemmas.List.{append-nil, map-append}
use Rattle.iv_span.specs.Extent.{Extent, overlap}
use Rattle.book_rows.specs.Ids.{is_of_span}
use Rattle.book_rows.specs.Lists.{In, gathered}
use Rattle.book_rows.specs.Offsets.{advanced}
use Rattle.book_rows.specs.Over.{Target}
use Rattle.book_rows.specs.Publications.{Publish, in_spans, publication_of}
use Rattle.book_rows.specs.Rewrite.{chunk_for, core_by, own_rows}
use Rattle.book_rows.specs.Sequences.{published}
use Rattle.book_rows.specs.declared.kinds.PubKind.{PubKind}
use Rattle.book_rows.specs.declared.rows.Book.{Book}
use Rattle.book_rows.specs.declared.rows.ChunkRow.{ChunkRow}
use Rattle.book_rows.specs.declared.rows.Publication.{Publication}
use Rattle.book_rows.specs.declared.rows.SpanSince.{SpanSince}
use Rattle.book_rows.specs.declared.rows.TaskRow.{TaskRow}
use Rattle.laws_chunks.specs.Appending.{IsTaken}
use Rattle.laws_chunks.specs.ChunksSound.{AreChunksSound}
use Rattle.laws_chunks.specs.Covering.{IsInsert}
use Rattle.laws_chunks.specs.Growing.{IsApart}
use Rattle.laws_chunks.specs.Inserts.{AreDisjoint, InsertedKeeps, IsInsertSpan}
use Rattle.laws_chunks.proofs.InsertingSpans.{insert_keeps}
use Rattle.laws_chunks.proofs.Members.{In-append, In-filter, In-map, pairs_between}
use Rattle.laws_chunks.proofs.OtherTables.{others_keep}
use Rattle.laws_chunks.proofs.PublicationOrder.{count_placed, gathered_In, of_spans, same_adds_keep, spans_differ}
use Rattle.laws_chunks.proofs.PushingPublications.{push_keeps}
use Rattle.laws_chunks.proofs.Spans.{same_extent_means}
use Rattle.book_rows.specs.declared.kinds.PubKind.TheVariants as PubKinds

pub gathered_last : {X Y : Type 0} (f : X → List Y) (xs : List X) (x : X) → gathered f (xs ++ x ∷ []) ≡ gathered f xs ++ f x
gathered_last f [] x = append-nil (f x)
gathered_last f (y ∷ ys) x = rw (gathered_last f ys x) (sym (append_assoc (f y) (gathered f ys) (f x)))

pub core_some : (n : ℕ) → 0 < core_by n
core_some zero = omega arith
core_some (suc n) = omega arith

-- ---- the publication, and what is there, after some spans

-- the publication of these spans, with those of the ids and tombstones that are of them
abbrev pub spans_publication : PubKind → TaskRow → (Target → SpanSince) → Publish → List Target → Publication
spans_publication kind t since given xs =
    publication_of kind t (map since xs) (in_spans [] (gathered (λ x. filter (is_of_span x.span) given.ids) xs) (gathered (λ x. filter (is_of_span x.span) given.tombstones) xs) given.ranges)

-- one span more
pub publication_grows : (kind : PubKind) (t : TaskRow) (since : Target → SpanSince) (given : Publish) (xs : List Target) (x : Target)
    → publication_of kind t (map since xs ++ since x ∷ []) (in_spans [] (gathered (λ x. filter (is_of_span x.span) given.ids) xs ++ filter (is_of_span x.span) given.ids) (gathered (λ x. filter (is_of_span x.span) given.tombstones) xs ++ filter (is_of_span x.span) given.tombstones) given.ranges) ≡ spans_publication kind t since given (xs ++ x ∷ [])
publication_grows kind t since given xs x =
    rw (map-append since xs (x ∷ []), gathered_last (λ x. filter (is_of_span x.span) given.ids) xs x, gathered_last (λ x. filter (is_of_span x.span) given.tombstones) xs x) refl

-- a span that overlaps none of the spans is apart from the publication
pub is_apart : (kind : PubKind) (t : TaskRow) (since : Target → SpanSince) (given : Publish) (xs : List Target) (s : Extent) → ((x : Target) → (since x).span ≡ x.span) → ((x : Target) → In x xs → overlap x.span s ≡ false)
    → IsApart s (spans_publication kind t since given xs)
is_apart kind t since given xs s of off = record {
  ids = λ a i. (let w = gathered_In (λ (x : Target). filter (is_of_span x.span) given.ids) xs a i in
      subst (λ (e : Extent). overlap e s ≡ false) (sym (same_extent_means a.span w.0.span (In-filter (is_of_span w.0.span) a given.ids w.2).1)) (off w.0 w.1));
  spans = λ y i. (let w = In-map since y xs i in subst (λ (e : Extent). overlap e s ≡ false) (sym (ap (λ (y : SpanSince). y.span) w.2 ∙ of w.0)) (off w.0 w.1));
}

module _ (b : Book) (t : TaskRow) (given : Publish) where
  abbrev after_spans : List Target → Book
  after_spans xs = record b {
    chunks = b.chunks ++ map (chunk_for t.source given.ids 0) xs;
    segments = b.segments ++ gathered (λ x. own_rows (length b.publications) given.ids given.tombstones x.span) xs;
    publications = b.publications ++ spans_publication PubKinds.Over t (λ x. record { span = x.span; since = 0 }) given xs ∷ [];
  }

  none_yet : AreChunksSound b → AreChunksSound (after_spans [])
  none_yet h =
      subst (λ cs. AreChunksSound (record b { chunks = cs; segments = b.segments ++ []; publications = b.publications ++ publication_of PubKinds.Over t [] (in_spans [] [] [] given.ranges) ∷ [] })) (sym (append-nil b.chunks))
      (subst (λ rows. AreChunksSound (record b { segments = rows; publications = b.publications ++ publication_of PubKinds.Over t [] (in_spans [] [] [] given.ranges) ∷ [] })) (sym (append-nil b.segments))
      (push_keeps (publication_of PubKinds.Over t [] (in_spans [] [] [] given.ranges)) b refl refl refl h))

  module _ (done : List Target) (x : Target) (off : (y : Target) → In y done → overlap y.span x.span ≡ false) (g : IsInsertSpan b t given.ids given.tombstones x) where
    is_insert : IsInsert (after_spans done) (spans_publication PubKinds.Over t (λ x. record { span = x.span; since = 0 }) given done) g.filled.lock (chunk_for t.source given.ids 0 x) (length b.publications) given.ids given.tombstones
    is_insert = record {
      span = record {
        is_valid = g.filled.is_valid;
        from = g.filled.source_is;
        source_is = sym g.filled.source_is;
        version_is = g.filled.version_is;
        within = g.filled.within;
        proper = g.filled.proper;
        free = λ k. free k (In-append k.chunk b.chunks (map (chunk_for t.source given.ids 0) done) k.among);
        apart = is_apart PubKinds.Over t (λ x. record { span = x.span; since = 0 }) given done x.span (λ x. refl) off;
        ids_of = g.filled.ids_of;
        tombs_of = g.filled.tombs_of;
        distinct = g.filled.distinct;
        parts = g.filled.parts;
        next_low = omega arith;
        has_core = core_some (length (filter (is_of_span x.span) given.ids));
        whole = g.filled.whole;
      };
      is_over = refl;
      kind_is = g.filled.kind_is;
      no_pending = g.no_pending;
    } where
      free : (k : IsTaken (b.chunks ++ map (chunk_for t.source given.ids 0) done) g.filled.lock x.span) → In k.chunk b.chunks ⊎ In k.chunk (map (chunk_for t.source given.ids 0) done) → ⊥
      free k (inl i) = g.filled.free (record { chunk = k.chunk; among = i; source_is = k.source_is; version_is = k.version_is; meets = k.meets })
      free k (inr i) = let w = In-map (chunk_for t.source given.ids 0) k.chunk done i in false≢true (sym (off w.0 w.1) ∙ subst (λ (c : ChunkRow). overlap c.span x.span ≡ true) w.2 k.meets)

    one_more : AreChunksSound (after_spans done) → AreChunksSound (after_spans (done ++ x ∷ []))
    one_more sound =
        subst (λ cs. AreChunksSound (record b { chunks = cs; segments = b.segments ++ gathered (λ x. own_rows (length b.publications) given.ids given.tombstones x.span) (done ++ x ∷ []); publications = b.publications ++ spans_publication PubKinds.Over t (λ x. record { span = x.span; since = 0 }) given (done ++ x ∷ []) ∷ [] })) chunks_are
        (subst (λ rows. AreChunksSound (record b { chunks = (b.chunks ++ map (chunk_for t.source given.ids 0) done) ++ chunk_for t.source given.ids 0 x ∷ []; segments = rows; publications = b.publications ++ spans_publication PubKinds.Over t (λ x. record { span = x.span; since = 0 }) given (done ++ x ∷ []) ∷ [] })) rows_are
        (subst (λ m. AreChunksSound (record b { chunks = (b.chunks ++ map (chunk_for t.source given.ids 0) done) ++ chunk_for t.source given.ids 0 x ∷ []; segments = (b.segments ++ gathered (λ x. own_rows (length b.publications) given.ids given.tombstones x.span) done) ++ own_rows (length b.publications) given.ids given.tombstones x.span; publications = b.publications ++ m ∷ [] })) (publication_grows PubKinds.Over t (λ x. record { span = x.span; since = 0 }) given done x)
        (insert_keeps (length b.publications) b.publications (spans_publication PubKinds.Over t (λ x. record { span = x.span; since = 0 }) given done) g.filled.lock (chunk_for t.source given.ids 0 x) given.ids given.tombstones (after_spans done) is_insert sound))) where
          chunks_are : ((b.chunks ++ map (chunk_for t.source given.ids 0) done) ++ chunk_for t.source given.ids 0 x ∷ []) ≡ (b.chunks ++ map (chunk_for t.source given.ids 0) (done ++ x ∷ []))
          chunks_are = rw (map-append (chunk_for t.source given.ids 0) done (x ∷ [])) (append_assoc b.chunks (map (chunk_for t.source given.ids 0) done) (chunk_for t.source given.ids 0 x ∷ []))

          rows_are : ((b.segments ++ gathered (λ x. own_rows (length b.publications) given.ids given.tombstones x.span) done) ++ own_rows (length b.publications) given.ids given.tombstones x.span) ≡ (b.segments ++ gathered (λ x. own_rows (length b.publications) given.ids given.tombstones x.span) (done ++ x ∷ []))
          rows_are = rw (gathered_last (λ x. own_rows (length b.publications) given.ids given.tombstones x.span) done x) (append_assoc b.segments (gathered (λ x. own_rows (length b.publications) given.ids given.tombstones x.span) done) (own_rows (length b.publications) given.ids given.tombstones x.span))

  all_more : (done xs : List Target) → AreDisjoint (done ++ xs) → ((x : Target) → In x xs → IsInsertSpan b t given.ids given.tombstones x) → AreChunksSound (after_spans done) → AreChunksSound (after_spans (done ++ xs))
  all_more done [] disjoint g sound = subst (λ xs. AreChunksSound (after_spans xs)) (sym (append-nil done)) sound
  all_more done (x ∷ xs) disjoint g sound =
      subst (λ xs. AreChunksSound (after_spans xs)) (append_assoc done (x ∷ []) xs)
      (all_more (done ++ x ∷ []) xs (subst (λ xs. AreDisjoint xs) (sym (append_assoc done (x ∷ []) xs)) disjoint) (λ y i. g y (inr i))
      (one_more done x (λ y i. pairs_between (λ x y. overlap x.span y.span ≡ false) done (x ∷ xs) y x disjoint i (inl refl)) (g x (inl refl)) sound))

pub inserted_keeps : InsertedKeeps
inserted_keeps b t xs given disjoint placed also g h =
    others_keep b.clock b.tasks (advanced b.offsets t.source given.ranges) b.supervisors (map (published t.group) b.sequences)
    (record b {
      chunks = b.chunks ++ map (chunk_for t.source given.ids 0) xs;
      segments = b.segments ++ gathered (λ x. own_rows (length b.publications) given.ids given.tombstones x.span) xs;
      publications = b.publications ++ publication_of PubKinds.Over t (map (λ x. record { span = x.span; since = 0 }) xs) given ∷ [];
    })
    (same_adds_keep b.publications (spans_publication PubKinds.Over t (λ x. record { span = x.span; since = 0 }) given xs) given.ids given.tombstones (after_spans b t given xs)
    (λ a i. of_spans xs given.ids a i)
    (λ root. count_placed xs given.ids root (spans_differ xs disjoint (λ x i. (g x i).filled.proper)) placed)
    (λ root. count_placed xs given.tombstones root (spans_differ xs disjoint (λ x i. (g x i).filled.proper)) also)
    (all_more b t given [] xs disjoint g (none_yet b t given h)))
