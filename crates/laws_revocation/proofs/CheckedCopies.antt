-- The ids of the chunks that a publish makes weren't given; those of the copies that a replacement carries are given with its chunk.
use Rattle.std.proofs.Common.{◌≡◌, ℕ, ◌<◌, ◌+◌, true, false, List, ◌++◌, map, filter, length, Some, None, Option, Ok, sym, ◌∙◌, inl, inr, ap, subst, arith, nat_lt}
use Rattle.std.specs.List.{list_all}
use Rattle.std.proofs.lemmas.Bool.{cases_Bool, false≢true}
use Rattle.std.proofs.lemmas.Bool.Decides.{nat_tests}
use Rattle.iv_span.specs.Extent.{Extent, overlap}
use Rattle.seg_names.specs.Ids.{same_id}
use Rattle.seg_names.specs.declared.seg_id.SegId.{SegId}
use Rattle.book_rows.specs.Allocation.{chunk_of, is_of_chunk, next_of}
use Rattle.book_rows.specs.Lists.{In, gathered}
use Rattle.book_rows.specs.Over.{Replacing, Target, check_over}
use Rattle.book_rows.specs.Publications.{Publish}
use Rattle.book_rows.specs.Rewrite.{chunk_for, copies_of, core_of, how_many, is_copied, is_taken_up, pending_copy, upgrade_copy}
use Rattle.book_rows.specs.Spans.{is_span}
use Rattle.book_rows.specs.declared.kinds.LockKind.{LockKind}
use Rattle.book_rows.specs.declared.kinds.LockKind.TheVariants as LockKinds
use Rattle.book_rows.specs.declared.rows.Book.{Book}
use Rattle.book_rows.specs.declared.rows.ChunkRow.{ChunkRow}
use Rattle.book_rows.specs.declared.rows.PendingRow.{PendingRow}
use Rattle.book_rows.specs.declared.rows.TaskRow.{TaskRow}
use Rattle.laws_chunks.specs.ChunksSound.{HaveDistinctIds}
use Rattle.laws_chunks.proofs.AllottedIds.{of_chunk_from, of_chunk_means}
use Rattle.laws_chunks.proofs.LockFacts.{pair_of}
use Rattle.laws_chunks.proofs.NumberedRows.{length_numbered, numbered_In, numbered_pairs}
use Rattle.laws_chunks.proofs.Spans.{overlap_self}
use Rattle.laws_keys.proofs.NewRows.{IsPendingCopy, pending_copy_at}
use Rattle.laws_keys.proofs.PairLists.{pairs_gathered}
use Rattle.laws_keys.proofs.TargetParts.{apart, spans_apart}
use Rattle.laws_keys.proofs.Targets.{AreTargets, IsMadeIn, over_targets}
use Rattle.laws_revocation.specs.GivenIds.{is_given}
use Rattle.laws_revocation.proofs.ChunkSearch.{find_nothing, find_only, find_past, is_below}

nothing_below : (n : ℕ) → nat_lt n 0 ≡ false
nothing_below n = grind (arith, nat_tests)

module _ (b : Book) (t : TaskRow) (kind : LockKind) (ids tombs : List SegId) (xs : List Target) (g : AreTargets b t kind ids tombs xs) where
  no_chunk_yet : (x : Target) (a : SegId) → In x xs → IsMadeIn t x a → chunk_of a b.chunks ≡ None
  no_chunk_yet x a i made = find_nothing (λ c. is_of_chunk c a) b.chunks (λ c j. elim (cases_Bool (is_of_chunk c a)) [ inr off ↦ off | inl on ↦ absurd (g.fresh x i c a j (of_chunk_means c a on) made) ])

  -- an id of a chunk that is made wasn't given
  pub made_is_new : (x : Target) (a : SegId) → In x xs → IsMadeIn t x a → is_given b.chunks a ≡ false
  made_is_new x a i made = ap (λ (o : Option ChunkRow). nat_lt a.part (next_of o)) (no_chunk_yet x a i made) ∙ nothing_below a.part

module _ (b : Book) (t : TaskRow) (given : Publish) (xs : List Target) (proper : list_all is_span given.spans ≡ true) (ok : check_over Replacing b given t ≡ Ok xs) where
  abbrev the_targets : List Target
  the_targets = xs

  abbrev chunk_at : Target → ChunkRow
  chunk_at x = chunk_for t.source given.ids (how_many (copies_of b t given.ids x)) x

  abbrev copies_at : Target → List PendingRow
  copies_at x = (copies_of b t given.ids x).pendings

  the_spans : AreTargets b t LockKinds.Replace given.ids given.tombstones the_targets
  the_spans = over_targets Replacing b t given xs proper ok

  -- ---- the chunk and the part of a copy

  made_in : (x : Target) (p : PendingRow) → IsPendingCopy b t given.ids x p → IsMadeIn t x p.id
  made_in x p w = record { source_is = ap (λ (q : PendingRow). q.id.source) w.is; span_is = ap (λ (q : PendingRow). q.id.span) w.is; version_is = ap (λ (q : PendingRow). q.id.version) w.is }

  below_next : (part place core taken copied s q : ℕ) → part ≡ place → place < (core + taken) + copied → s ≡ taken → q ≡ copied → part < core + (s + q)
  below_next part place core taken copied s q is h e f = omega arith

  part_below : (x : Target) (p : PendingRow) → IsPendingCopy b t given.ids x p → p.id.part < (chunk_at x).next
  part_below x p w =
      let core = core_of given.ids x.span in
      let taken = filter (is_taken_up x.lock x.span) b.upgrades in
      let copied = filter (is_copied t.source x.span) b.pendings in
      below_next p.id.part w.place core (length taken) (length copied) (length (copies_of b t given.ids x).segments) (length (copies_of b t given.ids x).pendings) (ap (λ (q : PendingRow). q.id.part) w.is) w.high
      (length_numbered (upgrade_copy t.source x.span x.version (length b.publications)) core taken) (length_numbered (pending_copy t.source x.span x.version) (core + length taken) copied)

  -- targets of one span are one
  same_target : (x y : Target) → In x the_targets → In y the_targets → x.span ≡ y.span → y ≡ x
  same_target x y i j e = elim (pair_of (λ (x y : Target). overlap x.span y.span ≡ false) y x the_targets the_spans.disjoint j i) [
    | inl same ↦ same
    | inr (inl off) ↦ absurd (false≢true (sym off ∙ subst (λ (s : Extent). overlap s x.span ≡ true) e (overlap_self x.span (the_spans.filled x i).proper)))
    | inr (inr off) ↦ absurd (false≢true (sym off ∙ subst (λ (s : Extent). overlap x.span s ≡ true) e (overlap_self x.span (the_spans.filled x i).proper)))
  ]

  -- it is the new chunk's
  new_chunk_is : (x : Target) (a : SegId) → In x the_targets → IsMadeIn t x a → chunk_of a (b.chunks ++ map chunk_at the_targets) ≡ Some (chunk_at x)
  new_chunk_is x a i made =
      find_past (λ c. is_of_chunk c a) b.chunks (map chunk_at the_targets) (no_chunk_yet b t LockKinds.Replace given.ids given.tombstones the_targets the_spans x a i made)
      ∙ find_only (λ c. is_of_chunk c a) chunk_at the_targets x i (of_chunk_from (chunk_at x) a made)
      (λ y j on. same_target x y i j (sym made.span_is ∙ (of_chunk_means (chunk_at y) a on).span_is))

  -- ---- any copy

  pub copy_is_new : (p : PendingRow) → In p (gathered copies_at the_targets) → is_given b.chunks p.id ≡ false
  copy_is_new p i =
      let w = pending_copy_at b t given.ids the_targets p i in
      made_is_new b t LockKinds.Replace given.ids given.tombstones the_targets the_spans w.0 p.id w.1 (made_in w.0 p w.2)

  pub copy_is_given : (p : PendingRow) → In p (gathered copies_at the_targets) → is_given (b.chunks ++ map chunk_at the_targets) p.id ≡ true
  copy_is_given p i =
      let w = pending_copy_at b t given.ids the_targets p i in
      ap (λ (o : Option ChunkRow). nat_lt p.id.part (next_of o)) (new_chunk_is w.0 p.id w.1 (made_in w.0 p w.2)) ∙ is_below p.id.part (chunk_at w.0).next (part_below w.0 p w.2)

  -- ---- no two copies have one id

  abbrev Differ : PendingRow → PendingRow → Type 0
  Differ p q = same_id p.id q.id ≡ false

  other_part : (x : Target) (i j : ℕ) (p q : PendingRow) → i < j → Differ (pending_copy t.source x.span x.version i p) (pending_copy t.source x.span x.version j q)
  other_part x i j p q lt = apart (pending_copy t.source x.span x.version i p).id (pending_copy t.source x.span x.version j q).id (λ e. not_both (ap (λ (a : SegId). a.part) e)) where
    not_both : i ≡ j → ⊥
    not_both e = omega arith

  other_span : (x z : Target) → In x the_targets → In z the_targets → overlap x.span z.span ≡ false → (p q : PendingRow) → In p (copies_at x) → In q (copies_at z) → Differ p q
  other_span x z i j off p q k l =
      spans_apart b t LockKinds.Replace given.ids given.tombstones the_targets the_spans p.id q.id x z i off
      (made_in x p (numbered_In (pending_copy t.source x.span x.version) (core_of given.ids x.span + length (filter (is_taken_up x.lock x.span) b.upgrades)) (filter (is_copied t.source x.span) b.pendings) p k))
      (made_in z q (numbered_In (pending_copy t.source z.span z.version) (core_of given.ids z.span + length (filter (is_taken_up z.lock z.span) b.upgrades)) (filter (is_copied t.source z.span) b.pendings) q l))

  pub copies_differ : HaveDistinctIds (gathered copies_at the_targets)
  copies_differ =
      pairs_gathered Differ (λ (x z : Target). overlap x.span z.span ≡ false) copies_at the_targets the_spans.disjoint
      (λ x i. numbered_pairs Differ (pending_copy t.source x.span x.version) (other_part x) (core_of given.ids x.span + length (filter (is_taken_up x.lock x.span) b.upgrades)) (filter (is_copied t.source x.span) b.pendings))
      other_span
