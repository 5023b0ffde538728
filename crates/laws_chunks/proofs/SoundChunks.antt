-- A sound book's chunks are sound.
use Rattle.std.proofs.Common.{List, arith, cond, false, inl, inr, int_le, int_lt, length, map, nat_le, not, pos, refl, subst, sym, true, ℕ, ℤ, ◌&&◌, ◌+◌, ◌<◌, ◌≡◌, ◌≤◌, ◌∙◌, ◌∷◌, [], ◌⊎◌}
use Rattle.std.proofs.lemmas.Bool.{and_from, and_parts, false≢true}
use Rattle.std.proofs.lemmas.Bool.Decides.{Decides-int_eq, nat_tests}
use Rattle.std.specs.List.{AllByRecursion}
use Rattle.std.specs.Ordering.{int_eq}
use Rattle.iv_span.specs.Extent.{Extent}
use Rattle.seg_names.specs.declared.seg_id.SegId.{SegId}
use Rattle.book_rows.specs.Lists.{In, Pairs}
use Rattle.book_rows.specs.Live.{IsIn, IsLive}
use Rattle.book_rows.specs.Form.{is_id, is_optional_id}
use Rattle.book_rows.specs.Spans.{is_span}
use Rattle.seg_names.specs.Names.{is_name}
use Rattle.iv_time.specs.Range.{is_instant}
use Rattle.book_rows.specs.Shape.{HasChunk, HasShape, all_adds, all_empties, fits_version, is_append, is_chunk_row, is_pending_row, is_upgrade_row, same_version}
use Rattle.book_rows.specs.declared.kinds.LockKind.{LockKind}
use Rattle.book_rows.specs.declared.rows.Book.{Book}
use Rattle.book_rows.specs.declared.rows.ChunkRow.{ChunkRow}
use Rattle.book_rows.specs.declared.rows.PendingRow.{PendingRow}
use Rattle.book_rows.specs.declared.rows.PosseRow.{PosseRow}
use Rattle.book_rows.specs.declared.rows.SegmentRow.{SegmentRow}
use Rattle.laws_chunks.specs.ChunksSound.{HasChunkShape, HasKindVersion, SoundHasSoundChunks}
pub use Rattle.laws_locks.proofs.Lists.{pairs_left, pairs_right}
use Rattle.laws_chunks.proofs.ChunkRows.{one_row}
use Rattle.laws_chunks.proofs.LockFacts.{pair_of}
use Rattle.laws_chunks.proofs.Members.{In-all, In-append, list_all_In, map_In}
use Rattle.laws_chunks.proofs.Spans.{lt_not_self}
use Rattle.book_rows.specs.declared.kinds.LockKind.TheVariants as LockKinds

-- the test on kind and version says what it means
kind_version : (k : LockKind) (v : ℤ) → cond (is_append k) (int_eq v (pos 0)) (int_lt (pos 0) v) ≡ true → ((k ≡ LockKinds.Append) × (v ≡ pos 0)) ⊎ (int_lt (pos 0) v ≡ true)
kind_version LockKinds.Append v h = inl (refl, (Decides-int_eq v (pos 0)).0 h)
kind_version LockKinds.Exclusive v h = inr h
kind_version LockKinds.Shared v h = inr h
kind_version LockKinds.Replace v h = inr h

append_version : (k : LockKind) (v : ℤ) → cond (is_append k) (int_eq v (pos 0)) (int_lt (pos 0) v) ≡ true → k ≡ LockKinds.Append → v ≡ pos 0
append_version LockKinds.Append v h e = (Decides-int_eq v (pos 0)).0 h
append_version LockKinds.Exclusive v h e = cc
append_version LockKinds.Shared v h e = cc
append_version LockKinds.Replace v h e = cc

high_not_append : (k : LockKind) (v : ℤ) → cond (is_append k) (int_eq v (pos 0)) (int_lt (pos 0) v) ≡ true → int_lt (pos 0) v ≡ true → not (is_append k) ≡ true
high_not_append LockKinds.Append v h lt = absurd (lt_not_self (pos 0) v (sym ((Decides-int_eq v (pos 0)).0 h)) lt)
high_not_append LockKinds.Exclusive v h lt = refl
high_not_append LockKinds.Shared v h lt = refl
high_not_append LockKinds.Replace v h lt = refl

all_unmapped : {X Y : Type 0} (P : Y → Type 0) (f : X → Y) (xs : List X) → AllByRecursion P (map f xs) → AllByRecursion (λ x. P (f x)) xs
all_unmapped P f [] h = tt
all_unmapped P f (x ∷ xs) h = (h.0, all_unmapped P f xs h.1)

pub pairs_unmapped : {X Y : Type 0} (R : Y → Y → Type 0) (f : X → Y) (xs : List X) → Pairs R (map f xs) → Pairs (λ x y. R (f x) (f y)) xs
pairs_unmapped R f [] h = tt
pairs_unmapped R f (x ∷ xs) h = (all_unmapped (R (f x)) f xs h.0, pairs_unmapped R f xs h.1)

-- a row within its limits has a span that isn't empty
pub span_of_limits : (s : Extent) → is_span s ≡ true → int_lt s.start s.end ≡ true
span_of_limits s h = (and_parts (is_instant s.start && is_instant s.end) (int_lt s.start s.end) h).1

chunk_span : (c : ChunkRow) → is_chunk_row c ≡ true → int_lt c.span.start c.span.end ≡ true
chunk_span c h =
    let one = and_parts (is_name c.source && is_span c.span) (is_instant c.version) h in
    span_of_limits c.span (and_parts (is_name c.source) (is_span c.span) one.0).1

pub id_span : (a : SegId) → is_id a ≡ true → int_lt a.span.start a.span.end ≡ true
id_span a h =
    let one = and_parts (is_name a.source && is_span a.span && is_instant a.version) (nat_le a.part 4294967295) h in
    let two = and_parts (is_name a.source && is_span a.span) (is_instant a.version) one.0 in
    span_of_limits a.span (and_parts (is_name a.source) (is_span a.span) two.0).1

root_span : (p : PendingRow) → is_pending_row p ≡ true → int_lt p.root.span.start p.root.span.end ≡ true
root_span p h =
    let one = and_parts (is_id p.id && is_id p.root && is_name p.sequence) (is_optional_id p.previous) h in
    let two = and_parts (is_id p.id && is_id p.root) (is_name p.sequence) one.0 in
    id_span p.root (and_parts (is_id p.id) (is_id p.root) two.0).1

at_most : (a b : ℕ) → nat_le a b ≡ true → a ≤ 0 + b
at_most a b h = grind (arith, nat_tests)

module _ (b : Book) (s : HasShape b) where
  fits : (q : PosseRow) → In q b.posses → fits_version q ≡ true
  fits q i = list_all_In fits_version q b.posses i s.versions.kinds

  versions : (q : PosseRow) → In q b.posses → HasKindVersion q
  versions q i = kind_version q.lock_kind q.version (fits q i)

  -- locks of one version above 0 are one
  one_version : (p q : PosseRow) → In p b.posses → In q b.posses → int_lt (pos 0) p.version ≡ true → p.version ≡ q.version → p ≡ q
  one_version p q i j high e = elim (pair_of (λ p q. same_version p q ≡ false) p q b.posses s.versions.distinct i j) [
    | inl same ↦ same
    | inr (inl off) ↦ absurd (false≢true (sym off ∙ and_from _ _ (and_from _ _ p_other q_other) ((Decides-int_eq p.version q.version).1 e)))
    | inr (inr off) ↦ absurd (false≢true (sym off ∙ and_from _ _ (and_from _ _ q_other p_other) ((Decides-int_eq q.version p.version).1 (sym e))))
  ] where
    p_other : not (is_append p.lock_kind) ≡ true
    p_other = high_not_append p.lock_kind p.version (fits p i) high

    q_other : not (is_append q.lock_kind) ≡ true
    q_other = high_not_append q.lock_kind q.version (fits q j) (rw (← e) high)

  chunk_of_pending : (p : PendingRow) → In p b.pendings → HasChunk b.chunks p.id
  chunk_of_pending p i = s.chunks.pendings p.id (map_In (λ (p : PendingRow). p.id) p b.pendings i)

  chunk_rows : (a : SegId) → IsLive b.segments b.pendings a → (c : ChunkRow) × In c b.chunks × IsIn c a
  chunk_rows a (inl u) = let h = s.chunks.segments u.0.id (map_In (λ (r : SegmentRow). r.id) u.0 b.segments u.1) in (h.chunk, h.among, subst (λ (a : SegId). IsIn h.chunk a) u.3 h.is_in)
  chunk_rows a (inr p) = let h = chunk_of_pending p.0 p.1 in (h.chunk, h.among, subst (λ (a : SegId). IsIn h.chunk a) p.2 h.is_in)

  chunk_shape : HasChunkShape b
  chunk_shape = record {
    numbers = s.keys.numbers;
    below = λ q i. In-all (λ q. q.number < b.next_lock) q b.posses i s.keys.below;
    versions = versions;
    append_zero = λ q i e. append_version q.lock_kind q.version (fits q i) e;
    upto = λ q i. list_all_In (λ q. int_le q.version b.last) q b.posses i s.versions.locks;
    one_version = one_version;
    sinces = λ q i. at_most q.since (length b.publications) (list_all_In (λ q. nat_le q.since (length b.publications)) q b.posses i s.commits.locks);
    last_low = (and_parts _ _ s.limits.last).1;
    chunk_upto = λ c i. list_all_In (λ c. int_le c.version b.last) c b.chunks i s.versions.chunks;
    chunk_rows = chunk_rows;
    chunk_spans = λ c i. chunk_span c (list_all_In is_chunk_row c b.chunks i s.limits.chunks);
    root_spans = λ p i. root_span p (list_all_In is_pending_row p b.pendings i s.limits.pendings);
    upgrade_spans = λ u i. id_span u.root (list_all_In is_upgrade_row u b.upgrades i s.limits.upgrades);
    once = s.keys.once;
    added = λ a i. elim (In-append a (all_adds b.publications) (all_empties b.publications) i) [ inl j ↦ s.chunks.adds a j | inr j ↦ s.chunks.empties a j ];
    rows = s.keys.chunks;
    parts = λ p c i j k. (let h = chunk_of_pending p i in subst (λ (c : ChunkRow). p.id.part < c.next) (one_row b.chunks s.keys.chunks h.chunk c p.id h.among j h.is_in k) h.below);
  }

pub sound_has_sound_chunks : SoundHasSoundChunks
sound_has_sound_chunks b s = record {
  shape = chunk_shape b s.shape;
  compatible_locks = s.compatible_locks;
  one_span = s.one_span;
  below_locks = s.below_locks;
  rooted = s.rooted;
  upgrades = s.upgrades;
  cores = s.cores;
  copies = s.copies;
  carried = s.carried;
  shown_contents = s.shown_contents;
}
