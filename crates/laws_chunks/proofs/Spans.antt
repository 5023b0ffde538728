-- Spans and ids.
use Rattle.std.proofs.Common.{List, [], ap, arith, false, inl, inr, int_le, int_lt, refl, subst, sym, true, ℕ, ℤ, ◌∙◌, ◌∷◌, ◌≡◌, ◌≤ℤ◌, ◌⊎◌}
use Rattle.std.proofs.lemmas.Bool.{and_from, and_parts, cases_Bool, false≢true}
use Rattle.std.proofs.lemmas.Bool.Decides.{Decides-eqb, Decides-int_eq}
use Rattle.std.proofs.lemmas.Int.{ints}
use Rattle.std.proofs.lemmas.Slice.Eq.{bytes_eq-Decides}
use Rattle.iv_span.specs.Extent.{Extent, covers, has, overlap}
use Rattle.seg_names.specs.Ids.{same_extent, same_id}
use Rattle.seg_names.specs.declared.seg_id.SegId.{SegId}
use Rattle.book_rows.specs.Ids.{same_chunk}
use Rattle.book_rows.specs.Lists.{In, count}
use Rattle.book_rows.specs.Live.{DoMeet, IsIn, IsOf, IsSameChunk}
use Rattle.book_rows.specs.declared.rows.ChunkRow.{ChunkRow}
use Rattle.book_rows.specs.declared.rows.PendingRow.{PendingRow}
pub use Rattle.laws_locks.proofs.Instants.{le_itself, le_le}
use Rattle.laws_chunks.proofs.Members.{In-all, count_none}
use Rattle.laws_chunks.specs.ChunksSound.{HaveDistinctIds}

-- ---- spans

pub lt_le : (x y z : ℤ) → int_lt x y ≡ true → int_le y z ≡ true → int_lt x z ≡ true
lt_le x y z h k = grind (arith, ints)

pub le_lt : (x y z : ℤ) → int_le x y ≡ true → int_lt y z ≡ true → int_lt x z ≡ true
le_lt x y z h k = grind (arith, ints)

pub meet : (a b : Extent) (t : ℤ) → has a t ≡ true → has b t ≡ true → overlap a b ≡ true
meet a b t h k = and_from _ _ (le_lt a.start t b.end (and_parts _ _ h).0 (and_parts _ _ k).1) (le_lt b.start t a.end (and_parts _ _ k).0 (and_parts _ _ h).1)

pub overlap_swap : (a b : Extent) → overlap a b ≡ true → overlap b a ≡ true
overlap_swap a b h = let both = and_parts (int_lt a.start b.end) (int_lt b.start a.end) h in and_from (int_lt b.start a.end) (int_lt a.start b.end) both.1 both.0

-- what overlaps a part overlaps the whole
pub overlap_wider : (a b c : Extent) → covers a b ≡ true → overlap b c ≡ true → overlap a c ≡ true
overlap_wider a b c h k =
    and_from _ _ (le_lt a.start b.start c.end (and_parts _ _ h).0 (and_parts _ _ k).0) (lt_le c.start b.end a.end (and_parts _ _ k).1 (and_parts _ _ h).1)

pub has_wider : (a b : Extent) (t : ℤ) → covers a b ≡ true → has b t ≡ true → has a t ≡ true
has_wider a b t h k = and_from _ _ (le_le a.start b.start t (and_parts _ _ h).0 (and_parts _ _ k).0) (lt_le t b.end a.end (and_parts _ _ k).1 (and_parts _ _ h).1)

pub covers_trans : (a b c : Extent) → covers a b ≡ true → covers b c ≡ true → covers a c ≡ true
covers_trans a b c h k = and_from _ _ (le_le a.start b.start c.start (and_parts _ _ h).0 (and_parts _ _ k).0) (le_le c.end b.end a.end (and_parts _ _ k).1 (and_parts _ _ h).1)

-- two spans that contain one that isn't empty overlap
pub overlap_both : (a b c : Extent) → covers a c ≡ true → covers b c ≡ true → int_lt c.start c.end ≡ true → overlap a b ≡ true
overlap_both a b c h k p =
    and_from (int_lt a.start b.end) (int_lt b.start a.end)
    (lt_le a.start c.end b.end (le_lt a.start c.start c.end (and_parts _ _ h).0 p) (and_parts _ _ k).1)
    (lt_le b.start c.end a.end (le_lt b.start c.start c.end (and_parts _ _ k).0 p) (and_parts _ _ h).1)

-- a span that isn't empty overlaps itself
pub overlap_self : (a : Extent) → int_lt a.start a.end ≡ true → overlap a a ≡ true
overlap_self a h = and_from _ _ h h

pub extents : {a b : Extent} → a.start ≡ b.start → a.end ≡ b.end → a ≡ b
extents p q = λ i. record { start = p i; end = q i }

pub same_extent_means : (a b : Extent) → same_extent a b ≡ true → a ≡ b
same_extent_means a b h = extents ((Decides-int_eq _ _).0 (and_parts _ _ h).0) ((Decides-int_eq _ _).0 (and_parts _ _ h).1)

pub same_extent_from : (a b : Extent) → a ≡ b → same_extent a b ≡ true
same_extent_from a b e = and_from _ _ ((Decides-int_eq _ _).1 (ap (λ (x : Extent). x.start) e)) ((Decides-int_eq _ _).1 (ap (λ (x : Extent). x.end) e))

-- ---- versions

pub lt_not_self : (a b : ℤ) → a ≡ b → int_lt a b ≡ true → ⊥
lt_not_self a b e h = false≢true (sym (irrefl b) ∙ (rw e at h)) where
  irrefl : (b : ℤ) → int_lt b b ≡ false
  irrefl b = grind (arith, ints)

pub lt_not_lt : (a b : ℤ) → int_lt a b ≡ true → int_lt b a ≡ true → ⊥
lt_not_lt a b h k = false≢true (sym (flip a b h) ∙ k) where
  flip : (a b : ℤ) → int_lt a b ≡ true → int_lt b a ≡ false
  flip a b h = grind (arith, ints)

pub le_not_lt : (a b : ℤ) → int_le a b ≡ true → int_lt b a ≡ true → ⊥
le_not_lt a b h k = false≢true (sym (flip a b h) ∙ k) where
  flip : (a b : ℤ) → int_le a b ≡ true → int_lt b a ≡ false
  flip a b h = grind (arith, ints)

pub not_lt_le : (a b : ℤ) → int_lt a b ≡ false → int_le b a ≡ true
not_lt_le a b h = grind (arith, ints)

pub lt_is_le : (a b : ℤ) → int_lt a b ≡ true → int_le a b ≡ true
lt_is_le a b h = grind (arith, ints)

pub le_from : (a b : ℤ) → a ≡ b → int_le a b ≡ true
le_from a b e = rw e (le_itself b)

pub lt_trans_le : (x y z : ℤ) → int_le x y ≡ true → int_lt y z ≡ true → int_lt x z ≡ true
lt_trans_le x y z h k = le_lt x y z h k

pub le_cases : (a b : ℤ) → int_le a b ≡ true → (a ≡ b) ⊎ (int_lt a b ≡ true)
le_cases a b h = elim (cases_Bool (int_lt a b)) [ inl lt ↦ inr lt | inr not_less ↦ inl (both a b h not_less) ] where
  le_is : (a b : ℤ) → int_le a b ≡ true → a ≤ℤ b
  le_is a b h = grind (arith, ints)

  not_lt_is : (a b : ℤ) → int_lt a b ≡ false → b ≤ℤ a
  not_lt_is a b h = grind (arith, ints)

  both : (a b : ℤ) → int_le a b ≡ true → int_lt a b ≡ false → a ≡ b
  both a b h k = omega (arith, ints, le_is a b h, not_lt_is a b k)

pub covers_self : (a : Extent) → covers a a ≡ true
covers_self a = and_from _ _ (le_itself a.start) (le_itself a.end)

-- ---- ids

pub ids_from_fields : (a b : SegId) → a.source ≡ b.source → a.span ≡ b.span → a.version ≡ b.version → a.part ≡ b.part → a ≡ b
ids_from_fields a b p q s t = λ i. record { source = p i; span = q i; version = s i; part = t i }

pub same_chunk_means : (a b : SegId) → same_chunk a b ≡ true → IsSameChunk a b
same_chunk_means a b h =
    let one = and_parts _ _ h in
    let two = and_parts _ _ one.0 in
    record { source_is = (bytes_eq-Decides _ _).0 two.0; span_is = same_extent_means _ _ two.1; version_is = (Decides-int_eq _ _).0 one.1 }

pub same_chunk_from : (a b : SegId) → IsSameChunk a b → same_chunk a b ≡ true
same_chunk_from a b h = and_from _ _ (and_from _ _ ((bytes_eq-Decides _ _).1 h.source_is) (same_extent_from _ _ h.span_is)) ((Decides-int_eq _ _).1 h.version_is)

pub same_id_means : (a b : SegId) → same_id a b ≡ true → a ≡ b
same_id_means a b h =
    let both = and_parts _ _ h in
    let is = same_chunk_means a b both.0 in
    ids_from_fields a b is.source_is is.span_is is.version_is ((Decides-eqb _ _).0 both.1)

pub same_id_itself : (a : SegId) → same_id a a ≡ true
same_id_itself a = and_from _ _ (same_chunk_from a a (record { source_is = refl; span_is = refl; version_is = refl })) ((Decides-eqb _ _).1 refl)

pub same_id_from : (a b : SegId) → a ≡ b → same_id a b ≡ true
same_id_from a b e = rw e (same_id_itself b)

pub same_id_swap : (a b : SegId) → same_id a b ≡ false → same_id b a ≡ false
same_id_swap a b h = elim (cases_Bool (same_id b a)) [ inr off ↦ off | inl on ↦ absurd (false≢true (sym h ∙ same_id_from a b (sym (same_id_means b a on)))) ]

pub in_one : (c : ChunkRow) (a b : SegId) → IsIn c a → IsIn c b → IsSameChunk a b
in_one c a b h k = record { source_is = h.source_is ∙ sym k.source_is; span_is = h.span_is ∙ sym k.span_is; version_is = h.version_is ∙ sym k.version_is }

pub in_moved : (c : ChunkRow) (a b : SegId) → IsIn c b → IsSameChunk a b → IsIn c a
in_moved c a b h k = record { source_is = k.source_is ∙ h.source_is; span_is = k.span_is ∙ h.span_is; version_is = k.version_is ∙ h.version_is }

pub same_of : (q : List ℕ) (s : Extent) (v : ℤ) (a b : SegId) → IsOf q s v a → IsOf q s v b → IsSameChunk a b
same_of q s v a b h k = record { source_is = h.source_is ∙ sym k.source_is; span_is = h.span_is ∙ sym k.span_is; version_is = h.version_is ∙ sym k.version_is }

pub swapped : (a b : SegId) → IsSameChunk a b → IsSameChunk b a
swapped a b h = record { source_is = sym h.source_is; span_is = sym h.span_is; version_is = sym h.version_is }

pub joined : (a b c : SegId) → IsSameChunk a b → IsSameChunk b c → IsSameChunk a c
joined a b c h k = record { source_is = h.source_is ∙ k.source_is; span_is = h.span_is ∙ k.span_is; version_is = h.version_is ∙ k.version_is }

-- what is said of a chunk by one id holds by another
pub by_chunk : (F : List ℕ → Extent → ℤ → Type 0) (a b : SegId) → IsSameChunk a b → F a.source a.span a.version → F b.source b.span b.version
by_chunk F a b h x = subst (λ s. F s b.span b.version) h.source_is (subst (λ s. F a.source s b.version) h.span_is (subst (λ v. F a.source a.span v) h.version_is x))

-- whatever meets one id of a chunk meets each
pub meets_left : (a b c : SegId) → IsSameChunk a b → DoMeet b c → DoMeet a c
meets_left a b c h k = record { source_is = h.source_is ∙ k.source_is; overlap_is = rw h.span_is k.overlap_is }

pub meets_right : (a b c : SegId) → DoMeet a b → IsSameChunk c b → DoMeet a c
meets_right a b c h k = record { source_is = h.source_is ∙ sym k.source_is; overlap_is = rw k.span_is h.overlap_is }

pub meets_swap : (a b : SegId) → DoMeet a b → DoMeet b a
meets_swap a b h = record { source_is = sym h.source_is; overlap_is = overlap_swap a.span b.span h.overlap_is }

-- ---- pendings of distinct ids

-- two pendings of one id are one
pub one_pending : (ps : List PendingRow) (p r : PendingRow) → HaveDistinctIds ps → In p ps → In r ps → p.id ≡ r.id → p ≡ r
one_pending [] p r d i j e = absurd i
one_pending (x ∷ ps) p r d (inl a) (inl b) e = a ∙ sym b
one_pending (x ∷ ps) p r d (inl a) (inr j) e = absurd (false≢true (sym (In-all (λ b. same_id x.id b.id ≡ false) r ps j d.0) ∙ same_id_from x.id r.id (ap (λ (y : PendingRow). y.id) (sym a) ∙ e)))
one_pending (x ∷ ps) p r d (inr i) (inl b) e = absurd (false≢true (sym (In-all (λ b. same_id x.id b.id ≡ false) p ps i d.0) ∙ same_id_from x.id p.id (ap (λ (y : PendingRow). y.id) (sym b) ∙ sym e)))
one_pending (x ∷ ps) p r d (inr i) (inr j) e = one_pending ps p r d.1 i j e

pub count_one : (ps : List PendingRow) (r : PendingRow) → HaveDistinctIds ps → In r ps → count (λ p. same_id p.id r.id) ps ≡ 1
count_one [] r d i = absurd i
count_one (x ∷ ps) r d (inl e) = subst (λ (r : PendingRow). count (λ p. same_id p.id r.id) (x ∷ ps) ≡ 1) (sym e) (rw (same_id_itself x.id, count_none (λ p. same_id p.id x.id) ps (λ p i. same_id_swap x.id p.id (In-all (λ b. same_id x.id b.id ≡ false) p ps i d.0))) refl)
count_one (x ∷ ps) r d (inr i) = rw (In-all (λ b. same_id x.id b.id ≡ false) r ps i d.0, count_one ps r d.1 i) refl
