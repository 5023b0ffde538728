-- The place that an allocation finds is open, or a span that no live chunk meets.
use Rattle.std.proofs.Common.{Bool, List, None, Ok, Option, Some, [], ap, bytes_eq, cond, false, find, inl, inr, int_lt, not, refl, subst, sym, true, ℕ, ℤ, ◌&&◌, ◌∙◌, ◌∷◌, ◌≡◌, ◌⊎◌}
use Rattle.std.proofs.lemmas.Bool.{and_from, and_parts, false≢true, not-true}
use Rattle.std.proofs.lemmas.Slice.Eq.{bytes_eq-Decides}
use Rattle.std.specs.List.{list_any}
use Rattle.iv_span.specs.Extent.{Extent, has, overlap}
use Rattle.iv_time.specs.Buckets.{bucket_of, and_finer}
use Rattle.iv_time.specs.Range.{is_instant}
use Rattle.iv_time.specs.declared.granularity.Granularity.{Granularity}
use Rattle.seg_names.specs.declared.seg_id.SegId.{SegId}
use Rattle.book_rows.specs.Allocation.{bucket_place, free_bucket, free_or, in_chunk_of, is_cut_by, is_free, is_pending_at, is_pending_over, place, place_by, uncut}
use Rattle.book_rows.specs.Lists.{In}
use Rattle.book_rows.specs.Live.{IsLive}
use Rattle.book_rows.specs.Visible.{is_used_at, is_used_over, is_visible, tops}
use Rattle.book_rows.specs.declared.answers.Place.{Place}
use Rattle.book_rows.specs.declared.rows.Book.{Book}
use Rattle.book_rows.specs.declared.rows.PendingRow.{PendingRow}
use Rattle.book_rows.specs.declared.rows.SegmentRow.{SegmentRow}
use Rattle.laws_locks.proofs.Buckets.{bucket_is_span}
use Rattle.laws_chunks.specs.ChunksSound.{AreChunksSound}
use Rattle.laws_chunks.specs.Places.{IsOpenIn}
use Rattle.laws_chunks.proofs.AppendedShown.{top_of}
use Rattle.laws_chunks.proofs.LookUps.{find_none, find_some}
use Rattle.laws_chunks.proofs.Members.{none_In}
use Rattle.laws_chunks.proofs.OpenPlacesFound.{pending_place, row_place}
use Rattle.laws_chunks.proofs.VisibleRows.{tops_from, used_is}

-- ---- buckets aren't empty

bucket_proper : (g : Granularity) (ms : ℤ) (ends : ℤ × ℤ) → bucket_of g ms ≡ Some ends → int_lt ends.0 ends.1 ≡ true
bucket_proper g ms ends h = (and_parts (is_instant ends.0 && is_instant ends.1) (int_lt ends.0 ends.1) (bucket_is_span g ms ends h)).1

-- ---- a free bucket

pub record IsFreeSpan (rows : List SegmentRow) (ps : List PendingRow) (source : List ℕ) (s : Extent) : Type 0 where
  pub proper : int_lt s.start s.end ≡ true
  pub free : is_free rows ps source s ≡ true

pub bucket_free : (rows : List SegmentRow) (ps : List PendingRow) (source : List ℕ) (at : ℤ) (gs : List Granularity) (s : Extent) → free_bucket rows ps source at gs ≡ Some s → IsFreeSpan rows ps source s
bucket_free rows ps source at [] s h = cc
bucket_free rows ps source at (g ∷ gs) s h = go (bucket_of g at) (bucket_free rows ps source at gs s) refl h where
  by_free : (ends : ℤ × ℤ) → (free_bucket rows ps source at gs ≡ Some s → IsFreeSpan rows ps source s) → int_lt ends.0 ends.1 ≡ true → (b : Bool) → is_free rows ps source (record { start = ends.0; end = ends.1 }) ≡ b → cond b (Some (record { start = ends.0; end = ends.1 })) (free_bucket rows ps source at gs) ≡ Some s → IsFreeSpan rows ps source s
  by_free ends rest proper true e f = (let same : record { start = ends.0; end = ends.1 } ≡ s = cc in subst (IsFreeSpan rows ps source) same (record { proper = proper; free = e }))
  by_free ends rest proper false e f = rest f

  go : (r : Option (ℤ × ℤ)) → (free_bucket rows ps source at gs ≡ Some s → IsFreeSpan rows ps source s) → bucket_of g at ≡ r → free_or rows ps source r (free_bucket rows ps source at gs) ≡ Some s → IsFreeSpan rows ps source s
  go None rest e f = rest f
  go (Some ends) rest e f = by_free ends rest (bucket_proper g at ends e) (is_free rows ps source (record { start = ends.0; end = ends.1 })) refl f

off_of : (a b c : Bool) → (a && b && c) ≡ false → a ≡ true → b ≡ true → c ≡ false
off_of true true c h x y = h
off_of true false c h x y = absurd (false≢true y)
off_of false b c h x y = absurd (false≢true x)

off_last : (b c : Bool) → (b && c) ≡ false → b ≡ true → c ≡ false
off_last true c h y = h
off_last false c h y = absurd (false≢true y)

-- no live chunk meets it
pub free_unmet : (rows : List SegmentRow) (ps : List PendingRow) (source : List ℕ) (s : Extent) → is_free rows ps source s ≡ true → (x : SegId) → IsLive rows ps x → x.source ≡ source → overlap x.span s ≡ false
free_unmet rows ps source s h x l e = live l where
  both : (not (list_any (is_used_over source s) rows) ≡ true) × (not (list_any (is_pending_over source s) ps) ≡ true)
  both = and_parts (not (list_any (is_used_over source s) rows)) (not (list_any (is_pending_over source s) ps)) h

  live : IsLive rows ps x → overlap x.span s ≡ false
  live (inl u) = subst (λ (a : SegId). overlap a.span s ≡ false) u.3
      (off_of u.0.used (bytes_eq u.0.id.source source) (overlap u.0.id.span s) (none_In (is_used_over source s) u.0 rows u.1 (not-true (list_any (is_used_over source s) rows) both.0)) u.2 ((bytes_eq-Decides u.0.id.source source).1 (ap (λ (a : SegId). a.source) u.3 ∙ e)))
  live (inr p) = subst (λ (a : SegId). overlap a.span s ≡ false) p.2
      (off_last (bytes_eq p.0.id.source source) (overlap p.0.id.span s) (none_In (is_pending_over source s) p.0 ps p.1 (not-true (list_any (is_pending_over source s) ps) both.1)) ((bytes_eq-Decides p.0.id.source source).1 (ap (λ (a : SegId). a.source) p.2 ∙ e)))

-- ---- the place

-- in a chunk, open for its version's ids; or free, for a new lock's version
pub record IsInChunk (b : Book) (source : List ℕ) (p : Place) : Type 0 where
  pub version : ℤ
  pub version_is : p.version ≡ Some version
  pub is_open : IsOpenIn b (record { source = source; span = p.span; version = version; part = 0 })

pub record IsInBucket (b : Book) (source : List ℕ) (p : Place) : Type 0 where
  pub version_is : p.version ≡ None
  pub span_is : IsFreeSpan b.segments b.pendings source p.span

abbrev pub IsFound : Book → List ℕ → Place → Type 0
IsFound b source p = IsInChunk b source p ⊎ IsInBucket b source p

module _ (b : Book) (h : AreChunksSound b) (source : List ℕ) (at : ℤ) where
  -- the visible chunk, where nothing cuts it
  row_found : (r : SegmentRow) → find (is_visible b.segments source at) b.segments ≡ Some r → (c : Option SegmentRow) → find (is_cut_by r.id) b.segments ≡ c → (p : Place) → uncut r.id c ≡ Ok p → IsFound b source p
  row_found r e (Some c) f p g = cc
  row_found r e None f p g =
      let w = find_some (is_visible b.segments source at) b.segments r e in
      let u = used_is source at r (and_parts (is_used_at source at r) (tops b.segments source at r) w.1).0 in
      let is : in_chunk_of r.id ≡ p = cc in
      subst (IsFound b source) is (inl (record {
        version = r.id.version;
        version_is = refl;
        is_open = row_place b r (record { source = source; span = r.id.span; version = r.id.version; part = 0 }) h (record {
          among = w.0;
          used = u.0;
          uncut = λ x i used s o. off_last (is_used_over r.id.source r.id.span x) (int_lt r.id.version x.id.version) (find_none (is_cut_by r.id) b.segments f x i)
              (and_from (x.used && bytes_eq x.id.source r.id.source) (overlap x.id.span r.id.span) (and_from x.used (bytes_eq x.id.source r.id.source) used ((bytes_eq-Decides x.id.source r.id.source).1 s)) o);
        }) (record { source_is = sym u.1.source_is; span_is = refl; version_is = refl });
      }))

  -- no segment is used at the instant where none is visible
  none_used : find (is_visible b.segments source at) b.segments ≡ None → (w : SegmentRow) → In w b.segments → is_used_at source at w ≡ false
  none_used e w i = elim (top_of source at b.segments) [
    | inl none ↦ none w i
    | inr t ↦ absurd (false≢true (sym (find_none (is_visible b.segments source at) b.segments e t.top t.among) ∙ and_from (is_used_at source at t.top) (tops b.segments source at t.top) t.used (tops_from source at b.segments t.top t.highest)))
  ]

  -- the first pending's chunk
  pending_found : find (is_visible b.segments source at) b.segments ≡ None → (x : PendingRow) → find (is_pending_at source at) b.pendings ≡ Some x → (p : Place) → in_chunk_of x.id ≡ p → IsFound b source p
  pending_found none x e p is =
      let w = find_some (is_pending_at source at) b.pendings x e in
      let both = and_parts (bytes_eq x.id.source source) (has x.id.span at) w.1 in
      let from : x.id.source ≡ source = (bytes_eq-Decides x.id.source source).0 both.0 in
      subst (IsFound b source) is (inl (record {
        version = x.id.version;
        version_is = refl;
        is_open = pending_place b x at (record { source = source; span = x.id.span; version = x.id.version; part = 0 }) h (record {
          among = w.0;
          at = both.1;
          none = λ r i used s. off_last (r.used && bytes_eq r.id.source source) (has r.id.span at) (none_used none r i) (and_from r.used (bytes_eq r.id.source source) used ((bytes_eq-Decides r.id.source source).1 (s ∙ from)));
        }) (record { source_is = sym from; span_is = refl; version_is = refl });
      }))

  bucket_found : (gs : List Granularity) (s : Option Extent) → free_bucket b.segments b.pendings source at gs ≡ s → (p : Place) → bucket_place at s ≡ Ok p → IsFound b source p
  bucket_found gs None e p g = cc
  bucket_found gs (Some s) e p g =
      let is : record { span = s; version = None } ≡ p = cc in
      subst (IsFound b source) is (inr (record { version_is = refl; span_is = bucket_free b.segments b.pendings source at gs s e }))

  by_look_ups : (r : Option SegmentRow) (x : Option PendingRow) (gs : List Granularity) (p : Place) → find (is_visible b.segments source at) b.segments ≡ r → find (is_pending_at source at) b.pendings ≡ x
      → place_by r x b.segments at (free_bucket b.segments b.pendings source at gs) ≡ Ok p → IsFound b source p
  by_look_ups (Some r) x gs p e f g = row_found r e (find (is_cut_by r.id) b.segments) refl p g
  by_look_ups None (Some x) gs p e f g = pending_found e x f p cc
  by_look_ups None None gs p e f g = bucket_found gs (free_bucket b.segments b.pendings source at gs) refl p g

  pub place_found : (granularity : Granularity) (p : Place) → place b.segments b.pendings source at granularity ≡ Ok p → IsFound b source p
  place_found granularity p g = by_look_ups (find (is_visible b.segments source at) b.segments) (find (is_pending_at source at) b.pendings) (and_finer granularity) p refl refl g
