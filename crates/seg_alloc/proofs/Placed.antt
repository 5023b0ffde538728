-- Which place the cases of the rules come to, by what the tables answer.
use Rattle.std.proofs.Common.{Bool, List, None, Option, Result, Some, ap, cond, false, find, refl, sym, true, ℕ, ℤ, ◌&&◌, ◌<ℤ◌, ◌∙◌, ◌≡◌, arith, int_lt}
use Rattle.std.proofs.lemmas.Bool.{and_parts}
use Rattle.std.proofs.lemmas.Int.{ints}
use Rattle.std.specs.Option.{option_map}
use Rattle.iv_span.specs.Extent.{Extent}
use Rattle.iv_time.specs.Buckets.{and_finer, bucket_of}
use Rattle.iv_time.specs.Range.{is_instant}
use Rattle.iv_time.specs.declared.granularity.Granularity.{Granularity}
use Rattle.seg_names.specs.declared.seg_id.SegId.{SegId}
use Rattle.book_rows.specs.Allocation.{free_bucket, free_or, is_cut_by, is_free, is_pending_at, place, place_by, uncut}
use Rattle.book_rows.specs.Spans.{is_span}
use Rattle.book_rows.specs.Visible.{is_used_at, is_visible, tops}
use Rattle.book_rows.specs.declared.answers.Place.{Place}
use Rattle.book_rows.specs.declared.replies.Refusal.{Refusal}
use Rattle.book_rows.specs.declared.rows.PendingRow.{PendingRow}
use Rattle.book_rows.specs.declared.rows.SegmentRow.{SegmentRow}
use Rattle.laws_locks.proofs.Buckets.{bucket_is_span}
use Rattle.laws_locks.proofs.Lists.{found_In}
use Rattle.laws_chunks.proofs.VisibleRows.{used_is}
use Rattle.tab_segments.specs.SegmentRows.{chunk_id, visible_chunk}

-- ---- the chunk that is visible

-- the part of the id doesn't count
uncut_any : (a : SegId) (o : Option SegmentRow) → uncut a o ≡ uncut (chunk_id a.source a.span a.version) o
uncut_any a None = refl
uncut_any a (Some r) = refl

module _ (rows : List SegmentRow) (ps : List PendingRow) (source : List ℕ) (at : ℤ) (g : Granularity) where
  abbrev bucket : Option Extent
  bucket = free_bucket rows ps source at (and_finer g)

  abbrev first_pending : Option PendingRow
  first_pending = find (is_pending_at source at) ps

  -- whether the chunk is cut, by what names it
  abbrev cut_of : List ℕ → Extent → ℤ → Result Place Refusal
  cut_of s x v = uncut (chunk_id s x v) (find (is_cut_by (chunk_id s x v)) rows)

  visible_row : (r : SegmentRow) → find (is_visible rows source at) rows ≡ Some r → place_by (Some r) first_pending rows at bucket ≡ cut_of source r.id.span r.id.version
  visible_row r found =
      let on : is_visible rows source at r ≡ true = (found_In (is_visible rows source at) r rows found).1 in
      let used : is_used_at source at r ≡ true = (and_parts (is_used_at source at r) (tops rows source at r) on).0 in
      uncut_any r.id (find (is_cut_by r.id) rows) ∙ ap (λ (s : List ℕ). cut_of s r.id.span r.id.version) (used_is source at r used).1.source_is

  visible_by : (span : Extent) (version : ℤ) (o : Option SegmentRow) → find (is_visible rows source at) rows ≡ o → ◌≡◌ {A = Option (Extent × ℤ)} (Some (span, version)) (option_map (λ (r : SegmentRow). (r.id.span, r.id.version)) o)
      → place_by o first_pending rows at bucket ≡ cut_of source span version
  visible_by span version None found same = cc
  visible_by span version (Some r) found same =
      let pair : ◌≡◌ {A = Extent × ℤ} (span, version) (r.id.span, r.id.version) = cc in
      visible_row r found ∙ ap (λ (x : Extent × ℤ). cut_of source x.0 x.1) (sym pair)

  pub place_visible : (span : Extent) (version : ℤ) → ◌≡◌ {A = Option (Extent × ℤ)} (Some (span, version)) (visible_chunk rows source at)
      → place rows ps source at g ≡ uncut (chunk_id source span version) (find (is_cut_by (chunk_id source span version)) rows)
  place_visible span version same = visible_by span version (find (is_visible rows source at) rows) refl same

-- ---- a free bucket

abbrev span_of : ℤ × ℤ → Extent
span_of ends = record { start = ends.0; end = ends.1 }

-- the first is tried, and then the rest
pub or_rest : (rows : List SegmentRow) (ps : List PendingRow) (source : List ℕ) (ends : Option (ℤ × ℤ)) (rest : Option Extent) → None ≡ free_or rows ps source ends None → free_or rows ps source ends rest ≡ rest
or_rest rows ps source None rest e = refl
or_rest rows ps source (Some ends) rest e = by (is_free rows ps source (span_of ends)) e where
  by : (free : Bool) → None ≡ cond free (Some (span_of ends)) None → cond free (Some (span_of ends)) rest ≡ rest
  by true h = cc
  by false h = refl

pub or_found : (rows : List SegmentRow) (ps : List PendingRow) (source : List ℕ) (ends : Option (ℤ × ℤ)) (rest : Option Extent) (s : Extent) → Some s ≡ free_or rows ps source ends None → free_or rows ps source ends rest ≡ Some s
or_found rows ps source None rest s e = cc
or_found rows ps source (Some ends) rest s e = by (is_free rows ps source (span_of ends)) e where
  by : (free : Bool) → Some s ≡ cond free (Some (span_of ends)) None → cond free (Some (span_of ends)) rest ≡ Some s
  by true h = sym h
  by false h = cc

-- a bucket isn't empty
pub bucket_rises : (g : Granularity) (at start end : ℤ) → ◌≡◌ {A = Option (ℤ × ℤ)} (Some (start, end)) (bucket_of g at) → start <ℤ end
bucket_rises g at start end e =
    let span : is_span (record { start = start; end = end }) ≡ true = bucket_is_span g at (start, end) (sym e) in
    let less : int_lt start end ≡ true = (and_parts (is_instant start && is_instant end) (int_lt start end) span).1 in
    grind (arith, ints)
