-- Pairs of locks and of live chunks, and live chunks under locks.
use Rattle.std.proofs.Common.{List, ap, false, inl, inr, int_le, refl, subst, sym, true, ℤ, ◌∙◌, ◌≡◌, ◌⊎◌}
use Rattle.std.proofs.lemmas.Bool.{false≢true}
use Rattle.iv_span.specs.Extent.{Extent, overlap}
use Rattle.seg_names.specs.declared.seg_id.SegId.{SegId}
use Rattle.book_rows.specs.Kinds.{guards}
use Rattle.book_rows.specs.Lists.{In, Pairs}
use Rattle.book_rows.specs.Live.{DoMeet, IsIn, IsLive}
use Rattle.book_rows.specs.Locks.{compatible}
use Rattle.book_rows.specs.Rules.{AreBelowLocks, GoTogether, HaveOneSpan}
use Rattle.book_rows.specs.Shape.{HasChunk, HaveChunks, pending_ids, segment_ids}
use Rattle.book_rows.specs.declared.rows.Book.{Book}
use Rattle.book_rows.specs.declared.rows.ChunkRow.{ChunkRow}
use Rattle.book_rows.specs.declared.rows.PendingRow.{PendingRow}
use Rattle.book_rows.specs.declared.rows.PosseRow.{PosseRow}
use Rattle.book_rows.specs.declared.rows.SegmentRow.{SegmentRow}
use Rattle.laws_chunks.proofs.Members.{map_In, pair_of}
use Rattle.laws_chunks.proofs.Spans.{meets_swap}
use Rattle.laws_unsound.specs.Breaks.{AreTwoSpans, IsAboveLock, IsLiveChunk}
use Rattle.laws_unsound.specs.ChunkRows.{are_in_conflict, are_two_spans, is_above_lock, is_live}
use Rattle.laws_unsound.specs.Counts.{before_chunks, before_posses}
use Rattle.laws_unsound.specs.Laws.{IsRowOfChunkRule, IsRowOfRule}
use Rattle.laws_unsound.specs.Unsound.{BelowLocks, Compatible, OneSpan}
use Rattle.laws_unsound.proofs.Deciding.{IsTestOf, both, either, like, off, on, one_instant, one_name, one_of, one_span, refused, sure, unless}
use Rattle.laws_unsound.proofs.Least.{by_meaning, first_of_two, first_with, pairs_from, pairs_so}
use Rattle.laws_unsound.proofs.Shaping.{in_chunk}

-- ---- locks

conflict : (p q : PosseRow) → IsTestOf (are_in_conflict p q) (GoTogether p q → ⊥)
conflict p q = record { means = λ h go. (let w = clash.means h in false≢true (sym w.1.1 ∙ go w.0 w.1.0)); passes = λ f. clash.passes (sure clash (λ none. f (together none))) } where
  clash : IsTestOf (are_in_conflict p q) ((p.revoked ≡ false) × ((q.revoked ≡ false) × (compatible p q ≡ false)))
  clash = both (off p.revoked) (both (off q.revoked) (off (compatible p q)))

  together : ((p.revoked ≡ false) × ((q.revoked ≡ false) × (compatible p q ≡ false)) → ⊥) → GoTogether p q
  together none e g = sure (on (compatible p q)) (λ f. none (e, (g, refused (on (compatible p q)) f)))

pub compatible_row : IsRowOfRule Compatible
compatible_row b = by_meaning (pairs_so (λ p q f e g. sure (on (compatible p q)) (λ h. f (λ go. h (go e g)))) b.posses) (pairs_so (λ p q go f. f go) b.posses)
    (first_of_two conflict (before_posses b) b.posses)

-- ---- live chunks

pub live : (rows : List SegmentRow) (ps : List PendingRow) (c : ChunkRow) → IsTestOf (is_live rows ps c) (IsLiveChunk rows ps c)
live rows ps c = like named (λ w. found w.id w.is_live w.is_in) (either (one_of (λ r. both (on r.used) (in_chunk c r.id)) rows) (one_of (λ p. in_chunk c p.id) ps)) where
  named : ((r : SegmentRow) × In r rows × ((r.used ≡ true) × IsIn c r.id)) ⊎ ((p : PendingRow) × In p ps × IsIn c p.id) → IsLiveChunk rows ps c
  named (inl w) = record { id = w.0.id; is_live = inl (w.0, w.1, w.2.0, refl); is_in = w.2.1 }
  named (inr w) = record { id = w.0.id; is_live = inr (w.0, w.1, refl); is_in = w.2 }

  found : (a : SegId) → IsLive rows ps a → IsIn c a → ((r : SegmentRow) × In r rows × ((r.used ≡ true) × IsIn c r.id)) ⊎ ((p : PendingRow) × In p ps × IsIn c p.id)
  found a (inl r) i = inl (r.0, r.1, (r.2, subst (λ (x : SegId). IsIn c x) (sym r.3) i))
  found a (inr p) i = inr (p.0, p.1, subst (λ (x : SegId). IsIn c x) (sym p.2) i)

-- the chunk row of a live id
pub row_of_live : (b : Book) → HaveChunks b → (a : SegId) → IsLive b.segments b.pendings a → HasChunk b.chunks a
row_of_live b h a (inl r) = h.segments a (subst (λ (x : SegId). In x (segment_ids b.segments)) r.3 (map_In (λ (r : SegmentRow). r.id) r.0 b.segments r.1))
row_of_live b h a (inr p) = h.pendings a (subst (λ (x : SegId). In x (pending_ids b.pendings)) p.2 (map_In (λ (p : PendingRow). p.id) p.0 b.pendings p.1))

-- of the spans of two chunks, and of two ids in them
pub of_ids : (F : Extent → Extent → Type 0) (c d : ChunkRow) (x y : SegId) → IsIn c x → IsIn d y → F c.span d.span → F x.span y.span
of_ids F c d x y i j h = subst (λ (s : Extent). F s y.span) (sym i.span_is) (subst (λ (s : Extent). F c.span s) (sym j.span_is) h)

pub of_rows : (F : Extent → Extent → Type 0) (c d : ChunkRow) (x y : SegId) → IsIn c x → IsIn d y → F x.span y.span → F c.span d.span
of_rows F c d x y i j h = subst (λ (s : Extent). F s d.span) i.span_is (subst (λ (s : Extent). F x.span s) j.span_is h)

abbrev DoOverlap : Extent → Extent → Type 0
DoOverlap s t = overlap s t ≡ true

pub rows_meet : (c d : ChunkRow) (x y : SegId) → IsIn c x → IsIn d y → c.source ≡ d.source → overlap c.span d.span ≡ true → DoMeet x y
rows_meet c d x y i j e o = record { source_is = i.source_is ∙ e ∙ sym j.source_is; overlap_is = of_ids DoOverlap c d x y i j o }

pub meeting_sources : (c d : ChunkRow) (x y : SegId) → IsIn c x → IsIn d y → DoMeet x y → c.source ≡ d.source
meeting_sources c d x y i j m = sym i.source_is ∙ m.source_is ∙ j.source_is

pub meeting_spans : (c d : ChunkRow) (x y : SegId) → IsIn c x → IsIn d y → DoMeet x y → overlap c.span d.span ≡ true
meeting_spans c d x y i j m = of_rows DoOverlap c d x y i j m.overlap_is

-- ---- of one version

two_spans : (rows : List SegmentRow) (ps : List PendingRow) (c d : ChunkRow) → IsTestOf (are_two_spans rows ps c d) (AreTwoSpans rows ps c d)
two_spans rows ps c d = like
    (λ w. (let x = w.0 in let y = w.1.0 in record {
      one = x;
      other = y;
      do_meet = rows_meet c d x.id y.id x.is_in y.is_in w.1.1.0 w.1.1.1.0;
      version_is = x.is_in.version_is ∙ w.1.1.1.1.0 ∙ sym y.is_in.version_is;
      spans_differ = λ e. w.1.1.1.1.1 (sym x.is_in.span_is ∙ e ∙ y.is_in.span_is);
    }))
    (λ h. (let x = h.one in let y = h.other in (
      x,
      (
        y,
        (
          meeting_sources c d x.id y.id x.is_in y.is_in h.do_meet,
          (
            meeting_spans c d x.id y.id x.is_in y.is_in h.do_meet,
            (sym x.is_in.version_is ∙ h.version_is ∙ y.is_in.version_is, λ e. h.spans_differ (x.is_in.span_is ∙ e ∙ sym y.is_in.span_is)),
          ),
        ),
      ),
    )))
    (both (live rows ps c) (both (live rows ps d) (both (one_name c.source d.source) (both (on (overlap c.span d.span)) (both (one_instant c.version d.version) (unless (one_span c.span d.span)))))))

module _ (b : Book) where
  abbrev Apart : ChunkRow → ChunkRow → Type 0
  Apart c d = AreTwoSpans b.segments b.pendings c d → ⊥

  spans_of_rows : HaveChunks b → Pairs Apart b.chunks → HaveOneSpan b.segments b.pendings
  spans_of_rows h apart x y lx ly meet v = by (pair_of Apart c.chunk d.chunk b.chunks apart c.among d.among) where
    c : HasChunk b.chunks x
    c = row_of_live b h x lx

    d : HasChunk b.chunks y
    d = row_of_live b h y ly

    by : (c.chunk ≡ d.chunk) ⊎ (Apart c.chunk d.chunk ⊎ Apart d.chunk c.chunk) → x.span ≡ y.span
    by (inl e) = c.is_in.span_is ∙ ap (λ (z : ChunkRow). z.span) e ∙ sym d.is_in.span_is
    by (inr (inl none)) = sure (one_span x.span y.span) (λ differ. none (record {
      one = record { id = x; is_live = lx; is_in = c.is_in };
      other = record { id = y; is_live = ly; is_in = d.is_in };
      do_meet = meet;
      version_is = v;
      spans_differ = differ;
    }))
    by (inr (inr none)) = sure (one_span x.span y.span) (λ differ. none (record {
      one = record { id = y; is_live = ly; is_in = d.is_in };
      other = record { id = x; is_live = lx; is_in = c.is_in };
      do_meet = meets_swap x y meet;
      version_is = sym v;
      spans_differ = λ e. differ (sym e);
    }))

  rows_of_spans : HaveOneSpan b.segments b.pendings → Pairs Apart b.chunks
  rows_of_spans rule = pairs_from Apart (λ c d w. w.spans_differ (rule w.one.id w.other.id w.one.is_live w.other.is_live w.do_meet w.version_is)) b.chunks

pub one_span_row : IsRowOfChunkRule OneSpan
one_span_row = record {
  where_holds = λ b h. (by_meaning (spans_of_rows b h) (rows_of_spans b) (first_of_two (two_spans b.segments b.pendings) (before_chunks b) b.chunks)).where_holds;
  names = λ b. (first_of_two (two_spans b.segments b.pendings) (before_chunks b) b.chunks).names;
}

-- ---- under locks

above_lock : (qs : List PosseRow) (rows : List SegmentRow) (ps : List PendingRow) (c : ChunkRow) → IsTestOf (is_above_lock qs rows ps c) (IsAboveLock qs rows ps c)
above_lock qs rows ps c = like
    (λ w. (let x = w.0 in let q = w.1 in record {
      live = x;
      lock = q.0;
      is_valid = record { among = q.1; valid = q.2.0 };
      guards_is = q.2.1.0;
      source_is = x.is_in.source_is ∙ q.2.1.1.0;
      overlap_is = subst (λ (s : Extent). overlap s q.0.span ≡ true) (sym x.is_in.span_is) q.2.1.1.1.0;
      above = subst (λ (z : ℤ). int_le z q.0.version ≡ false) (sym x.is_in.version_is) q.2.1.1.1.1;
    }))
    (λ h. (let x = h.live in (
      x,
      (
        h.lock,
        h.is_valid.among,
        (
          h.is_valid.valid,
          (
            h.guards_is,
            (
              sym x.is_in.source_is ∙ h.source_is,
              (
                subst (λ (s : Extent). overlap s h.lock.span ≡ true) x.is_in.span_is h.overlap_is,
                subst (λ (z : ℤ). int_le z h.lock.version ≡ false) x.is_in.version_is h.above,
              ),
            ),
          ),
        ),
      ),
    )))
    (both (live rows ps c) (one_of (λ q. both (off q.revoked) (both (on (guards q.lock_kind)) (both (one_name c.source q.source) (both (on (overlap c.span q.span)) (off (int_le c.version q.version)))))) qs))

module _ (b : Book) where
  abbrev IsUnder : ChunkRow → Type 0
  IsUnder c = IsAboveLock b.posses b.segments b.pendings c → ⊥

  locks_of_rows : HaveChunks b → ((c : ChunkRow) → In c b.chunks → IsUnder c) → AreBelowLocks b.posses b.segments b.pendings
  locks_of_rows h none a q lives v g s o =
      let c = row_of_live b h a lives in
      sure (on (int_le a.version q.version)) (λ f. none c.chunk c.among (record {
        live = record { id = a; is_live = lives; is_in = c.is_in };
        lock = q;
        is_valid = v;
        guards_is = g;
        source_is = s;
        overlap_is = o;
        above = refused (on (int_le a.version q.version)) f;
      }))

  rows_of_locks : AreBelowLocks b.posses b.segments b.pendings → (c : ChunkRow) → In c b.chunks → IsUnder c
  rows_of_locks rule c i w = false≢true (sym w.above ∙ rule w.live.id w.lock w.live.is_live w.is_valid w.guards_is w.source_is w.overlap_is)

pub below_locks_row : IsRowOfChunkRule BelowLocks
below_locks_row = record {
  where_holds = λ b h. (by_meaning (locks_of_rows b h) (rows_of_locks b) (first_with (above_lock b.posses b.segments b.pendings) (before_chunks b) b.chunks)).where_holds;
  names = λ b. (first_with (above_lock b.posses b.segments b.pendings) (before_chunks b) b.chunks).names;
}
