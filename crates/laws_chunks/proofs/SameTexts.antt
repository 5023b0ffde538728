-- The rules on live chunks said of ids and of chunk rows are the same.
use Rattle.std.proofs.Common.{List, inr, int_lt, refl, sym, true, ℕ, ℤ, ◌&&◌, ◌∙◌, ◌≡◌}
use Rattle.iv_span.specs.Extent.{Extent, overlap}
use Rattle.seg_names.specs.Ids.{same_id}
use Rattle.seg_names.specs.declared.seg_id.SegId.{SegId}
use Rattle.book_rows.specs.Ids.{same_chunk}
use Rattle.book_rows.specs.Lists.{count}
use Rattle.book_rows.specs.Live.{DoMeet, IsIn}
use Rattle.book_rows.specs.declared.rows.ChunkRow.{ChunkRow}
use Rattle.book_rows.specs.declared.rows.PendingRow.{PendingRow}
use Rattle.book_rows.specs.declared.rows.PosseRow.{PosseRow}
use Rattle.book_rows.specs.declared.rows.SegmentRow.{SegmentRow}
use Rattle.laws_chunks.proofs.Spans.{by_chunk}
use Rattle.laws_chunks.specs.ChunksSound.{HaveLiveChunks}
use Rattle.laws_chunks.specs.RowTexts.{AreSame, TextsAreSame}

-- what is said of a chunk row's source, span and version is said of its ids
to_row : (F : List ℕ → Extent → ℤ → Type 0) (c : ChunkRow) (a : SegId) → IsIn c a → F a.source a.span a.version → F c.source c.span c.version
to_row F c a k x = by_chunk F a (record { source = c.source; span = c.span; version = c.version; part = 0 }) k x

from_row : (F : List ℕ → Extent → ℤ → Type 0) (c : ChunkRow) (a : SegId) → IsIn c a → F c.source c.span c.version → F a.source a.span a.version
from_row F c a k x = by_chunk F (record { source = c.source; span = c.span; version = c.version; part = 0 }) a (record { source_is = sym k.source_is; span_is = sym k.span_is; version_is = sym k.version_is }) x

module _ (qs : List PosseRow) (cs : List ChunkRow) (rows : List SegmentRow) (ps : List PendingRow) (chunks : HaveLiveChunks cs rows ps) where
  meets_of : (c d : ChunkRow) (a b : SegId) → IsIn c a → IsIn d b → c.source ≡ d.source → overlap c.span d.span ≡ true → DoMeet a b
  meets_of c d a b k l e o = record { source_is = k.source_is ∙ e ∙ sym l.source_is; overlap_is = rw (k.span_is, l.span_is) o }

  lower_of : (c d : ChunkRow) (a b : SegId) → IsIn c a → IsIn d b → int_lt c.version d.version ≡ true → int_lt a.version b.version ≡ true
  lower_of c d a b k l lt = rw (k.version_is, l.version_is) lt

  pub same : AreSame qs cs rows ps
  same = record {
    one_span_to = λ h c d i j lc ld e v o. sym lc.2.span_is ∙ h lc.0 ld.0 lc.1 ld.1 (meets_of c d lc.0 ld.0 lc.2 ld.2 e o) (lc.2.version_is ∙ v ∙ sym ld.2.version_is) ∙ ld.2.span_is;
    one_span_from = λ h a b la lb m v. (let c = chunks a la in let d = chunks b lb in
        c.2.span_is ∙ h c.0 d.0 c.1 d.1 (a, la, c.2) (b, lb, d.2) (sym c.2.source_is ∙ m.source_is ∙ d.2.source_is) (sym c.2.version_is ∙ v ∙ d.2.version_is) (rw (← c.2.span_is, ← d.2.span_is) m.overlap_is) ∙ sym d.2.span_is);
    below_to = λ h c q i lc v g e o. rw (← lc.2.version_is) (h lc.0 q lc.1 v g (lc.2.source_is ∙ e) (rw lc.2.span_is o));
    below_from = λ h a q la v g e o. (let c = chunks a la in rw c.2.version_is (h c.0 q c.1 (a, la, c.2) v g (sym c.2.source_is ∙ e) (rw (← c.2.span_is) o)));
    copies_to = λ h c d i j lc ld e o lt. (
      h.cores lc.0 ld.0 d lc.1 ld.1 (meets_of c d lc.0 ld.0 lc.2 ld.2 e o) (lower_of c d lc.0 ld.0 lc.2 ld.2 lt) j ld.2,
      λ r ir root k. (
        rw (← k.span_is, ← ld.2.span_is) (h.contains r ld.0 ir root ld.1 (meets_of c d r.id ld.0 k ld.2 e o) (lower_of c d r.id ld.0 k ld.2 lt)),
        to_row (λ q s v. count (λ x. same_chunk x.id (record { source = q; span = s; version = v; part = 0 }) && same_id x.root r.id) ps ≡ 1) d ld.0 ld.2 (h.copies r ld.0 ir root ld.1 (meets_of c d r.id ld.0 k ld.2 e o) (lower_of c d r.id ld.0 k ld.2 lt)),
      ),
    );
    copies_from = λ h. record {
      cores = λ a b d la lb m lt j l. (let c = chunks a la in
          (h c.0 d c.1 j (a, la, c.2) (b, lb, l) (sym c.2.source_is ∙ m.source_is ∙ l.source_is) (rw (← c.2.span_is, ← l.span_is) m.overlap_is) (rw (← c.2.version_is, ← l.version_is) lt)).0);
      contains = λ r b ir root lb m lt. (let c = chunks r.id (inr (r, ir, refl)) in let d = chunks b lb in
          rw (c.2.span_is, d.2.span_is) ((h c.0 d.0 c.1 d.1 (r.id, inr (r, ir, refl), c.2) (b, lb, d.2) (sym c.2.source_is ∙ m.source_is ∙ d.2.source_is) (rw (← c.2.span_is, ← d.2.span_is) m.overlap_is) (rw (← c.2.version_is, ← d.2.version_is) lt)).1 r ir root c.2).0);
      copies = λ r b ir root lb m lt. (let c = chunks r.id (inr (r, ir, refl)) in let d = chunks b lb in
          from_row (λ q s v. count (λ x. same_chunk x.id (record { source = q; span = s; version = v; part = 0 }) && same_id x.root r.id) ps ≡ 1) d.0 b d.2
          ((h c.0 d.0 c.1 d.1 (r.id, inr (r, ir, refl), c.2) (b, lb, d.2) (sym c.2.source_is ∙ m.source_is ∙ d.2.source_is) (rw (← c.2.span_is, ← d.2.span_is) m.overlap_is) (rw (← c.2.version_is, ← d.2.version_is) lt)).1 r ir root c.2).1);
    };
  }

pub texts_are_same : TextsAreSame
texts_are_same qs cs rows ps chunks = same qs cs rows ps chunks
