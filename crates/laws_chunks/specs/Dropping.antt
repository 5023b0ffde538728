-- A span is dropped.
use Rattle.std.specs.Prelude.{◌≡◌, List, false, true, ℕ}
use Rattle.iv_span.specs.Extent.{Extent, covers, overlap}
use Rattle.book_rows.specs.Lists.{In}
use Rattle.book_rows.specs.Live.{IsValid}
use Rattle.book_rows.specs.Rewrite.{after_drop}
use Rattle.book_rows.specs.declared.rows.Book.{Book}
use Rattle.book_rows.specs.declared.rows.PosseRow.{PosseRow}
use Rattle.book_rows.specs.declared.rows.SegmentRow.{SegmentRow}
use Rattle.laws_chunks.specs.ChunksSound.{AreChunksSound}

-- no valid lock overlaps the span, and each used segment that meets it lies within
pub record IsFree (qs : List PosseRow) (rows : List SegmentRow) (source : List ℕ) (s : Extent) : Type 0 where
  pub unlocked : (q : PosseRow) → IsValid qs q → q.source ≡ source → overlap q.span s ≡ false
  pub uncut : (r : SegmentRow) → In r rows → r.used ≡ true → r.id.source ≡ source → overlap r.id.span s ≡ true → covers s r.id.span ≡ true

abbrev pub DropKeeps : Type 0
DropKeeps = (source : List ℕ) (s : Extent) (b : Book) → IsFree b.posses b.segments source s → AreChunksSound b → AreChunksSound (after_drop source s b)
