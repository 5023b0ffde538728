-- The order of segments doesn't matter to the rules, nor do unused ones.
use Rattle.std.specs.Prelude.{◌≡◌, Bool, List, filter, true}
use Rattle.book_rows.specs.Lists.{In, count}
use Rattle.book_rows.specs.declared.rows.Book.{Book}
use Rattle.book_rows.specs.declared.rows.SegmentRow.{SegmentRow}
use Rattle.laws_chunks.specs.ChunksSound.{AreChunksSound}

-- the used segments are the same, each as often
pub record HasSameUsed (before after : List SegmentRow) : Type 0 where
  pub forth : (r : SegmentRow) → In r before → r.used ≡ true → In r after
  pub back : (r : SegmentRow) → In r after → r.used ≡ true → In r before
  pub counts : (p : SegmentRow → Bool) → ((r : SegmentRow) → p r ≡ true → r.used ≡ true) → count p after ≡ count p before

abbrev pub with_segments : List SegmentRow → Book → Book
with_segments rows b = record b { segments = rows }

abbrev pub SameUsedKeeps : Type 0
SameUsedKeeps = (rows : List SegmentRow) (b : Book) → HasSameUsed b.segments rows → AreChunksSound b → AreChunksSound (with_segments rows b)

-- removing unused segments is one such change
abbrev pub RemovedAreUnused : Type 0
RemovedAreUnused = (keep : SegmentRow → Bool) (rows : List SegmentRow) → ((r : SegmentRow) → r.used ≡ true → keep r ≡ true) → HasSameUsed rows (filter keep rows)
