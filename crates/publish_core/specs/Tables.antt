-- The tables that a check reads, as those of a book.
use Rattle.std.specs.Prelude.{List}
use Rattle.book_rows.specs.declared.rows.Book.{Book}
use Rattle.book_rows.specs.declared.rows.PosseRow.{PosseRow}
use Rattle.tab_pending.specs.PendingRows.{PendingRows}
use Rattle.tab_segments.specs.SegmentRows.{SegmentRows}

-- the book with these rows in the place of its own
abbrev pub with_tables : SegmentRows → PendingRows → List PosseRow → Book → Book
with_tables s p qs b = record b { posses = qs; chunks = s.chunks; segments = s.segments; pendings = p.pendings; upgrades = p.upgrades }
