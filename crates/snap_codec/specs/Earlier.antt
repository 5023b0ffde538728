-- Snapshots of before there were tombstones: a segment's byte is 0 or 1, and a publication's kind 1 to 5.
use Rattle.std.specs.Prelude.{◌≡◌, ℕ, false, List, length, Option, None, Result, nat_le, if◌then◌else◌, []}
use Rattle.std.specs.List.{AllByRecursion}
use Rattle.book_rows.specs.declared.rows.Book.{Book}
use Rattle.snap_codec.specs.declared.marks.Flags.{Flags}
use Rattle.snap_codec.specs.declared.marks.Mark.{Mark}
use Rattle.snap_codec.specs.Readers.{Reader}
use Rattle.snap_codec.specs.Grammar.{flags_of, publication_mark_of, segment_row_by, publication_by, book_by}
use Rattle.snap_codec.specs.Snapshots.{whole, placed}

abbrev pub earlier_flags_of : ℕ → Option Flags
earlier_flags_of code = if nat_le code 1 then flags_of code else None

abbrev pub earlier_mark_of : ℕ → Option Mark
earlier_mark_of code = if nat_le code 5 then publication_mark_of code else None

abbrev pub earlier_book_at : Reader Book
earlier_book_at = book_by (segment_row_by earlier_flags_of) (publication_by earlier_mark_of)

-- The book of an earlier snapshot.
abbrev pub earlier_book_of : List ℕ → Result Book ℕ
earlier_book_of bytes = placed (length bytes) (whole earlier_book_at bytes)

-- no segment is a tombstone, and no publication has some
abbrev pub HasNoTombstones : Book → Type 0
HasNoTombstones b = AllByRecursion (λ r. r.tombstone ≡ false) b.segments × AllByRecursion (λ m. m.empties ≡ []) b.publications
