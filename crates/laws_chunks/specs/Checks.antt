-- An insert or a replacement that its check lets through keeps the rules on chunks.
use Rattle.std.specs.Prelude.{◌≡◌, List, Ok, true}
use Rattle.std.specs.List.{list_all}
use Rattle.book_rows.specs.Over.{Inserting, Replacing, Target, check_over}
use Rattle.book_rows.specs.Publications.{Publish}
use Rattle.book_rows.specs.Rewrite.{after_insert, after_replace}
use Rattle.book_rows.specs.Spans.{is_span}
use Rattle.book_rows.specs.declared.rows.Book.{Book}
use Rattle.book_rows.specs.declared.rows.TaskRow.{TaskRow}
use Rattle.laws_chunks.specs.ChunksSound.{AreChunksSound}

abbrev pub CheckedInsertKeeps : Type 0
CheckedInsertKeeps = (b : Book) (t : TaskRow) (given : Publish) (xs : List Target) → list_all is_span given.spans ≡ true
    → check_over Inserting b given t ≡ Ok xs → AreChunksSound b → AreChunksSound (after_insert t given xs b)

abbrev pub CheckedReplaceKeeps : Type 0
CheckedReplaceKeeps = (b : Book) (t : TaskRow) (given : Publish) (xs : List Target) → list_all is_span given.spans ≡ true
    → check_over Replacing b given t ≡ Ok xs → AreChunksSound b → AreChunksSound (after_replace t given xs b)
