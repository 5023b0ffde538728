-- A whole append keeps the rules on chunks.
use Rattle.std.specs.Prelude.{◌≡◌, List, None, Option}
use Rattle.seg_names.specs.Ids.{same_id}
use Rattle.seg_names.specs.declared.seg_id.SegId.{SegId}
use Rattle.book_rows.specs.Append.{after_append, append_fault}
use Rattle.book_rows.specs.Lists.{In}
use Rattle.book_rows.specs.Publications.{appending}
use Rattle.book_rows.specs.Shape.{AreDistinct, HaveMembers, same_task}
use Rattle.book_rows.specs.declared.rows.Book.{Book}
use Rattle.book_rows.specs.declared.rows.Ranges.{Ranges}
use Rattle.book_rows.specs.declared.rows.TaskRow.{TaskRow}
use Rattle.laws_chunks.specs.ChunksSound.{AreChunksSound}

-- of distinct ids, each allocated to the task, with whatever ranges, where members of locks are tasks and no two tasks have one id
abbrev pub AppendedKeeps : Type 0
AppendedKeeps = (b : Book) (t : TaskRow) (ids : List SegId) (ranges : Option Ranges) → AreDistinct same_id ids → In t b.tasks → append_fault b.posses b.pendings t.task ids ≡ None
    → HaveMembers b.tasks b.posses → AreDistinct same_task b.tasks → AreChunksSound b → AreChunksSound (after_append t (appending ids ranges) b)
