-- Changes of the clock, tasks, offsets, supervisors and sequences.
use Rattle.std.specs.Prelude.{List, ℤ}
use Rattle.book_rows.specs.declared.rows.Book.{Book}
use Rattle.book_rows.specs.declared.rows.OffsetRow.{OffsetRow}
use Rattle.book_rows.specs.declared.rows.SequenceRow.{SequenceRow}
use Rattle.book_rows.specs.declared.rows.SupervisorRow.{SupervisorRow}
use Rattle.book_rows.specs.declared.rows.TaskRow.{TaskRow}
use Rattle.laws_chunks.specs.ChunksSound.{AreChunksSound}

-- whatever becomes of what the rules don't read
abbrev pub with_others : ℤ → List TaskRow → List OffsetRow → List SupervisorRow → List SequenceRow → Book → Book
with_others clock ts os ss us b = record b { clock = clock; tasks = ts; offsets = os; supervisors = ss; sequences = us }

abbrev pub OthersKeep : Type 0
OthersKeep = (clock : ℤ) (ts : List TaskRow) (os : List OffsetRow) (ss : List SupervisorRow) (us : List SequenceRow) (b : Book) → AreChunksSound b → AreChunksSound (with_others clock ts os ss us b)
