-- Every command keeps the rules on chunks.
use Rattle.book_rows.specs.Answer.{next}
use Rattle.book_rows.specs.Form.{KeepsForm}
use Rattle.book_rows.specs.declared.commands.Command.{Command}
use Rattle.book_rows.specs.declared.rows.Book.{Book}
use Rattle.laws_locks.specs.LockShape.{IsLockShape}
use Rattle.laws_chunks.specs.ChunksSound.{AreChunksSound}

-- a command that keeps its form leads from a book whose tasks and locks are in shape, and whose chunks are sound, to one whose chunks are sound
abbrev pub EveryCommandKeeps : Type 0
EveryCommandKeeps = (c : Command) (b : Book) → KeepsForm c → IsLockShape b → AreChunksSound b → AreChunksSound (next b c)
