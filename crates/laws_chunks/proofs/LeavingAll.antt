-- A task that leaves all its locks keeps the rules.
use Rattle.std.proofs.Common.{List, [], ℕ, ◌∷◌}
use Rattle.book_rows.specs.Locks.{left_lock, left_locks, locks_of}
use Rattle.book_rows.specs.declared.rows.Book.{Book}
use Rattle.laws_chunks.specs.ChunksSound.{AreChunksSound}
use Rattle.laws_chunks.specs.Commands.{LeaveAllKeeps}
use Rattle.laws_chunks.proofs.LosingLocks.{leave_keeps}

left_keep : (ns : List ℕ) (task : List ℕ) (b : Book) → AreChunksSound b → AreChunksSound (left_locks ns task b)
left_keep [] task b h = h
left_keep (n ∷ ns) task b h = left_keep ns task (left_lock n task b) (leave_keeps n task b h)

pub leave_all_keeps : LeaveAllKeeps
leave_all_keeps task b h = left_keep (locks_of task b.posses) task b h
