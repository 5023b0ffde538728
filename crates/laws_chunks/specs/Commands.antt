-- What commands make of the book keeps the rules on chunks: leaving all locks, granted requests, and a drop.
use Rattle.std.specs.Prelude.{◌≡◌, List, None, Ok, ℕ, ℤ}
use Rattle.iv_span.specs.Extent.{Extent}
use Rattle.book_rows.specs.Grant.{book_granted, counters_at, grant, grant_all}
use Rattle.book_rows.specs.Locks.{left_all_locks}
use Rattle.book_rows.specs.Rewrite.{after_drop, drop_fault}
use Rattle.book_rows.specs.declared.answers.Granted.{Granted}
use Rattle.book_rows.specs.declared.rows.Book.{Book}
use Rattle.book_rows.specs.declared.rows.TaskRow.{TaskRow}
use Rattle.book_rows.specs.declared.rows.Want.{Want}
use Rattle.laws_chunks.specs.ChunksSound.{AreChunksSound}

-- a task leaves all its locks
abbrev pub LeaveAllKeeps : Type 0
LeaveAllKeeps = (task : List ℕ) (b : Book) → AreChunksSound b → AreChunksSound (left_all_locks task b)

-- a request for a lock that is granted, at whatever instant
abbrev pub GrantedKeeps : Type 0
GrantedKeeps = (b : Book) (now : ℤ) (t : TaskRow) (w : Want) (g : Granted) → grant b.posses (counters_at b now) t w ≡ Ok g → AreChunksSound b → AreChunksSound (book_granted b t.task g)

-- several, each on the outcome of those before
abbrev pub AllGrantedKeeps : Type 0
AllGrantedKeeps = (b : Book) (now : ℤ) (t : TaskRow) (ws : List Want) (g : Granted) → grant_all b.posses (counters_at b now) t ws ≡ Ok g → AreChunksSound b → AreChunksSound (book_granted b t.task g)

-- a drop that isn't refused
abbrev pub DroppedKeeps : Type 0
DroppedKeeps = (source : List ℕ) (span : Extent) (b : Book) → drop_fault b.posses b.segments source span ≡ None → AreChunksSound b → AreChunksSound (after_drop source span b)
