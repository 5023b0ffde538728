-- The words that stand in replies for kinds, states and tables.
use Rattle.std.specs.Prelude.{ℕ, List, codes, Option, Some, None}
use Rattle.book_rows.specs.declared.kinds.LockKind.{LockKind}
use Rattle.book_rows.specs.declared.kinds.LockKind.TheVariants as kind
use Rattle.book_rows.specs.declared.kinds.SeqState.{SeqState}
use Rattle.book_rows.specs.declared.kinds.SeqState.TheVariants as state
use Rattle.book_rows.specs.declared.kinds.Table.{Table}
use Rattle.book_rows.specs.declared.kinds.Table.TheVariants as table
use Rattle.book_rows.specs.declared.kinds.TaskStatus.{TaskStatus}
use Rattle.book_rows.specs.declared.kinds.TaskStatus.TheVariants as status

-- where a task stands
abbrev pub status_word : TaskStatus → List ℕ
status_word status.Waiting = codes "WAITING"
status_word status.Running = codes "RUNNING"
status_word status.Success = codes "SUCCESS"
status_word status.Failed = codes "FAILED"

-- the type of a lock
abbrev pub kind_word : LockKind → List ℕ
kind_word kind.Exclusive = codes "EXCLUSIVE"
kind_word kind.Shared = codes "SHARED"
kind_word kind.Append = codes "APPEND"
kind_word kind.Replace = codes "REPLACE"

-- the state of a sequence
abbrev pub state_word : SeqState → List ℕ
state_word state.Reading = codes "READING"
state_word state.Paused = codes "PAUSED"
state_word state.Closed = codes "CLOSED"
state_word state.Published = codes "PUBLISHED"
state_word state.Abandoned = codes "ABANDONED"

-- the state of a sequence, or a word for none where there is no sequence
abbrev pub state_or_none : Option SeqState → List ℕ
state_or_none None = codes "NONE"
state_or_none (Some state) = state_word state

-- what is full
abbrev pub table_word : Table → List ℕ
table_word table.Tasks = codes "tasks"
table_word table.Locks = codes "locks"
table_word table.Numbers = codes "numbers"
table_word table.Chunks = codes "chunks"
table_word table.Parts = codes "parts"
table_word table.Segments = codes "segments"
table_word table.Pendings = codes "pendings"
table_word table.Upgrades = codes "upgrades"
table_word table.Publications = codes "publications"
table_word table.Offsets = codes "offsets"
table_word table.Supervisors = codes "supervisors"
table_word table.Sequences = codes "sequences"
