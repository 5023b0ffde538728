-- Kinds and states: which are the same, and which locks go together.
use Rattle.std.specs.Prelude.{◌||◌, Bool, false, not, true, ℕ}
use Rattle.iv_span.specs.Extent.{Extent, covers, overlap}
use Rattle.book_rows.specs.declared.kinds.LockKind.{LockKind}
use Rattle.book_rows.specs.declared.kinds.PubKind.{PubKind}
use Rattle.book_rows.specs.declared.kinds.SeqState.{SeqState}
use Rattle.book_rows.specs.declared.kinds.TaskKind.{TaskKind}
use Rattle.book_rows.specs.declared.kinds.TaskStatus.{TaskStatus}
use Rattle.book_rows.specs.declared.kinds.LockKind.TheVariants as LockKinds
use Rattle.book_rows.specs.declared.kinds.PubKind.TheVariants as PubKinds
use Rattle.book_rows.specs.declared.kinds.SeqState.TheVariants as States
use Rattle.book_rows.specs.declared.kinds.TaskStatus.TheVariants as Statuses
use Rattle.book_rows.specs.declared.kinds.TaskKind.TheVariants as TaskKinds

abbrev pub same_kind : LockKind → LockKind → Bool
same_kind LockKinds.Exclusive LockKinds.Exclusive = true
same_kind LockKinds.Shared LockKinds.Shared = true
same_kind LockKinds.Append LockKinds.Append = true
same_kind LockKinds.Replace LockKinds.Replace = true
same_kind _ _ = false

abbrev pub same_task_kind : TaskKind → TaskKind → Bool
same_task_kind TaskKinds.Realtime TaskKinds.Realtime = true
same_task_kind TaskKinds.Batch TaskKinds.Batch = true
same_task_kind TaskKinds.Compaction TaskKinds.Compaction = true
same_task_kind TaskKinds.Other TaskKinds.Other = true
same_task_kind _ _ = false

abbrev pub same_status : TaskStatus → TaskStatus → Bool
same_status Statuses.Waiting Statuses.Waiting = true
same_status Statuses.Running Statuses.Running = true
same_status Statuses.Success Statuses.Success = true
same_status Statuses.Failed Statuses.Failed = true
same_status _ _ = false

-- the status of a task that has ended
abbrev pub has_ended : TaskStatus → Bool
has_ended Statuses.Success = true
has_ended Statuses.Failed = true
has_ended _ = false

abbrev pub same_state : SeqState → SeqState → Bool
same_state States.Reading States.Reading = true
same_state States.Paused States.Paused = true
same_state States.Closed States.Closed = true
same_state States.Published States.Published = true
same_state States.Abandoned States.Abandoned = true
same_state _ _ = false

abbrev pub same_pub_kind : PubKind → PubKind → Bool
same_pub_kind PubKinds.Append PubKinds.Append = true
same_pub_kind PubKinds.Over PubKinds.Over = true
same_pub_kind PubKinds.Replace PubKinds.Replace = true
same_pub_kind PubKinds.Drop PubKinds.Drop = true
same_pub_kind PubKinds.Reset PubKinds.Reset = true
same_pub_kind _ _ = false

-- the priority of a task that names none
abbrev pub default_priority : TaskKind → ℕ
default_priority TaskKinds.Realtime = 75
default_priority TaskKinds.Batch = 50
default_priority TaskKinds.Compaction = 25
default_priority TaskKinds.Other = 0

-- the sequence isn't published or abandoned
abbrev pub is_unpublished : SeqState → Bool
is_unpublished States.Published = false
is_unpublished States.Abandoned = false
is_unpublished _ = true

-- locks of these kinds and spans, of one source, may be valid at once
abbrev pub go_together : LockKind → Extent → LockKind → Extent → Bool
go_together LockKinds.Shared a LockKinds.Shared b = true
go_together LockKinds.Append a LockKinds.Append b = true
go_together LockKinds.Append a LockKinds.Replace b = not (overlap a b) || covers b a
go_together LockKinds.Replace a LockKinds.Append b = not (overlap a b) || covers a b
go_together _ a _ b = not (overlap a b)

-- a lock beside which no chunk of a greater version comes
abbrev pub guards : LockKind → Bool
guards LockKinds.Exclusive = true
guards LockKinds.Replace = true
guards _ = false
