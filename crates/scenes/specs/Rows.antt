-- Short names for rows that cases begin with: two tasks that run, their locks, and a pending.
use Rattle.book_rows.specs.declared.rows.PendingRow.{PendingRow}
use Rattle.book_rows.specs.declared.rows.PosseRow.{PosseRow}
use Rattle.book_rows.specs.declared.rows.TaskRow.{TaskRow}
use Rattle.std.specs.Prelude.{[]}
use Rattle.scenes.specs.Asking.{lock_row}
use Rattle.scenes.specs.Publishing.{hour_id, pending_row_of}
use Rattle.scenes.specs.Script.{day, hour, now, p, r, s, v0, w}
use Rattle.book_rows.specs.declared.kinds.LockKind.TheVariants as LockKinds
use Rattle.book_rows.specs.declared.kinds.TaskKind.TheVariants as TaskKinds
use Rattle.book_rows.specs.declared.kinds.TaskStatus.TheVariants as Statuses

-- a task that appends, and one that replaces
abbrev pub p_row : TaskRow
p_row = record { task = p; group = p; source = w; kind = TaskKinds.Realtime; priority = 75; status = Statuses.Running; wants = [] }

abbrev pub r_row : TaskRow
r_row = record { task = r; group = r; source = w; kind = TaskKinds.Batch; priority = 50; status = Statuses.Running; wants = [] }

-- lock 1, which appends, and lock 2, which replaces, of a book with one publication
abbrev pub p_lock : PosseRow
p_lock = lock_row 1 LockKinds.Append p hour v0 75

abbrev pub r_lock : PosseRow
r_lock = record (lock_row 2 LockKinds.Replace r day now 50) { since = 1 }

-- the first pending under lock 1
abbrev pub hour_pending : PendingRow
hour_pending = pending_row_of (hour_id 0) (hour_id 0) 1 s
