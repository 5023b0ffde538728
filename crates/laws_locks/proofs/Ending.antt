-- A task ends or fails, and with it the tasks of abandoned sequences.
use Rattle.std.proofs.Common.{◌≡◌, ℕ, false, List, [], ◌∷◌, Some, None, Option}
use Rattle.book_rows.specs.Lists.{In}
use Rattle.book_rows.specs.Locks.{is_member, left_all_locks}
use Rattle.book_rows.specs.Outcome.{task_of}
use Rattle.book_rows.specs.Reports.{ended}
use Rattle.book_rows.specs.TaskSteps.{all_failed, end_as, end_of_task, end_running, status_set, with_status}
use Rattle.book_rows.specs.declared.kinds.TaskStatus.{TaskStatus}
use Rattle.book_rows.specs.declared.kinds.TaskStatus.TheVariants as Statuses
use Rattle.book_rows.specs.declared.rows.Book.{Book}
use Rattle.book_rows.specs.declared.rows.PosseRow.{PosseRow}
use Rattle.book_rows.specs.declared.rows.TaskRow.{TaskRow}
use Rattle.laws_locks.specs.Commands.{EndKeepsLocks}
use Rattle.laws_locks.specs.LockShape.{HasSoundLocks}
use Rattle.laws_locks.specs.Moves.{FailKeepsLocks, LeaveKeepsLocks, ended_task}
use Rattle.laws_locks.proofs.Leaves.{leave_all_keeps, leave_keeps, left_all}
use Rattle.laws_locks.proofs.Managing.{map_length}
use Rattle.laws_locks.proofs.Members.{members_ended}
use Rattle.laws_locks.proofs.TaskRows.{task_rows_set}

pub leave_keeps_locks : LeaveKeepsLocks
leave_keeps_locks lock task b h = leave_keeps lock task b h

-- ---- one task

-- a task that is a member of no lock gets another status
status_keeps : (task : List ℕ) (status : TaskStatus) (b : Book) → ((q : PosseRow) → In q b.posses → is_member task q ≡ false) → HasSoundLocks b → HasSoundLocks (with_status task status b)
status_keeps task status b none h = (
  record {
    room = record { tasks = rw (map_length (status_set task status) b.tasks) h.0.room.tasks; locks = h.0.room.locks; numbers = h.0.room.numbers };
    instants = h.0.instants;
    tasks = task_rows_set task status b.tasks h.0.tasks;
    locks = h.0.locks;
    members = members_ended task status b.tasks b.posses none h.0.members;
  },
  h.1,
)

pub end_task_keeps : (task : List ℕ) (status : TaskStatus) (b : Book) → HasSoundLocks b → HasSoundLocks (ended_task task status b)
end_task_keeps task status b h = status_keeps task status (left_all_locks task b) (left_all task b) (leave_all_keeps task b h)

pub fail_keeps_locks : FailKeepsLocks
fail_keeps_locks task status b h = (end_task_keeps task status b h, left_all task b)

-- ---- several tasks

all_failed_keeps : (tasks : List (List ℕ)) (b : Book) → HasSoundLocks b → HasSoundLocks (all_failed tasks b)
all_failed_keeps [] b h = h
all_failed_keeps (task ∷ rest) b h = all_failed_keeps rest (ended_task task Statuses.Failed b) (end_task_keeps task Statuses.Failed b h)

-- ---- the command

end_running_keeps : (b : Book) (t : TaskRow) (status : TaskStatus) → HasSoundLocks b → HasSoundLocks (end_running b t status).book
end_running_keeps b t status h =
    let e = ended t.group t.task b.clock b.sequences in
    let after : Book = ended_task t.task status b in
    all_failed_keeps e.tasks (record after { sequences = e.sequences }) (end_task_keeps t.task status b h)

end_as_keeps : (s status : TaskStatus) (b : Book) (t : TaskRow) → HasSoundLocks b → HasSoundLocks (end_as s status b t).book
end_as_keeps Statuses.Success Statuses.Success b t h = h
end_as_keeps Statuses.Success Statuses.Failed b t h = h
end_as_keeps Statuses.Success Statuses.Waiting b t h = h
end_as_keeps Statuses.Success Statuses.Running b t h = h
end_as_keeps Statuses.Failed Statuses.Success b t h = h
end_as_keeps Statuses.Failed Statuses.Failed b t h = h
end_as_keeps Statuses.Failed Statuses.Waiting b t h = h
end_as_keeps Statuses.Failed Statuses.Running b t h = h
end_as_keeps Statuses.Waiting Statuses.Success b t h = h
end_as_keeps Statuses.Waiting Statuses.Failed b t h = end_running_keeps b t Statuses.Failed h
end_as_keeps Statuses.Waiting Statuses.Waiting b t h = end_running_keeps b t Statuses.Waiting h
end_as_keeps Statuses.Waiting Statuses.Running b t h = end_running_keeps b t Statuses.Running h
end_as_keeps Statuses.Running Statuses.Success b t h = end_running_keeps b t Statuses.Success h
end_as_keeps Statuses.Running Statuses.Failed b t h = end_running_keeps b t Statuses.Failed h
end_as_keeps Statuses.Running Statuses.Waiting b t h = end_running_keeps b t Statuses.Waiting h
end_as_keeps Statuses.Running Statuses.Running b t h = end_running_keeps b t Statuses.Running h

end_of_task_keeps : (o : Option TaskRow) (b : Book) (status : TaskStatus) → HasSoundLocks b → HasSoundLocks (end_of_task o b status).book
end_of_task_keeps None b status h = h
end_of_task_keeps (Some t) b status h = end_as_keeps t.status status b t h

pub end_keeps_locks : EndKeepsLocks
end_keeps_locks task status b form h = end_of_task_keeps (task_of task b.tasks) b status h
