-- Ending: once, with all locks left; and what a task that isn't there or doesn't run may ask.
use Rattle.book_rows.specs.Answer.{changes, empty_book}
use Rattle.book_rows.specs.declared.commands.Command.{Command}
use Rattle.book_rows.specs.declared.kinds.TaskStatus.{TaskStatus}
use Rattle.book_rows.specs.declared.replies.Reply.{Reply}
use Rattle.book_rows.specs.declared.rows.Book.{Book}
use Rattle.book_rows.specs.declared.rows.TaskRow.{TaskRow}
use Rattle.std.specs.Prelude.{List, [], false, true, ◌++◌, ◌∷◌, ◌≡◌}
use Rattle.scenes.specs.Asking.{Leaves, ask_hour, batch, compaction, exclusive, exclusive_at, group_of_two, group_row, lock_row, time}
use Rattle.scenes.specs.Script.{after, s, Answers, a, c, day, fail, hour, id, insert, next_day, now, now1, now2, refuse, submit, succeed, v0, w, x, y}
use Rattle.scenes.specs.Rows.{hour_pending}
use Rattle.book_rows.specs.declared.commands.Command.TheVariants as Commands
use Rattle.book_rows.specs.declared.kinds.LockKind.TheVariants as LockKinds
use Rattle.book_rows.specs.declared.replies.Refusal.TheVariants as Refusals
use Rattle.book_rows.specs.declared.replies.Reply.TheVariants as Replies
use Rattle.book_rows.specs.declared.kinds.TaskStatus.TheVariants as Statuses
use Rattle.book_rows.specs.declared.kinds.TaskKind.TheVariants as TaskKinds

-- ---- an end, and its repeat

abbrev pub ended_well : Book
ended_well = after (batch x ++ succeed x ∷ [])

-- a task ends once: the same end is answered again, the other one is refused, and neither changes anything
abbrev pub EndsOnce : Type 0
EndsOnce =
    Answers (batch x) (succeed x ∷ succeed x ∷ fail x ∷ []) (Replies.End Statuses.Success x ∷ Replies.End Statuses.Success x ∷ refuse (Refusals.TaskEnded Statuses.Success) ∷ [])
    × Leaves ended_well (succeed x) × Leaves ended_well (fail x)

abbrev pub running_x : TaskRow
running_x = record { task = x; group = x; source = w; kind = TaskKinds.Batch; priority = 50; status = Statuses.Running; wants = [] }

-- an end sets the status, and moves no clock
abbrev pub EndSetsStatus : Type 0
EndSetsStatus =
    ((after (batch x)).tasks ≡ running_x ∷ [])
    × (ended_well ≡ record (after (batch x)) { tasks = record running_x { status = Statuses.Success } ∷ [] })
    × (changes (after (batch x)) (succeed x) ≡ true)

-- ---- the locks

-- a compaction task with a revoked lock and another one, and the batch task that revoked it
abbrev pub three_locks : List Command
three_locks = batch a ++ (compaction c ++ (exclusive c hour ∷ exclusive a hour ∷ exclusive c next_day ∷ []))

-- a task that ends leaves all its locks, the revoked ones too, and no other task's
abbrev pub EndLeavesLocks : Type 0
EndLeavesLocks =
    ((after three_locks).posses
    ≡ record (lock_row 1 LockKinds.Exclusive c hour now 25) { revoked = true }
    ∷ lock_row 2 LockKinds.Exclusive a hour now1 50
    ∷ lock_row 3 LockKinds.Exclusive c next_day now2 25
    ∷ [])
    × ((after (three_locks ++ fail c ∷ [])).posses ≡ lock_row 2 LockKinds.Exclusive a hour now1 50 ∷ [])
    × ((after (three_locks ++ (fail c ∷ succeed a ∷ []))).posses ≡ [])

-- two of a group have allocated in one lock
abbrev pub one_lock_of_two : List Command
one_lock_of_two = group_of_two 50 ++ (ask_hour x s (time 5 10) ∷ ask_hour y s (time 5 10) ∷ [])

-- a lock and its pendings stay with the members that are left, and go with the last one
abbrev pub LastMemberTakesLock : Type 0
LastMemberTakesLock =
    ((after one_lock_of_two).posses ≡ group_row 1 LockKinds.Append (x ∷ y ∷ []) hour v0 50 ∷ [])
    × ((after (one_lock_of_two ++ fail x ∷ [])).posses ≡ group_row 1 LockKinds.Append (y ∷ []) hour v0 50 ∷ [])
    × ((after (one_lock_of_two ++ fail x ∷ [])).pendings ≡ hour_pending ∷ [])
    × ((after (one_lock_of_two ++ (fail x ∷ succeed y ∷ []))).posses ≡ [])
    × ((after (one_lock_of_two ++ (fail x ∷ succeed y ∷ []))).pendings ≡ [])

-- ---- tasks that aren't there or don't run

abbrev pub asks_all : List Command
asks_all = exclusive x day ∷ ask_hour x s (time 5 10) ∷ insert x day (id day now 0 ∷ []) ∷ Commands.Unlock x 1 ∷ []

abbrev pub not_running : TaskStatus → List Reply
not_running status =
    refuse (Refusals.TaskNotRunning status)
    ∷ refuse (Refusals.TaskNotRunning status)
    ∷ refuse (Refusals.TaskNotRunning status)
    ∷ Replies.Unlock false
    ∷ []

-- a task that isn't there is told so, whatever it asks; one that waits or has ended gets nothing, and has no lock to leave
abbrev pub OnlyRunningTasks : Type 0
OnlyRunningTasks =
    Answers (batch y) asks_all (refuse Refusals.TaskUnknown ∷ refuse Refusals.TaskUnknown ∷ refuse Refusals.TaskUnknown ∷ refuse Refusals.TaskUnknown ∷ [])
    × Answers (submit x TaskKinds.Batch ∷ []) asks_all (not_running Statuses.Waiting)
    × Answers (batch x ++ (exclusive x day ∷ succeed x ∷ [])) asks_all (not_running Statuses.Success)
    × Answers (batch x ++ (exclusive x day ∷ fail x ∷ [])) asks_all (not_running Statuses.Failed)

-- what is asked in vain changes nothing
abbrev pub AskedInVain : Type 0
AskedInVain =
    Leaves (after (submit x TaskKinds.Batch ∷ [])) (exclusive_at x day now2)
    × Leaves (after (submit x TaskKinds.Batch ∷ [])) (ask_hour x s (time 5 10))
    × Leaves (after (submit x TaskKinds.Batch ∷ [])) (succeed x)
    × Leaves empty_book (fail x)
    × Leaves empty_book (Commands.Unlock x 1)
