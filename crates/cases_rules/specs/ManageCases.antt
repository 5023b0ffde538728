-- Managing: which waiting tasks start, in which order, and with which locks.
use Rattle.book_rows.specs.Answer.{answers, empty_book}
use Rattle.book_rows.specs.declared.commands.Command.{Command}
use Rattle.book_rows.specs.declared.rows.Book.{Book}
use Rattle.book_rows.specs.declared.rows.Want.{Want}
use Rattle.iv_span.specs.Extent.{Extent}
use Rattle.std.specs.Prelude.{List, [], map, true, ℕ, ◌++◌, ◌∷◌, ◌≡◌}
use Rattle.cases_rules.specs.ReplaceCases.{chunk_row}
use Rattle.scenes.specs.Script.{after, s, Answers, a, alloc, b, c, day, fail, hour, next_day, now, now1, now2, refuse, submit, succeed, v0, w, x, y}
use Rattle.scenes.specs.Asking.{batch, compaction, exclusive, g, granted, group_row, hours, lock_row, lost, time}
use Rattle.scenes.specs.Bounds.{last_moment}
use Rattle.cases_rules.specs.TaskCases.{line_of, submit_wanting, wants}
use Rattle.book_rows.specs.declared.commands.Command.TheVariants as Commands
use Rattle.iv_time.specs.declared.granularity.Granularity.TheVariants as Granularities
use Rattle.book_rows.specs.declared.kinds.LockKind.TheVariants as LockKinds
use Rattle.book_rows.specs.declared.replies.Refusal.TheVariants as Refusals
use Rattle.book_rows.specs.declared.replies.Reply.TheVariants as Replies
use Rattle.book_rows.specs.declared.kinds.TaskStatus.TheVariants as Statuses
use Rattle.book_rows.specs.declared.kinds.TaskKind.TheVariants as TaskKinds
use Rattle.book_rows.specs.declared.commands.What.TheVariants as Whats

-- a batch task that wants exclusive locks
abbrev pub wanting : List ℕ → List Extent → Command
wanting task spans = submit_wanting task TaskKinds.Batch (map (wants LockKinds.Exclusive) spans)

-- ---- the order

-- the task that was submitted first gets the lock, and the other one when it is free; one that has ended isn't started
abbrev pub InSubmitOrder : Type 0
InSubmitOrder =
    Answers (submit a TaskKinds.Batch ∷ fail a ∷ wanting x (day ∷ []) ∷ wanting y (day ∷ []) ∷ [])
    (Commands.Manage now ∷ succeed x ∷ Commands.Manage now ∷ Commands.Manage now ∷ [])
    (Replies.Manage (x ∷ []) (y ∷ [])
    ∷ Replies.End Statuses.Success x
    ∷ Replies.Manage (y ∷ []) []
    ∷ Replies.Manage [] []
    ∷ [])

-- a later task of higher priority starts too, and revokes what the earlier one got just before
abbrev pub LaterTaskRevokes : Type 0
LaterTaskRevokes =
    Answers (submit_wanting c TaskKinds.Compaction (wants LockKinds.Exclusive day ∷ []) ∷ wanting a (day ∷ []) ∷ [])
    (Commands.Manage now ∷ Commands.Show Whats.Locks ∷ exclusive c hour ∷ [])
    (Replies.Manage (c ∷ a ∷ []) []
    ∷ Replies.Locks (record (line_of 1 c 25 day now) { revoked = true } ∷ line_of 2 a 50 day now1 ∷ [])
    ∷ lost 1
    ∷ [])

-- a task that doesn't get its locks takes no number and no version from the next one
abbrev pub RefusedTaskTakesNothing : Type 0
RefusedTaskTakesNothing =
    Answers (batch b ++ (exclusive b day ∷ wanting x (next_day ∷ day ∷ []) ∷ wanting y (next_day ∷ []) ∷ []))
    (Commands.Manage now ∷ Commands.Show Whats.Locks ∷ [])
    (Replies.Manage (y ∷ []) (x ∷ []) ∷ Replies.Locks (line_of 1 b 50 day now ∷ line_of 2 y 50 next_day now1 ∷ []) ∷ [])

-- ---- several wants of one task

abbrev pub managed_alone : List Want → Book
managed_alone list = after (submit_wanting x TaskKinds.Batch list ∷ Commands.Manage now ∷ [])

-- wants have locks of their own in their order, each but the appending one a new version; one within an earlier one of its type shares that one's
abbrev pub WantsInOrder : Type 0
WantsInOrder =
    ((managed_alone (wants LockKinds.Exclusive day ∷ wants LockKinds.Append next_day ∷ wants LockKinds.Replace (hours 48 72) ∷ [])).posses
    ≡ lock_row 1 LockKinds.Exclusive x day now 50
    ∷ lock_row 2 LockKinds.Append x next_day v0 50
    ∷ lock_row 3 LockKinds.Replace x (hours 48 72) now1 50
    ∷ [])
    × ((managed_alone (wants LockKinds.Exclusive day ∷ wants LockKinds.Append next_day ∷ [])).last ≡ now)
    × ((managed_alone (wants LockKinds.Exclusive day ∷ wants LockKinds.Exclusive hour ∷ [])).posses ≡ lock_row 1 LockKinds.Exclusive x day now 50 ∷ [])
    × ((managed_alone (wants LockKinds.Exclusive day ∷ wants LockKinds.Exclusive hour ∷ [])).next_lock ≡ 2)

-- a task whose own wants are in each other's way waits, and only the clock has changed
abbrev pub OwnWantsInTheWay : Type 0
OwnWantsInTheWay =
    Answers (submit_wanting x TaskKinds.Batch (wants LockKinds.Shared day ∷ wants LockKinds.Exclusive hour ∷ []) ∷ []) (Commands.Manage now ∷ []) (Replies.Manage [] (x ∷ []) ∷ [])
    × (managed_alone (wants LockKinds.Shared day ∷ wants LockKinds.Exclusive hour ∷ [])
    ≡ record (after (submit_wanting x TaskKinds.Batch (wants LockKinds.Shared day ∷ wants LockKinds.Exclusive hour ∷ []) ∷ [])) { clock = now })

-- a task of the group that wants the day
abbrev pub group_wanting : List ℕ → Command
group_wanting task = Commands.Submit task g w TaskKinds.Batch 50 (wants LockKinds.Exclusive day ∷ [])

-- the second task of a group joins the lock that the first one got
abbrev pub GroupStartsTogether : Type 0
GroupStartsTogether =
    Answers (group_wanting x ∷ group_wanting y ∷ []) (Commands.Manage now ∷ []) (Replies.Manage (x ∷ y ∷ []) [] ∷ [])
    × ((after (group_wanting x ∷ group_wanting y ∷ Commands.Manage now ∷ [])).posses ≡ group_row 1 LockKinds.Exclusive (x ∷ y ∷ []) day now 50 ∷ [])

-- ---- the moment, the last version and the last number

-- a moment before the clock counts as the clock, also for the versions
abbrev pub ClockGivesVersion : Type 0
ClockGivesVersion =
    ((after (Commands.Manage now2 ∷ wanting x (day ∷ []) ∷ Commands.Manage now ∷ [])).posses ≡ lock_row 1 LockKinds.Exclusive x day now2 50 ∷ [])
    × ((after (Commands.Manage now2 ∷ wanting x (day ∷ []) ∷ Commands.Manage now ∷ [])).clock ≡ now2)

-- where the versions end within a task's wants it waits, and gives the last version back
abbrev pub WaitsAtLastVersion : Type 0
WaitsAtLastVersion =
    Answers (submit b TaskKinds.Batch ∷ wanting x (day ∷ next_day ∷ []) ∷ [])
    (Commands.Manage last_moment ∷ exclusive b day ∷ exclusive b next_day ∷ [])
    (Replies.Manage (b ∷ []) (x ∷ []) ∷ granted 1 day last_moment ∷ refuse Refusals.ClockEnd ∷ [])

-- a task for whose lock there is no number left waits
abbrev pub WaitsWithoutNumber : Type 0
WaitsWithoutNumber =
    answers (record empty_book { next_lock = 9007199254740991 })
    (wanting x (day ∷ []) ∷ wanting y (next_day ∷ []) ∷ submit a TaskKinds.Batch ∷ Commands.Manage now ∷ exclusive x hour ∷ [])
    ≡ Replies.Submit Statuses.Waiting x
    ∷ Replies.Submit Statuses.Waiting y
    ∷ Replies.Submit Statuses.Waiting a
    ∷ Replies.Manage (x ∷ a ∷ []) (y ∷ [])
    ∷ granted 9007199254740991 day now
    ∷ []

-- ---- what a revoked lock held

abbrev pub hour_taken : Book
hour_taken = after (compaction c ++ (alloc c LockKinds.Exclusive s (time 5 10) Granularities.Hour ∷ wanting x (hour ∷ []) ∷ Commands.Manage now ∷ []))

-- a task that starts takes away what was allocated in the lock that it revokes; the chunk stays
abbrev pub StartTakesPendings : Type 0
StartTakesPendings =
    (hour_taken.pendings ≡ [])
    × (hour_taken.chunks ≡ chunk_row hour now 0 1 ∷ [])
    × (hour_taken.posses ≡ record (lock_row 1 LockKinds.Exclusive c hour now 25) { revoked = true } ∷ lock_row 2 LockKinds.Exclusive x hour now1 50 ∷ [])
