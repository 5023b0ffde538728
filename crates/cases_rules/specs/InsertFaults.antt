-- Which inserts are refused, fault by fault and in the order of the faults.
use Rattle.book_rows.specs.declared.commands.Command.{Command}
use Rattle.seg_names.specs.declared.seg_id.SegId.{SegId}
use Rattle.std.specs.Prelude.{List, [], true, ℕ, ℤ, ◌++◌, ◌+◌, ◌∷◌}
use Rattle.cases_rules.specs.GrantCases.{two_hours_lost}
use Rattle.scenes.specs.Asking.{appending, bad_span, batch, exclusive, granted, group_of_two, hours, insert_all, lost, missing, replacing, shared, time}
use Rattle.scenes.specs.Script.{s, s2, Answers, a, alloc, b, c, day, hour, id, insert, next_day, now, now1, now2, refuse, succeed, v0, x, y}
use Rattle.book_rows.specs.declared.commands.Command.TheVariants as Commands
use Rattle.iv_time.specs.declared.granularity.Granularity.TheVariants as Granularities
use Rattle.book_rows.specs.declared.kinds.LockKind.TheVariants as LockKinds
use Rattle.book_rows.specs.declared.replies.Refusal.TheVariants as Refusals
use Rattle.book_rows.specs.declared.replies.Reply.TheVariants as Replies

abbrev pub day_taken : List Command
day_taken = batch a ++ exclusive a day ∷ []

-- the first ids of such hours of the day, at this version
abbrev pub of_hour : ℕ → ℤ → ℕ → SegId
of_hour from version part = id (hours from (from + 1)) version part

-- ---- the spans

-- the first span that overlaps one before it is told; spans that touch do not overlap
abbrev pub SpansOverlap : Type 0
SpansOverlap =
    Answers day_taken
    (insert_all a (day ∷ day ∷ []) (id day now 0 ∷ []) []
    ∷ insert_all a (hours 0 3 ∷ hours 1 2 ∷ hours 2 4 ∷ []) (id day now 0 ∷ []) []
    ∷ insert_all a (hours 0 3 ∷ hours 3 4 ∷ hours 3 5 ∷ []) (id day now 0 ∷ []) []
    ∷ insert_all a (hours 5 6 ∷ hours 6 7 ∷ []) (of_hour 5 now 0 ∷ of_hour 6 now 0 ∷ []) []
    ∷ [])
    (bad_span day ∷ bad_span (hours 1 2) ∷ bad_span (hours 3 5) ∷ Replies.Insert 0 ∷ [])

-- an id of no listed span is told by its own span, before a span that has no ids
abbrev pub IdOfNoSpan : Type 0
IdOfNoSpan =
    Answers day_taken
    (insert_all a (hours 5 6 ∷ hours 6 7 ∷ []) (of_hour 5 now 1 ∷ of_hour 7 now 0 ∷ of_hour 8 now 0 ∷ []) []
    ∷ insert_all a (hours 5 6 ∷ hours 6 7 ∷ []) (of_hour 5 now 1 ∷ of_hour 8 now 0 ∷ []) (of_hour 7 now 0 ∷ [])
    ∷ insert_all a (day ∷ []) (of_hour 5 now 0 ∷ []) []
    ∷ insert_all a (day ∷ []) [] (id next_day now 0 ∷ [])
    ∷ [])
    (bad_span (hours 7 8) ∷ bad_span (hours 7 8) ∷ bad_span hour ∷ bad_span next_day ∷ [])

-- each span has its parts from 0 without a gap, or it is told: the first such
abbrev pub PartsWithoutGap : Type 0
PartsWithoutGap =
    Answers day_taken
    (insert a day (id day now 0 ∷ id day now 2 ∷ [])
    ∷ insert_all a (hours 5 6 ∷ hours 6 7 ∷ hours 7 8 ∷ []) (of_hour 5 now 0 ∷ of_hour 5 now 1 ∷ of_hour 7 now 1 ∷ []) []
    ∷ insert_all a (hours 5 6 ∷ hours 6 7 ∷ []) (of_hour 5 now 1 ∷ []) []
    ∷ insert a hour (id hour now 0 ∷ id hour now 1 ∷ id hour now 2 ∷ [])
    ∷ [])
    (bad_span day ∷ bad_span (hours 6 7) ∷ bad_span hour ∷ Replies.Insert 0 ∷ [])

-- a span has ids or one tombstone, of part 0: not both, not two
abbrev pub OneTombstone : Type 0
OneTombstone =
    Answers day_taken
    (insert_all a (day ∷ []) (id day now 0 ∷ []) (id day now 1 ∷ [])
    ∷ insert_all a (day ∷ []) (id day now 1 ∷ []) (id day now 0 ∷ [])
    ∷ insert_all a (day ∷ []) [] (id day now 0 ∷ id day now 1 ∷ [])
    ∷ insert_all a (hours 5 6 ∷ hours 6 7 ∷ []) (of_hour 5 now 0 ∷ []) (of_hour 6 now 1 ∷ [])
    ∷ insert_all a (hours 5 6 ∷ hours 6 7 ∷ []) (of_hour 6 now 0 ∷ []) (of_hour 5 now 0 ∷ [])
    ∷ [])
    (bad_span day ∷ bad_span day ∷ bad_span day ∷ bad_span (hours 6 7) ∷ Replies.Insert 0 ∷ [])

-- ---- the locks

-- the least lost lock that overlaps a span is told; span by span a lost lock or a missing one, the first of all
abbrev pub LostOrMissing : Type 0
LostOrMissing =
    Answers two_hours_lost
    (insert c (hours 6 7) (of_hour 6 now1 0 ∷ [])
    ∷ insert c (hours 5 7) (id (hours 5 7) now 0 ∷ [])
    ∷ insert c (hours 7 8) (of_hour 7 now 0 ∷ [])
    ∷ insert_all c (hours 4 5 ∷ hours 5 6 ∷ []) (of_hour 4 now 0 ∷ of_hour 5 now 0 ∷ []) []
    ∷ insert_all c (hours 6 7 ∷ hours 7 8 ∷ []) (of_hour 6 now 0 ∷ of_hour 7 now 0 ∷ []) []
    ∷ [])
    (lost 2 ∷ lost 1 ∷ missing (hours 7 8) ∷ missing (hours 4 5) ∷ lost 2 ∷ [])

-- a lost lock refuses where it was, also a task that has joined a valid lock around it
abbrev pub LostWithinHeld : Type 0
LostWithinHeld =
    Answers (group_of_two 25 ++ (batch a ++ (exclusive x hour ∷ exclusive a hour ∷ Commands.Unlock a 2 ∷ exclusive y day ∷ exclusive x (hours 8 9) ∷ [])))
    (insert x hour (id hour now2 0 ∷ [])
    ∷ insert x day (id day now2 0 ∷ [])
    ∷ insert x (hours 8 9) (of_hour 8 now2 0 ∷ [])
    ∷ insert y hour (id hour now2 0 ∷ [])
    ∷ [])
    (lost 1 ∷ lost 1 ∷ Replies.Insert 0 ∷ Replies.Insert 1 ∷ [])

-- no lock but an exclusive one that contains the span and has the task as a member lets it insert
abbrev pub NoOtherLock : Type 0
NoOtherLock =
    Answers (group_of_two 50)
    (shared x day
    ∷ insert x day (id day now 0 ∷ [])
    ∷ Commands.Unlock x 1
    ∷ replacing x day
    ∷ insert x day (id day now1 0 ∷ [])
    ∷ appending x day
    ∷ insert x day (id day v0 0 ∷ [])
    ∷ Commands.Unlock x 2
    ∷ Commands.Unlock x 3
    ∷ exclusive x hour
    ∷ insert x (hours 5 7) (id (hours 5 7) now2 0 ∷ [])
    ∷ insert y hour (id hour now2 0 ∷ [])
    ∷ insert x hour (id hour now2 0 ∷ [])
    ∷ [])
    (granted 1 day now
    ∷ missing day
    ∷ Replies.Unlock true
    ∷ granted 2 day now1
    ∷ missing day
    ∷ granted 3 day v0
    ∷ missing day
    ∷ Replies.Unlock true
    ∷ Replies.Unlock true
    ∷ granted 4 hour now2
    ∷ missing (hours 5 7)
    ∷ missing hour
    ∷ Replies.Insert 0
    ∷ [])

-- ---- versions, chunks and pendings

-- each id has the version of its own span's lock, or the first that hasn't is told, a tombstone too
abbrev pub OwnLocksVersion : Type 0
OwnLocksVersion =
    Answers (batch a ++ (exclusive a (hours 5 6) ∷ exclusive a (hours 6 7) ∷ []))
    (insert_all a (hours 5 6 ∷ hours 6 7 ∷ []) (of_hour 5 now 0 ∷ of_hour 6 now 0 ∷ []) []
    ∷ insert_all a (hours 5 6 ∷ hours 6 7 ∷ []) (of_hour 5 now1 0 ∷ of_hour 6 now 0 ∷ []) []
    ∷ insert_all a (hours 5 6 ∷ hours 6 7 ∷ []) (of_hour 6 now 0 ∷ []) (of_hour 5 now1 0 ∷ [])
    ∷ insert_all a (hours 5 6 ∷ hours 6 7 ∷ []) (of_hour 5 now 0 ∷ []) (of_hour 6 now2 0 ∷ [])
    ∷ insert_all a (hours 5 6 ∷ hours 6 7 ∷ []) (of_hour 5 now 0 ∷ of_hour 6 now1 0 ∷ []) []
    ∷ [])
    (refuse (Refusals.WrongVersion (of_hour 6 now 0))
    ∷ refuse (Refusals.WrongVersion (of_hour 5 now1 0))
    ∷ refuse (Refusals.WrongVersion (of_hour 5 now1 0))
    ∷ refuse (Refusals.WrongVersion (of_hour 6 now2 0))
    ∷ Replies.Insert 0
    ∷ [])

-- a span over which the lock's version has a chunk is told, the first such; touching chunks are none
abbrev pub VersionHasChunk : Type 0
VersionHasChunk =
    Answers (day_taken ++ alloc a LockKinds.Exclusive s (time 5 10) Granularities.Hour ∷ [])
    (insert a day (id day now 0 ∷ [])
    ∷ insert a hour (id hour now 0 ∷ [])
    ∷ insert_all a (hours 2 3 ∷ hours 4 6 ∷ []) (of_hour 2 now 0 ∷ id (hours 4 6) now 0 ∷ []) []
    ∷ insert_all a (hours 4 5 ∷ hours 6 7 ∷ []) (of_hour 4 now 0 ∷ of_hour 6 now 0 ∷ []) []
    ∷ insert_all a (hours 2 3 ∷ hours 3 5 ∷ hours 6 8 ∷ []) (of_hour 2 now 0 ∷ id (hours 3 5) now 0 ∷ id (hours 6 8) now 0 ∷ []) []
    ∷ [])
    (refuse (Refusals.VersionUsed day)
    ∷ refuse (Refusals.VersionUsed hour)
    ∷ refuse (Refusals.VersionUsed (hours 4 6))
    ∷ Replies.Insert 0
    ∷ refuse (Refusals.VersionUsed (hours 3 5))
    ∷ [])

-- two hours are inserted, and then a later one and an early one allocated beside them
abbrev pub two_pendings : List Command
two_pendings =
    day_taken
    ++ (insert_all a (hours 5 6 ∷ hours 7 8 ∷ []) (of_hour 5 now 0 ∷ of_hour 7 now 0 ∷ []) [] ∷ succeed a ∷ [])
    ++ batch b
    ++ (exclusive b day
    ∷ alloc b LockKinds.Exclusive s (time 7 10) Granularities.Hour
    ∷ alloc b LockKinds.Exclusive s2 (time 5 10) Granularities.Hour
    ∷ [])

-- of the pendings that overlap a span the first in the order of rows is told; those that touch a span do not overlap it
abbrev pub FirstPendingIsTold : Type 0
FirstPendingIsTold =
    Answers two_pendings
    (insert b day (id day now1 0 ∷ [])
    ∷ insert_all b (hours 4 6 ∷ hours 6 8 ∷ []) (id (hours 4 6) now1 0 ∷ id (hours 6 8) now1 0 ∷ []) []
    ∷ insert b hour (id hour now1 0 ∷ [])
    ∷ insert_all b (hours 6 7 ∷ hours 8 9 ∷ []) (of_hour 6 now1 0 ∷ of_hour 8 now1 0 ∷ []) []
    ∷ [])
    (refuse (Refusals.PendingOverlap (of_hour 7 now 1))
    ∷ refuse (Refusals.PendingOverlap (of_hour 7 now 1))
    ∷ refuse (Refusals.PendingOverlap (of_hour 5 now 1))
    ∷ Replies.Insert 1
    ∷ [])
