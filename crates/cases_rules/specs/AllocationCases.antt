-- Allocation: known sequences, the place of a new id, and chunks that others cut.
use Rattle.std.specs.Prelude.{◌++◌, ◌∷◌, ◌≡◌, List, [], codes, false, true}
use Rattle.scenes.specs.Script.{Answers, a, alloc, b, day, hour, id, insert, lock, minutes, now, now1, p, refuse, start, succeed, v0, c, append}
use Rattle.book_rows.specs.Answer.{book_after, changes, empty_book}
use Rattle.book_rows.specs.declared.commands.Command.{Command}
use Rattle.book_rows.specs.declared.commands.Command.TheVariants as Commands
use Rattle.iv_time.specs.declared.granularity.Granularity.TheVariants as Granularities
use Rattle.book_rows.specs.declared.kinds.LockKind.TheVariants as LockKinds
use Rattle.book_rows.specs.declared.replies.Refusal.TheVariants as Refusals
use Rattle.book_rows.specs.declared.replies.Reply.TheVariants as Replies
use Rattle.book_rows.specs.declared.kinds.TaskStatus.TheVariants as Statuses
use Rattle.book_rows.specs.declared.kinds.TaskKind.TheVariants as TaskKinds

-- ---- the same request is answered with the same id, and another one of its sequence is refused

abbrev pub SameRequestSameId : Type 0
SameRequestSameId =
    Answers (start p TaskKinds.Realtime)
    (alloc p LockKinds.Append (codes "s") (minutes 310) Granularities.Hour
    ∷ alloc p LockKinds.Append (codes "s") (minutes 310) Granularities.Hour
    ∷ alloc p LockKinds.Append (codes "s") (minutes 310) Granularities.Hour
    ∷ alloc p LockKinds.Append (codes "s") (minutes 430) Granularities.Hour
    ∷ [])
    (Replies.Allocate (id hour v0 0) 1 []
    ∷ Replies.Allocate (id hour v0 0) 1 []
    ∷ Replies.Allocate (id hour v0 0) 1 []
    ∷ refuse (Refusals.SequenceMismatch (id hour v0 0))
    ∷ [])

-- the second one changes nothing
abbrev pub RepeatChangesNothing : Type 0
RepeatChangesNothing =
    changes (book_after empty_book (start p TaskKinds.Realtime ++ alloc p LockKinds.Append (codes "s") (minutes 310) Granularities.Hour ∷ []))
    (alloc p LockKinds.Append (codes "s") (minutes 310) Granularities.Hour) ≡ false

-- ---- an id goes into the chunk that is visible, unless a greater version cuts it

abbrev pub day_then_hour : List Command
day_then_hour =
    start a TaskKinds.Batch
    ++ (lock a LockKinds.Exclusive day ∷ insert a day (id day now 0 ∷ []) ∷ succeed a ∷ [])
    ++ start b TaskKinds.Batch
    ++ (lock b LockKinds.Exclusive hour ∷ insert b hour (id hour now1 0 ∷ []) ∷ [])

abbrev pub IntoVisibleChunk : Type 0
IntoVisibleChunk =
    Answers (day_then_hour ++ succeed b ∷ start p TaskKinds.Realtime)
    (alloc p LockKinds.Append (codes "s") (minutes 420) Granularities.Day
    ∷ alloc p LockKinds.Append (codes "s") (minutes 330) Granularities.Day
    ∷ [])
    (refuse (Refusals.ChunkCut (id hour now1 0)) ∷ Replies.Allocate (id hour now1 1) 3 [] ∷ [])

-- the commits and locks on the way there
abbrev pub DayThenHour : Type 0
DayThenHour =
    Answers [] day_then_hour
    (Replies.Submit Statuses.Waiting a
    ∷ Replies.Manage (a ∷ []) []
    ∷ Replies.Lock 1 [] day now
    ∷ Replies.Insert 0
    ∷ Replies.End Statuses.Success a
    ∷ Replies.Submit Statuses.Waiting b
    ∷ Replies.Manage (b ∷ []) []
    ∷ Replies.Lock 2 [] hour now1
    ∷ Replies.Insert 1
    ∷ [])

-- ---- a used hour leaves the day's other buckets free, from coarse to fine

abbrev pub FinerBucket : Type 0
FinerBucket =
    Answers (start p TaskKinds.Realtime)
    (alloc p LockKinds.Append (codes "s") (minutes 310) Granularities.Hour
    ∷ alloc p LockKinds.Append (codes "s1") (minutes 430) Granularities.Day
    ∷ alloc p LockKinds.Append (codes "s2") (minutes 311) Granularities.Day
    ∷ [])
    (Replies.Allocate (id hour v0 0) 1 []
    ∷ Replies.Allocate (id (record { start = minutes 420; end = minutes 480 }) v0 0) 2 []
    ∷ Replies.Allocate (id hour v0 1) 1 []
    ∷ [])

-- ---- the place is found before the lock is asked for: it stays, though the lock takes away the pending that gave it

abbrev pub PlaceBeforeLock : Type 0
PlaceBeforeLock =
    Answers (start a TaskKinds.Batch ++ start c TaskKinds.Compaction)
    (alloc c LockKinds.Exclusive (codes "s") (minutes 310) Granularities.Hour
    ∷ alloc a LockKinds.Exclusive (codes "s2") (minutes 320) Granularities.Hour
    ∷ append c (id hour now 0 ∷ [])
    ∷ append a (id hour now 1 ∷ [])
    ∷ [])
    (Replies.Allocate (id hour now 0) 1 []
    ∷ Replies.Allocate (id hour now 1) 2 (1 ∷ [])
    ∷ refuse (Refusals.NotAllocated (id hour now 0))
    ∷ Replies.Append 0
    ∷ [])

-- ---- a part is never given twice: what an unlocked task had is gone, and its sequence forgotten

abbrev pub PartsGoOn : Type 0
PartsGoOn =
    Answers (start p TaskKinds.Realtime)
    (alloc p LockKinds.Append (codes "s") (minutes 310) Granularities.Hour
    ∷ Commands.Unlock p 1
    ∷ alloc p LockKinds.Append (codes "s") (minutes 310) Granularities.Hour
    ∷ [])
    (Replies.Allocate (id hour v0 0) 1 [] ∷ Replies.Unlock true ∷ Replies.Allocate (id hour v0 1) 2 [] ∷ [])
