-- Inserting and dropping.
use Rattle.std.specs.Prelude.{◌++◌, ◌∷◌, List, None, [], codes}
use Rattle.seg_names.specs.declared.seg_id.SegId.{SegId}
use Rattle.cases_rules.specs.AllocationCases.{day_then_hour}
use Rattle.scenes.specs.Script.{Answers, a, alloc, b, day, drop, hour, id, insert, lock, minutes, morning, next_day, now, now1, refuse, rest_of_day, show_timeline, shows, start, succeed, timeline, v0, p}
use Rattle.book_rows.specs.declared.commands.Command.{Command}
use Rattle.book_rows.specs.declared.commands.Command.TheVariants as Commands
use Rattle.iv_time.specs.declared.granularity.Granularity.TheVariants as Granularities
use Rattle.book_rows.specs.declared.kinds.LockKind.TheVariants as LockKinds
use Rattle.book_rows.specs.declared.replies.Refusal.TheVariants as Refusals
use Rattle.book_rows.specs.declared.replies.Reply.TheVariants as Replies
use Rattle.book_rows.specs.declared.kinds.TaskStatus.TheVariants as Statuses
use Rattle.book_rows.specs.declared.kinds.TaskKind.TheVariants as TaskKinds

-- ---- which inserts are refused

abbrev pub InsertRefusals : Type 0
InsertRefusals =
    Answers (start a TaskKinds.Batch ++ lock a LockKinds.Exclusive day ∷ [])
    (Commands.Insert a (day ∷ hour ∷ []) (id day now 0 ∷ []) [] None
    ∷ insert a day (id day now 1 ∷ [])
    ∷ insert a next_day (id next_day now 0 ∷ [])
    ∷ insert a day (id day v0 0 ∷ [])
    ∷ insert a day (id day now 0 ∷ [])
    ∷ insert a day (id day now 0 ∷ [])
    ∷ insert a day (id day now 0 ∷ id day now 1 ∷ [])
    ∷ alloc a LockKinds.Exclusive (codes "s") (minutes 300) Granularities.Day
    ∷ lock a LockKinds.Exclusive next_day
    ∷ alloc a LockKinds.Exclusive (codes "s3") (minutes 1440) Granularities.Day
    ∷ insert a next_day (id next_day now1 0 ∷ [])
    ∷ [])
    (refuse (Refusals.BadSpan hour)
    ∷ refuse (Refusals.BadSpan day)
    ∷ refuse (Refusals.LockMissing next_day)
    ∷ refuse (Refusals.WrongVersion (id day v0 0))
    ∷ Replies.Insert 0
    ∷ Replies.Insert 0
    ∷ refuse (Refusals.VersionUsed day)
    ∷ Replies.Allocate (id day now 1) 1 []
    ∷ Replies.Lock 2 [] next_day now1
    ∷ Replies.Allocate (id next_day now1 0) 2 []
    ∷ refuse (Refusals.VersionUsed next_day)
    ∷ [])

abbrev pub PendingRefusesInsert : Type 0
PendingRefusesInsert =
    Answers (start a TaskKinds.Batch ++ lock a LockKinds.Exclusive day ∷ [])
    (insert a day (id day now 0 ∷ [])
    ∷ succeed a
    ∷ start b TaskKinds.Batch
    ++ (lock b LockKinds.Exclusive day
    ∷ alloc b LockKinds.Exclusive (codes "s") (minutes 300) Granularities.Day
    ∷ insert b day (id day now1 0 ∷ [])
    ∷ []))
    (Replies.Insert 0
    ∷ Replies.End Statuses.Success a
    ∷ Replies.Submit Statuses.Waiting b
    ∷ Replies.Manage (b ∷ []) []
    ∷ Replies.Lock 2 [] day now1
    ∷ Replies.Allocate (id day now 1) 2 []
    ∷ refuse (Refusals.PendingOverlap (id day now 1))
    ∷ [])

-- ---- the first fault in the order of the cases is told

abbrev pub spans_of_two : List SegId → Command
spans_of_two ids = Commands.Insert a (day ∷ next_day ∷ []) ids [] None

abbrev pub FaultsInOrder : Type 0
FaultsInOrder =
    Answers (start a TaskKinds.Batch ++ lock a LockKinds.Exclusive day ∷ [])
    (spans_of_two (id hour now 0 ∷ id day now 0 ∷ [])
    ∷ spans_of_two (id day now 0 ∷ id day now1 0 ∷ id next_day now1 0 ∷ [])
    ∷ spans_of_two (id day now 0 ∷ id day now1 1 ∷ id next_day now1 0 ∷ [])
    ∷ [])
    (refuse (Refusals.BadSpan hour) ∷ refuse (Refusals.BadSpan day) ∷ refuse (Refusals.LockMissing next_day) ∷ [])

-- ---- dropping

abbrev pub DropsWhole : Type 0
DropsWhole =
    Answers day_then_hour
    (drop day
    ∷ show_timeline
    ∷ succeed b
    ∷ drop hour
    ∷ drop day
    ∷ show_timeline
    ∷ [])
    (refuse (Refusals.DropLocked 2)
    ∷ timeline (shows morning now (id day now 0 ∷ []) ∷ shows hour now1 (id hour now1 0 ∷ []) ∷ shows rest_of_day now (id day now 0 ∷ []) ∷ [])
    ∷ Replies.End Statuses.Success b
    ∷ refuse (Refusals.DropPartial (id day now 0))
    ∷ Replies.Drop 2
    ∷ timeline []
    ∷ [])

-- a drop of what isn't there is a publication all the same
abbrev pub DropsNothing : Type 0
DropsNothing = Answers [] (drop day ∷ drop day ∷ []) (Replies.Drop 0 ∷ Replies.Drop 1 ∷ [])

-- ---- an id of another source is told by its own span, and an id that cuts a chunk may be a tombstone

abbrev pub foreign : SegId
foreign = record { source = codes "v"; span = next_day; version = now; part = 0 }

abbrev pub ForeignId : Type 0
ForeignId =
    Answers (start a TaskKinds.Batch ++ lock a LockKinds.Exclusive day ∷ [])
    (Commands.Insert a (day ∷ next_day ∷ []) (foreign ∷ id day now 0 ∷ []) [] None ∷ [])
    (refuse (Refusals.BadSpan next_day) ∷ [])

abbrev pub TombstoneCuts : Type 0
TombstoneCuts =
    Answers
    (start a TaskKinds.Batch
    ++ (lock a LockKinds.Exclusive day ∷ insert a day (id day now 0 ∷ []) ∷ succeed a ∷ [])
    ++ start b TaskKinds.Batch)
    (lock b LockKinds.Exclusive hour
    ∷ Commands.Insert b (hour ∷ []) [] (id hour now1 0 ∷ []) None
    ∷ succeed b
    ∷ start p TaskKinds.Realtime
    ++ (alloc p LockKinds.Append (codes "s") (minutes 420) Granularities.Day ∷ show_timeline ∷ []))
    (Replies.Lock 2 [] hour now1
    ∷ Replies.Insert 1
    ∷ Replies.End Statuses.Success b
    ∷ Replies.Submit Statuses.Waiting p
    ∷ Replies.Manage (p ∷ []) []
    ∷ refuse (Refusals.ChunkCut (id hour now1 0))
    ∷ timeline (shows morning now (id day now 0 ∷ []) ∷ shows hour now1 [] ∷ shows rest_of_day now (id day now 0 ∷ []) ∷ [])
    ∷ [])
