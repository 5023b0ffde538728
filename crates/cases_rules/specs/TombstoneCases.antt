-- Tombstones: replacing by nothing.
use Rattle.std.specs.Prelude.{◌++◌, ◌∷◌, List, None, [], codes, ℕ}
use Rattle.iv_span.specs.Extent.{Extent}
use Rattle.seg_names.specs.declared.seg_id.SegId.{SegId}
use Rattle.cases_rules.specs.ReplaceCases.{both, stream_day}
use Rattle.scenes.specs.Script.{Answers, a, alloc, append, b, contents, day, has_roots, hour, id, insert, lock, minutes, now, now1, p, r, refuse, show_contents, show_timeline, shows, start, succeed, timeline, v0}
use Rattle.book_rows.specs.declared.commands.Command.{Command}
use Rattle.book_rows.specs.declared.commands.Command.TheVariants as Commands
use Rattle.iv_time.specs.declared.granularity.Granularity.TheVariants as Granularities
use Rattle.book_rows.specs.declared.kinds.LockKind.TheVariants as LockKinds
use Rattle.book_rows.specs.declared.replies.Refusal.TheVariants as Refusals
use Rattle.book_rows.specs.declared.replies.Reply.TheVariants as Replies
use Rattle.book_rows.specs.declared.kinds.TaskStatus.TheVariants as Statuses
use Rattle.book_rows.specs.declared.kinds.TaskKind.TheVariants as TaskKinds

abbrev pub insert_nothing : List ℕ → Extent → SegId → Command
insert_nothing task span tombstone = Commands.Insert task (span ∷ []) [] (tombstone ∷ []) None

-- a day is inserted, and then overwritten by nothing
abbrev pub NothingOverDay : Type 0
NothingOverDay =
    Answers
    (start a TaskKinds.Batch
    ++ (lock a LockKinds.Exclusive day ∷ insert a day (id day now 0 ∷ []) ∷ succeed a ∷ [])
    ++ start b TaskKinds.Batch)
    (lock b LockKinds.Exclusive day
    ∷ insert_nothing b day (id day now1 1)
    ∷ insert_nothing b day (id day now1 0)
    ∷ insert_nothing b day (id day now1 0)
    ∷ show_timeline
    ∷ show_contents
    ∷ succeed b
    ∷ start p TaskKinds.Realtime
    ++ (alloc p LockKinds.Append (codes "s") (minutes 310) Granularities.Hour
    ∷ append p (id day now1 1 ∷ [])
    ∷ show_timeline
    ∷ []))
    (Replies.Lock 2 [] day now1
    ∷ refuse (Refusals.BadSpan day)
    ∷ Replies.Insert 1
    ∷ Replies.Insert 1
    ∷ timeline (shows day now1 [] ∷ [])
    ∷ contents []
    ∷ Replies.End Statuses.Success b
    ∷ Replies.Submit Statuses.Waiting p
    ∷ Replies.Manage (p ∷ []) []
    ∷ Replies.Allocate (id day now1 1) 3 []
    ∷ Replies.Append 2
    ∷ timeline (shows day now1 (id day now1 1 ∷ []) ∷ [])
    ∷ [])

-- a replacement by nothing carries what was appended since the lock
abbrev pub NothingCarriesAppended : Type 0
NothingCarriesAppended =
    Answers (both ++ stream_day)
    (Commands.Replace r (day ∷ []) [] (id day now 0 ∷ []) None ∷ show_timeline ∷ show_contents ∷ [])
    (Replies.Replace 2
    ∷ timeline (shows day now (id day now 1 ∷ []) ∷ [])
    ∷ contents (has_roots hour (id hour v0 1 ∷ []) ∷ [])
    ∷ [])

-- one id as an id and as a tombstone fills no span
abbrev pub BothIdAndTombstone : Type 0
BothIdAndTombstone =
    Answers (start a TaskKinds.Batch ++ lock a LockKinds.Exclusive day ∷ [])
    (Commands.Insert a (day ∷ []) (id day now 0 ∷ []) (id day now 0 ∷ []) None ∷ [])
    (refuse (Refusals.BadSpan day) ∷ [])
