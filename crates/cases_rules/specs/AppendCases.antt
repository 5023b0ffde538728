-- Appending: who may append which ids, what is a repeat, and which rows an append makes.
use Rattle.book_rows.specs.declared.commands.Command.{Command}
use Rattle.book_rows.specs.declared.rows.Book.{Book}
use Rattle.seg_names.specs.declared.seg_id.SegId.{SegId}
use Rattle.std.specs.Prelude.{List, [], codes, true, ◌++◌, ◌∷◌, ◌≡◌}
use Rattle.scenes.specs.Publishing.{LeavesBook, alloc_hour, alloc_seventh, append_read, hour_id, range, ranges_of, read_only, s1, seventh_id, submit_other, two_days, upgrade_row_of, used_row}
use Rattle.scenes.specs.Script.{after, s, s2, seventh_hour, Answers, alloc, append, contents, day, drop, fail, hour, id, lock, minutes, now, p, q, r, refuse, replace, show_contents, show_timeline, shows, start, submit, succeed, timeline, v0, x, y}
use Rattle.cases_rules.specs.ReplaceCases.{both, replaced_under_pending}
use Rattle.cases_rules.specs.StreamCases.{a1, a2, submit_in, two_replicas}
use Rattle.book_rows.specs.declared.commands.Command.TheVariants as Commands
use Rattle.iv_time.specs.declared.granularity.Granularity.TheVariants as Granularities
use Rattle.book_rows.specs.declared.kinds.LockKind.TheVariants as LockKinds
use Rattle.book_rows.specs.declared.replies.Refusal.TheVariants as Refusals
use Rattle.book_rows.specs.declared.replies.Reply.TheVariants as Replies
use Rattle.book_rows.specs.declared.kinds.TaskStatus.TheVariants as Statuses
use Rattle.book_rows.specs.declared.kinds.TaskKind.TheVariants as TaskKinds

-- ---- a task that is there and runs appends, and no other

abbrev pub OnlyRunningAppends : Type 0
OnlyRunningAppends =
    Answers (start p TaskKinds.Realtime ++ submit x TaskKinds.Realtime ∷ [])
    (append (codes "nobody") (hour_id 0 ∷ [])
    ∷ append x (hour_id 0 ∷ [])
    ∷ fail x
    ∷ append x (hour_id 0 ∷ [])
    ∷ succeed p
    ∷ append p (hour_id 0 ∷ [])
    ∷ [])
    (refuse Refusals.TaskUnknown
    ∷ refuse (Refusals.TaskNotRunning Statuses.Waiting)
    ∷ Replies.End Statuses.Failed x
    ∷ refuse (Refusals.TaskNotRunning Statuses.Failed)
    ∷ Replies.End Statuses.Success p
    ∷ refuse (Refusals.TaskNotRunning Statuses.Success)
    ∷ [])

-- ---- the first id that isn't the task's is told: one of another task's lock, or one that was never allocated

abbrev pub ForeignIdIsTold : Type 0
ForeignIdIsTold =
    Answers (start p TaskKinds.Realtime ++ start q TaskKinds.Realtime)
    (alloc_hour p s
    ∷ alloc_hour q s2
    ∷ append p (hour_id 0 ∷ hour_id 1 ∷ [])
    ∷ append p (hour_id 0 ∷ hour_id 2 ∷ [])
    ∷ append p (hour_id 1 ∷ hour_id 2 ∷ [])
    ∷ append p (hour_id 0 ∷ [])
    ∷ append q (hour_id 1 ∷ [])
    ∷ [])
    (Replies.Allocate (hour_id 0) 1 []
    ∷ Replies.Allocate (hour_id 1) 2 []
    ∷ refuse (Refusals.NotAllocated (hour_id 1))
    ∷ refuse (Refusals.NotAllocated (hour_id 2))
    ∷ refuse (Refusals.NotAllocated (hour_id 1))
    ∷ Replies.Append 0
    ∷ Replies.Append 1
    ∷ [])

-- ---- a copy of a pending isn't appended by itself

abbrev pub CopyIsNotAppended : Type 0
CopyIsNotAppended =
    Answers (both ++ replaced_under_pending)
    (append p (id day now 1 ∷ []) ∷ append p (id day now 1 ∷ hour_id 0 ∷ []) ∷ append p (hour_id 0 ∷ []) ∷ [])
    (refuse (Refusals.NotAllocated (id day now 1)) ∷ refuse (Refusals.NotAllocated (id day now 1)) ∷ Replies.Append 1 ∷ [])

-- ---- a task that left the lock doesn't append its ids any more, and one that is still a member does

abbrev pub MembersAppend : Type 0
MembersAppend =
    Answers (two_replicas ++ alloc_hour a1 s ∷ alloc_hour a2 s ∷ [])
    (Commands.Unlock a1 1 ∷ append a1 (hour_id 0 ∷ []) ∷ append a2 (hour_id 0 ∷ []) ∷ [])
    (Replies.Unlock true ∷ refuse (Refusals.NotAllocated (hour_id 0)) ∷ Replies.Append 0 ∷ [])

-- ---- an append that is repeated changes nothing, also after its task's end, and doesn't bring back what was dropped

abbrev pub one_append : List Command
one_append = start p TaskKinds.Realtime ++ alloc_hour p s ∷ append p (hour_id 0 ∷ []) ∷ []

abbrev pub RepeatedAppend : Type 0
RepeatedAppend =
    LeavesBook one_append (append p (hour_id 0 ∷ [])) (Replies.Append 0)
    × LeavesBook (one_append ++ succeed p ∷ []) (append p (hour_id 0 ∷ [])) (Replies.Append 0)
    × Answers (one_append ++ succeed p ∷ drop hour ∷ [])
    (append p (hour_id 0 ∷ []) ∷ show_timeline ∷ show_contents ∷ [])
    (Replies.Append 0 ∷ timeline [] ∷ contents [] ∷ [])

-- ---- other ids, other ranges or another stream make another publish

abbrev pub OtherListsAreNoRepeat : Type 0
OtherListsAreNoRepeat =
    Answers (start p TaskKinds.Realtime ++ alloc_hour p s ∷ append_read p (hour_id 0 ∷ []) (range 0 0 10 ∷ []) ∷ [])
    (append p (hour_id 0 ∷ [])
    ∷ append_read p (hour_id 0 ∷ []) (range 0 0 11 ∷ [])
    ∷ append_read p (hour_id 0 ∷ []) (range 0 0 10 ∷ range 1 0 0 ∷ [])
    ∷ append_read p (hour_id 0 ∷ []) (range 1 0 10 ∷ [])
    ∷ Commands.Append p (hour_id 0 ∷ []) (ranges_of (codes "other") (range 0 0 10 ∷ []))
    ∷ append_read p (hour_id 0 ∷ hour_id 1 ∷ []) (range 0 0 10 ∷ [])
    ∷ read_only p (range 0 0 10 ∷ [])
    ∷ append_read p (hour_id 0 ∷ []) (range 0 0 10 ∷ [])
    ∷ [])
    (refuse (Refusals.NotAllocated (hour_id 0))
    ∷ refuse (Refusals.NotAllocated (hour_id 0))
    ∷ refuse (Refusals.NotAllocated (hour_id 0))
    ∷ refuse (Refusals.NotAllocated (hour_id 0))
    ∷ refuse (Refusals.NotAllocated (hour_id 0))
    ∷ refuse (Refusals.NotAllocated (hour_id 0))
    ∷ refuse (Refusals.OffsetMismatch 0 10)
    ∷ Replies.Append 0
    ∷ [])

-- ---- another group, or the same group of another source, repeats nothing

abbrev pub OtherGroupIsNoRepeat : Type 0
OtherGroupIsNoRepeat =
    Answers (submit_in a1 (codes "g") ∷ submit_other x (codes "g") ∷ start p TaskKinds.Realtime)
    (read_only a1 (range 0 0 10 ∷ [])
    ∷ read_only x (range 0 0 10 ∷ [])
    ∷ read_only p (range 0 0 10 ∷ [])
    ∷ read_only a1 (range 0 0 10 ∷ [])
    ∷ read_only x (range 0 0 10 ∷ [])
    ∷ [])
    (Replies.Append 0 ∷ Replies.Append 1 ∷ refuse (Refusals.OffsetMismatch 0 10) ∷ Replies.Append 0 ∷ Replies.Append 1 ∷ [])

-- ---- ids that aren't allocated are told before ranges that don't fit, and a refused append keeps its pending

abbrev pub IdsBeforeRanges : Type 0
IdsBeforeRanges =
    Answers (start p TaskKinds.Realtime ++ alloc_hour p s ∷ [])
    (append_read p (hour_id 7 ∷ []) (range 0 10 9 ∷ [])
    ∷ append_read p (hour_id 0 ∷ []) (range 0 10 9 ∷ [])
    ∷ append_read p (hour_id 0 ∷ []) (range 0 9 10 ∷ [])
    ∷ [])
    (refuse (Refusals.NotAllocated (hour_id 7)) ∷ refuse (Refusals.BadRange 0) ∷ Replies.Append 0 ∷ [])

-- ---- members of different shared locks append into one chunk

abbrev pub SharedAppends : Type 0
SharedAppends =
    Answers (start x TaskKinds.Batch ++ start y TaskKinds.Batch)
    (alloc x LockKinds.Shared s (minutes 310) Granularities.Hour
    ∷ alloc y LockKinds.Shared s2 (minutes 320) Granularities.Hour
    ∷ append y (id hour now 1 ∷ [])
    ∷ append x (id hour now 0 ∷ [])
    ∷ show_timeline
    ∷ [])
    (Replies.Allocate (id hour now 0) 1 []
    ∷ Replies.Allocate (id hour now 1) 2 []
    ∷ Replies.Append 0
    ∷ Replies.Append 1
    ∷ timeline (shows hour now (id hour now 0 ∷ id hour now 1 ∷ []) ∷ [])
    ∷ [])

-- ---- the segments of each id: its own, and then its copy in the chunk that replaced it

abbrev pub two_hours : List Command
two_hours = both ++ alloc_hour p s ∷ alloc_seventh p s1 ∷ []

abbrev pub two_ids : List SegId
two_ids = hour_id 0 ∷ seventh_id 0 ∷ []

abbrev pub copied_appends : List Command
copied_appends = two_hours ++ lock r LockKinds.Replace day ∷ replace r day (id day now 0 ∷ []) ∷ append p two_ids ∷ []

abbrev pub copied_both : Book
copied_both = after copied_appends

abbrev pub EachRootThenItsCopy : Type 0
EachRootThenItsCopy =
    (copied_both.segments
    ≡ used_row (id day now 0) (id day now 0) 0
    ∷ used_row (hour_id 0) (hour_id 0) 1
    ∷ used_row (id day now 1) (hour_id 0) 1
    ∷ used_row (seventh_id 0) (seventh_id 0) 1
    ∷ used_row (id day now 2) (seventh_id 0) 1
    ∷ [])
    × (copied_both.upgrades ≡ [])
    × (copied_both.pendings ≡ [])

-- ---- what is appended under a replacing lock has an upgrade row, until the lock ends or is revoked

abbrev pub appended_under : List Command
appended_under = two_hours ++ lock r LockKinds.Replace day ∷ append p two_ids ∷ []

abbrev pub UpgradeRowsOfAppend : Type 0
UpgradeRowsOfAppend =
    ((after (two_hours ++ append p two_ids ∷ [])).upgrades ≡ [])
    × ((after appended_under).upgrades ≡ upgrade_row_of 3 (hour_id 0) ∷ upgrade_row_of 3 (seventh_id 0) ∷ [])
    × ((after (appended_under ++ Commands.Unlock r 3 ∷ [])).upgrades ≡ [])
    × ((after (appended_under ++ start y TaskKinds.Realtime ++ lock y LockKinds.Append two_days ∷ [])).upgrades ≡ [])

-- ---- where the lock's replacement is there already an append has no upgrade row, and elsewhere in its span it has

abbrev pub partly_replaced : List Command
partly_replaced = two_hours ++ lock r LockKinds.Replace day ∷ replace r hour (id hour now 0 ∷ []) ∷ append p two_ids ∷ []

abbrev pub UpgradeRowsWhereNotReplaced : Type 0
UpgradeRowsWhereNotReplaced =
    ((after partly_replaced).upgrades ≡ upgrade_row_of 3 (seventh_id 0) ∷ [])
    × ((after (partly_replaced ++ replace r seventh_hour (id seventh_hour now 0 ∷ []) ∷ [])).upgrades ≡ [])
    × Answers partly_replaced
    (show_timeline ∷ replace r seventh_hour (id seventh_hour now 0 ∷ []) ∷ show_timeline ∷ [])
    (timeline (shows hour now (id hour now 0 ∷ id hour now 1 ∷ []) ∷ shows seventh_hour v0 (seventh_id 0 ∷ []) ∷ [])
    ∷ Replies.Replace 2
    ∷ timeline (shows hour now (id hour now 0 ∷ id hour now 1 ∷ []) ∷ shows seventh_hour now (id seventh_hour now 0 ∷ id seventh_hour now 1 ∷ []) ∷ [])
    ∷ [])
