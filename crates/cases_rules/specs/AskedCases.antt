-- What a replacement has to read: `to_replace`.
use Rattle.std.specs.Prelude.{[], codes, true, ◌++◌, ◌∷◌}
use Rattle.cases_rules.specs.AllocationCases.{day_then_hour}
use Rattle.cases_rules.specs.AppendCases.{one_append}
use Rattle.scenes.specs.Publishing.{LeavesBook, alloc_hour, hour_id, now3, s1}
use Rattle.cases_rules.specs.ReplaceCases.{appended_after, both, stream_day}
use Rattle.scenes.specs.Script.{seventh_hour, Answers, a, append, b, c, contents, day, fail, has_roots, hour, id, insert, lock, morning, now, now1, now2, p, q, r, refuse, replace, rest_of_day, show_contents, show_timeline, shows, start, submit, succeed, timeline, x}
use Rattle.cases_rules.specs.ReplaceRefusalCases.{two_revoked}
use Rattle.cases_rules.specs.ReplacementCases.{submit_batch}
use Rattle.cases_rules.specs.StreamCases.{a1, a2}
use Rattle.cases_rules.specs.TaskCases.{submit_wanting, wants}
use Rattle.cases_rules.specs.TombstoneCases.{insert_nothing}
use Rattle.book_rows.specs.declared.commands.Command.TheVariants as Commands
use Rattle.book_rows.specs.declared.kinds.LockKind.TheVariants as LockKinds
use Rattle.book_rows.specs.declared.replies.Refusal.TheVariants as Refusals
use Rattle.book_rows.specs.declared.replies.Reply.TheVariants as Replies
use Rattle.book_rows.specs.declared.kinds.TaskStatus.TheVariants as Statuses
use Rattle.book_rows.specs.declared.kinds.TaskKind.TheVariants as TaskKinds

-- ---- only a running task with a replacing lock asks

abbrev pub OnlyReplacingAsks : Type 0
OnlyReplacingAsks =
    Answers (two_revoked ++ submit x TaskKinds.Batch ∷ [])
    (Commands.ToReplace (codes "nobody") day
    ∷ Commands.ToReplace x day
    ∷ Commands.ToReplace a day
    ∷ Commands.ToReplace c day
    ∷ Commands.ToReplace c seventh_hour
    ∷ Commands.ToReplace c morning
    ∷ fail x
    ∷ Commands.ToReplace x day
    ∷ [])
    (refuse Refusals.TaskUnknown
    ∷ refuse (Refusals.TaskNotRunning Statuses.Waiting)
    ∷ refuse (Refusals.LockMissing day)
    ∷ refuse (Refusals.LockRevoked 1)
    ∷ refuse (Refusals.LockRevoked 2)
    ∷ refuse (Refusals.LockMissing morning)
    ∷ Replies.End Statuses.Failed x
    ∷ refuse (Refusals.TaskNotRunning Statuses.Failed)
    ∷ [])

-- ---- asking changes nothing

abbrev pub AskingLeavesBook : Type 0
AskingLeavesBook = LeavesBook (both ++ stream_day) (Commands.ToReplace r day) (Replies.ToReplace (hour_id 0 ∷ []))

-- ---- of a copy its root is asked for; what its replacement left behind is not, nor what the lock itself published

abbrev pub RootsOfCopies : Type 0
RootsOfCopies =
    Answers (both ++ stream_day ++ replace r day (id day now 0 ∷ []) ∷ succeed r ∷ start q TaskKinds.Batch)
    (lock q LockKinds.Replace day ∷ Commands.ToReplace q day ∷ [])
    (Replies.Lock 3 [] day now1 ∷ Replies.ToReplace (id day now 0 ∷ hour_id 1 ∷ []) ∷ [])
    × Answers (both ++ stream_day ++ replace r day (id day now 0 ∷ []) ∷ []) (Commands.ToReplace r day ∷ []) (Replies.ToReplace [] ∷ [])

-- ---- what is hidden within the lock's span isn't asked for, and what shows in a part of it is

abbrev pub HiddenIsNotAsked : Type 0
HiddenIsNotAsked =
    Answers (day_then_hour ++ succeed b ∷ start q TaskKinds.Batch)
    (lock q LockKinds.Replace hour
    ∷ Commands.ToReplace q hour
    ∷ lock q LockKinds.Replace day
    ∷ Commands.Unlock q 3
    ∷ lock q LockKinds.Replace day
    ∷ Commands.ToReplace q hour
    ∷ [])
    (Replies.Lock 3 [] hour now2
    ∷ Replies.ToReplace (id hour now1 0 ∷ [])
    ∷ refuse (Refusals.LockConflict 3)
    ∷ Replies.Unlock true
    ∷ Replies.Lock 4 [] day now3
    ∷ Replies.ToReplace (id day now 0 ∷ id hour now1 0 ∷ [])
    ∷ [])

-- ---- a day that shows in the lock's hour is asked for whole, and its other hours stay when the hour is replaced

abbrev pub HourOfDayIsReplaced : Type 0
HourOfDayIsReplaced =
    Answers (start a TaskKinds.Batch ++ lock a LockKinds.Exclusive day ∷ insert a day (id day now 0 ∷ []) ∷ succeed a ∷ start q TaskKinds.Batch)
    (lock q LockKinds.Replace hour
    ∷ Commands.ToReplace q hour
    ∷ replace q hour (id hour now1 0 ∷ [])
    ∷ show_timeline
    ∷ show_contents
    ∷ [])
    (Replies.Lock 2 [] hour now1
    ∷ Replies.ToReplace (id day now 0 ∷ [])
    ∷ Replies.Replace 1
    ∷ timeline (shows morning now (id day now 0 ∷ []) ∷ shows hour now1 (id hour now1 0 ∷ []) ∷ shows rest_of_day now (id day now 0 ∷ []) ∷ [])
    ∷ contents (has_roots morning (id day now 0 ∷ []) ∷ has_roots hour (id hour now1 0 ∷ []) ∷ has_roots rest_of_day (id day now 0 ∷ []) ∷ [])
    ∷ [])

-- ---- a root that is hidden in its own span isn't asked for, though its copy shows elsewhere

abbrev pub HiddenInItsOwnSpan : Type 0
HiddenInItsOwnSpan =
    Answers
    (both
    ++ appended_after
    ++ (succeed p ∷ succeed r ∷ start a TaskKinds.Batch)
    ++ (lock a LockKinds.Exclusive hour ∷ insert a hour (id hour now1 0 ∷ []) ∷ succeed a ∷ start q TaskKinds.Batch))
    (show_timeline ∷ show_contents ∷ lock q LockKinds.Replace day ∷ Commands.ToReplace q day ∷ [])
    (timeline
    (shows morning now (id day now 0 ∷ id day now 1 ∷ [])
    ∷ shows hour now1 (id hour now1 0 ∷ [])
    ∷ shows rest_of_day now (id day now 0 ∷ id day now 1 ∷ [])
    ∷ [])
    ∷ contents (has_roots morning (id day now 0 ∷ []) ∷ has_roots hour (id hour now1 0 ∷ []) ∷ has_roots rest_of_day (id day now 0 ∷ []) ∷ [])
    ∷ Replies.Lock 4 [] day now2
    ∷ Replies.ToReplace (id day now 0 ∷ id hour now1 0 ∷ [])
    ∷ [])

-- ---- of a tombstone nothing is asked for

abbrev pub NothingIsAsked : Type 0
NothingIsAsked =
    Answers
    (start a TaskKinds.Batch
    ++ (lock a LockKinds.Exclusive day ∷ insert_nothing a day (id day now 0) ∷ succeed a ∷ start q TaskKinds.Batch))
    (lock q LockKinds.Replace day ∷ Commands.ToReplace q day ∷ [])
    (Replies.Lock 2 [] day now1 ∷ Replies.ToReplace [] ∷ [])

-- ---- what was added since is counted from the grant, also where the lock came when the task started

abbrev pub AskedSinceTheStart : Type 0
AskedSinceTheStart =
    Answers (one_append ++ submit_wanting r TaskKinds.Batch (wants LockKinds.Replace day ∷ []) ∷ [])
    (Commands.Manage now
    ∷ alloc_hour p s1
    ∷ append p (hour_id 1 ∷ [])
    ∷ Commands.ToReplace r day
    ∷ replace r day (id day now 0 ∷ [])
    ∷ show_timeline
    ∷ [])
    (Replies.Manage (r ∷ []) []
    ∷ Replies.Allocate (hour_id 1) 1 []
    ∷ Replies.Append 1
    ∷ Replies.ToReplace (hour_id 0 ∷ [])
    ∷ Replies.Replace 2
    ∷ timeline (shows day now (id day now 0 ∷ id day now 1 ∷ []) ∷ [])
    ∷ [])

-- ---- a task that joins the lock asks and replaces as the one that made it, also when that has ended

abbrev pub MembersAskAlike : Type 0
MembersAskAlike =
    Answers
    (one_append
    ++ (submit_batch a1
    ∷ submit_batch a2
    ∷ Commands.Manage now
    ∷ lock a1 LockKinds.Replace day
    ∷ alloc_hour p s1
    ∷ append p (hour_id 1 ∷ [])
    ∷ []))
    (lock a2 LockKinds.Replace hour
    ∷ Commands.ToReplace a2 hour
    ∷ succeed a1
    ∷ replace a2 day (id day now 0 ∷ [])
    ∷ show_timeline
    ∷ [])
    (Replies.Lock 2 [] day now
    ∷ Replies.ToReplace (hour_id 0 ∷ [])
    ∷ Replies.End Statuses.Success a1
    ∷ Replies.Replace 2
    ∷ timeline (shows day now (id day now 0 ∷ id day now 1 ∷ []) ∷ [])
    ∷ [])
