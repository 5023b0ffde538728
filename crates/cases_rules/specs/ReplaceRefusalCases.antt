-- Which replacements are refused, in the order of the cases, and which are repeats.
use Rattle.book_rows.specs.declared.commands.Command.{Command}
use Rattle.iv_span.specs.Extent.{Extent}
use Rattle.seg_names.specs.declared.seg_id.SegId.{SegId}
use Rattle.std.specs.Prelude.{List, [], codes, true, ◌++◌, ◌∷◌}
use Rattle.scenes.specs.Publishing.{foreign_id, range, ranges, replace_spans, sixth_hour, two_days}
use Rattle.scenes.specs.Script.{s, s2, seventh_hour, Answers, a, alloc, append, b, c, day, hour, id, insert, lock, minutes, morning, next_day, now, now1, p, r, refuse, replace, rest_of_day, show_timeline, shows, start, submit, succeed, timeline, v0, x}
use Rattle.cases_rules.specs.ReplaceCases.{both}
use Rattle.book_rows.specs.declared.commands.Command.TheVariants as Commands
use Rattle.iv_time.specs.declared.granularity.Granularity.TheVariants as Granularities
use Rattle.book_rows.specs.declared.kinds.LockKind.TheVariants as LockKinds
use Rattle.book_rows.specs.declared.replies.Refusal.TheVariants as Refusals
use Rattle.book_rows.specs.declared.replies.Reply.TheVariants as Replies
use Rattle.book_rows.specs.declared.kinds.TaskStatus.TheVariants as Statuses
use Rattle.book_rows.specs.declared.kinds.TaskKind.TheVariants as TaskKinds

-- a batch task with a replacing lock on the day
abbrev pub replacing_day : List Command
replacing_day = start r TaskKinds.Batch ++ lock r LockKinds.Replace day ∷ []

-- ---- a task that is there and runs replaces; a repeat is answered also after its end

abbrev pub OnlyRunningReplaces : Type 0
OnlyRunningReplaces =
    Answers (start r TaskKinds.Batch ++ submit x TaskKinds.Batch ∷ [])
    (replace (codes "nobody") day (id day now 0 ∷ [])
    ∷ replace x day (id day now 0 ∷ [])
    ∷ lock r LockKinds.Replace day
    ∷ replace r day (id day now 0 ∷ [])
    ∷ succeed r
    ∷ replace r day (id day now 0 ∷ [])
    ∷ replace r day (id day now 0 ∷ id day now 1 ∷ [])
    ∷ [])
    (refuse Refusals.TaskUnknown
    ∷ refuse (Refusals.TaskNotRunning Statuses.Waiting)
    ∷ Replies.Lock 1 [] day now
    ∷ Replies.Replace 0
    ∷ Replies.End Statuses.Success r
    ∷ Replies.Replace 0
    ∷ refuse (Refusals.TaskNotRunning Statuses.Success)
    ∷ [])

-- ---- a span that overlaps an earlier one is told; spans that touch are let through

abbrev pub SpansMayTouch : Type 0
SpansMayTouch =
    Answers replacing_day
    (replace_spans r (day ∷ hour ∷ []) (id day now 0 ∷ [])
    ∷ replace_spans r (hour ∷ hour ∷ []) (id hour now 0 ∷ [])
    ∷ replace_spans r (morning ∷ day ∷ seventh_hour ∷ []) (id day now 0 ∷ [])
    ∷ replace_spans r (morning ∷ hour ∷ rest_of_day ∷ []) (id morning now 0 ∷ id hour now 0 ∷ id rest_of_day now 0 ∷ [])
    ∷ show_timeline
    ∷ [])
    (refuse (Refusals.BadSpan hour)
    ∷ refuse (Refusals.BadSpan hour)
    ∷ refuse (Refusals.BadSpan day)
    ∷ Replies.Replace 0
    ∷ timeline (shows morning now (id morning now 0 ∷ []) ∷ shows hour now (id hour now 0 ∷ []) ∷ shows rest_of_day now (id rest_of_day now 0 ∷ []) ∷ [])
    ∷ [])

-- ---- an id of another span or source is told by its own span, after spans that overlap and before spans that aren't filled

abbrev pub IdsOfOtherSpans : Type 0
IdsOfOtherSpans =
    Answers replacing_day
    (replace r day (id day now 0 ∷ id hour now 0 ∷ [])
    ∷ replace r day (foreign_id day ∷ [])
    ∷ replace r day (foreign_id next_day ∷ id day now 0 ∷ [])
    ∷ replace r day (id day now 5 ∷ id next_day now 0 ∷ [])
    ∷ replace_spans r (day ∷ hour ∷ []) (id next_day now 5 ∷ [])
    ∷ [])
    (refuse (Refusals.BadSpan hour)
    ∷ refuse (Refusals.BadSpan day)
    ∷ refuse (Refusals.BadSpan next_day)
    ∷ refuse (Refusals.BadSpan next_day)
    ∷ refuse (Refusals.BadSpan hour)
    ∷ [])

-- ---- the parts of a span are 0 to the last without a gap, counted over all versions

abbrev pub PartsWithoutGap : Type 0
PartsWithoutGap =
    Answers replacing_day
    (replace r day (id day now 1 ∷ [])
    ∷ replace r day (id day now 0 ∷ id day now 2 ∷ [])
    ∷ replace_spans r (day ∷ next_day ∷ []) (id day now 0 ∷ [])
    ∷ replace r day (id day now 0 ∷ id day now1 0 ∷ [])
    ∷ replace r day (id day now 1 ∷ id day now1 0 ∷ [])
    ∷ replace r day (id day now 0 ∷ id day now 1 ∷ id day now 2 ∷ [])
    ∷ [])
    (refuse (Refusals.BadSpan day)
    ∷ refuse (Refusals.BadSpan day)
    ∷ refuse (Refusals.BadSpan next_day)
    ∷ refuse (Refusals.BadSpan day)
    ∷ refuse (Refusals.WrongVersion (id day now1 0))
    ∷ Replies.Replace 0
    ∷ [])

-- ---- the least revoked lock of the task over a span is told; spans are asked one after the other

abbrev pub two_revoked : List Command
two_revoked =
    start c TaskKinds.Compaction
    ++ start a TaskKinds.Batch
    ++ (lock c LockKinds.Replace hour ∷ lock c LockKinds.Replace seventh_hour ∷ lock a LockKinds.Exclusive day ∷ [])

abbrev pub RevokedLocksAreTold : Type 0
RevokedLocksAreTold =
    Answers two_revoked
    (replace c hour (id hour now 0 ∷ [])
    ∷ replace c seventh_hour (id seventh_hour now1 0 ∷ [])
    ∷ replace c day (id day now 0 ∷ [])
    ∷ replace c next_day (id next_day now 0 ∷ [])
    ∷ replace_spans c (morning ∷ hour ∷ []) (id morning now 0 ∷ id hour now 0 ∷ [])
    ∷ replace_spans c (hour ∷ next_day ∷ []) (id hour now 0 ∷ id next_day now 0 ∷ [])
    ∷ [])
    (refuse (Refusals.LockRevoked 1)
    ∷ refuse (Refusals.LockRevoked 2)
    ∷ refuse (Refusals.LockRevoked 1)
    ∷ refuse (Refusals.LockMissing next_day)
    ∷ refuse (Refusals.LockMissing morning)
    ∷ refuse (Refusals.LockRevoked 1)
    ∷ [])

-- ---- a lock of another kind or of another task, one that is narrower than the span, and one that was left don't serve

abbrev pub LocksThatDoNotServe : Type 0
LocksThatDoNotServe =
    Answers
    (start a TaskKinds.Batch ++ start b TaskKinds.Batch ++ lock a LockKinds.Exclusive day ∷ lock a LockKinds.Replace next_day ∷ [])
    (replace a day (id day now 0 ∷ [])
    ∷ insert a next_day (id next_day now1 0 ∷ [])
    ∷ replace b next_day (id next_day now1 0 ∷ [])
    ∷ replace a two_days (id two_days now1 0 ∷ [])
    ∷ Commands.Unlock a 2
    ∷ replace a next_day (id next_day now1 0 ∷ [])
    ∷ [])
    (refuse (Refusals.LockMissing day)
    ∷ refuse (Refusals.LockMissing next_day)
    ∷ refuse (Refusals.LockMissing next_day)
    ∷ refuse (Refusals.LockMissing two_days)
    ∷ Replies.Unlock true
    ∷ refuse (Refusals.LockMissing next_day)
    ∷ [])

-- ---- each id has the version of its own span's lock, and the first that hasn't is told

abbrev pub VersionOfEachSpan : Type 0
VersionOfEachSpan =
    Answers (start r TaskKinds.Batch ++ lock r LockKinds.Replace hour ∷ lock r LockKinds.Replace seventh_hour ∷ [])
    (replace_spans r (hour ∷ seventh_hour ∷ []) (id hour now1 0 ∷ id seventh_hour now 0 ∷ [])
    ∷ replace_spans r (hour ∷ seventh_hour ∷ []) (id hour now 0 ∷ id seventh_hour now 0 ∷ [])
    ∷ replace_spans r (hour ∷ seventh_hour ∷ []) (id hour now 0 ∷ id seventh_hour now1 0 ∷ [])
    ∷ [])
    (refuse (Refusals.WrongVersion (id hour now1 0)) ∷ refuse (Refusals.WrongVersion (id seventh_hour now 0)) ∷ Replies.Replace 0 ∷ [])

-- ---- under one lock no span is replaced twice, nor one that overlaps it

abbrev pub ReplacedOnce : Type 0
ReplacedOnce =
    Answers replacing_day
    (replace r hour (id hour now 0 ∷ [])
    ∷ replace r day (id day now 0 ∷ [])
    ∷ replace_spans r (morning ∷ hour ∷ []) (id morning now 0 ∷ id hour now 0 ∷ [])
    ∷ replace r hour (id hour now 0 ∷ id hour now 1 ∷ [])
    ∷ replace r morning (id morning now 0 ∷ [])
    ∷ [])
    (Replies.Replace 0
    ∷ refuse (Refusals.VersionUsed day)
    ∷ refuse (Refusals.VersionUsed hour)
    ∷ refuse (Refusals.VersionUsed hour)
    ∷ Replies.Replace 1
    ∷ [])

-- ---- what was appended since the lock and reaches out of the span is told before a pending that does

abbrev pub two_of_day : List Command
two_of_day =
    both
    ++ (alloc p LockKinds.Append s (minutes 310) Granularities.Day
    ∷ alloc p LockKinds.Append s2 (minutes 320) Granularities.Day
    ∷ lock r LockKinds.Replace day
    ∷ [])

abbrev pub AppendedReachesOut : Type 0
AppendedReachesOut =
    Answers two_of_day
    (replace r hour (id hour now 0 ∷ [])
    ∷ append p (id day v0 1 ∷ [])
    ∷ replace r hour (id hour now 0 ∷ [])
    ∷ append p (id day v0 0 ∷ [])
    ∷ replace r hour (id hour now 0 ∷ [])
    ∷ replace r day (id day now 0 ∷ [])
    ∷ [])
    (refuse (Refusals.Granularity (id day v0 0))
    ∷ Replies.Append 0
    ∷ refuse (Refusals.Granularity (id day v0 1))
    ∷ Replies.Append 1
    ∷ refuse (Refusals.Granularity (id day v0 1))
    ∷ Replies.Replace 2
    ∷ [])

-- ---- of the upgrade rows of several locks the first in the table's order is told, whatever the order of the spans

abbrev pub two_hours : List Command
two_hours =
    both
    ++ (alloc p LockKinds.Append s (minutes 300) Granularities.Hour
    ∷ alloc p LockKinds.Append s2 (minutes 360) Granularities.Hour
    ∷ lock r LockKinds.Replace hour
    ∷ lock r LockKinds.Replace sixth_hour
    ∷ [])

-- the first quarters of the two hours
abbrev pub fifth_quarter : Extent
fifth_quarter = record { start = minutes 300; end = minutes 315 }

abbrev pub sixth_quarter : Extent
sixth_quarter = record { start = minutes 360; end = minutes 375 }

abbrev pub FirstUpgradeOfLocks : Type 0
FirstUpgradeOfLocks =
    Answers two_hours
    (append p (id sixth_hour v0 0 ∷ [])
    ∷ append p (id hour v0 0 ∷ [])
    ∷ replace_spans r (fifth_quarter ∷ sixth_quarter ∷ []) (id fifth_quarter now 0 ∷ id sixth_quarter now1 0 ∷ [])
    ∷ replace r fifth_quarter (id fifth_quarter now 0 ∷ [])
    ∷ replace_spans r (hour ∷ sixth_hour ∷ []) (id hour now 0 ∷ id sixth_hour now1 0 ∷ [])
    ∷ [])
    (Replies.Append 0
    ∷ Replies.Append 1
    ∷ refuse (Refusals.Granularity (id sixth_hour v0 0))
    ∷ refuse (Refusals.Granularity (id hour v0 0))
    ∷ Replies.Replace 2
    ∷ [])

-- ---- of several faults the first in the order of the cases is told

abbrev pub bad_replace : Extent → SegId → Command
bad_replace span name = Commands.Replace r (span ∷ []) (name ∷ []) [] (ranges (range 0 9 8 ∷ []))

abbrev pub FaultsOfReplace : Type 0
FaultsOfReplace =
    Answers (both ++ alloc p LockKinds.Append s (minutes 310) Granularities.Day ∷ lock r LockKinds.Replace day ∷ [])
    (bad_replace next_day (id next_day now1 1)
    ∷ bad_replace next_day (id next_day now1 0)
    ∷ bad_replace hour (id hour now1 0)
    ∷ bad_replace hour (id hour now 0)
    ∷ bad_replace day (id day now 0)
    ∷ replace r day (id day now 0 ∷ [])
    ∷ bad_replace hour (id hour now 0)
    ∷ [])
    (refuse (Refusals.BadSpan next_day)
    ∷ refuse (Refusals.LockMissing next_day)
    ∷ refuse (Refusals.WrongVersion (id hour now1 0))
    ∷ refuse (Refusals.Granularity (id day v0 0))
    ∷ refuse (Refusals.BadRange 0)
    ∷ Replies.Replace 0
    ∷ refuse (Refusals.VersionUsed hour)
    ∷ [])
