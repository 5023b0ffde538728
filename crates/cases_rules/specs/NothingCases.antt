-- Inserting and replacing by tombstones.
use Rattle.book_rows.specs.declared.commands.Command.{Command}
use Rattle.iv_span.specs.Extent.{Extent}
use Rattle.seg_names.specs.declared.seg_id.SegId.{SegId}
use Rattle.std.specs.Prelude.{List, None, [], ◌++◌, ◌∷◌, ◌≡◌}
use Rattle.scenes.specs.Publishing.{LeavesBook, alloc_hour, foreign_id, hour_id, point, range, ranges, replace_nothing, reset, tomb_row_of, two_days, used_row}
use Rattle.scenes.specs.Script.{after, s, Answers, a, alloc, append, b, contents, day, drop, has_roots, hour, id, insert, lock, minutes, morning, next_day, now, now1, p, r, refuse, replace, rest_of_day, show_contents, show_timeline, shows, start, succeed, timeline, v0, w}
use Rattle.cases_rules.specs.ReplaceCases.{both, chunk_row}
use Rattle.cases_rules.specs.TombstoneCases.{insert_nothing}
use Rattle.book_rows.specs.declared.commands.Command.TheVariants as Commands
use Rattle.iv_time.specs.declared.granularity.Granularity.TheVariants as Granularities
use Rattle.book_rows.specs.declared.kinds.LockKind.TheVariants as LockKinds
use Rattle.book_rows.specs.declared.kinds.PubKind.TheVariants as PubKinds
use Rattle.book_rows.specs.declared.replies.Refusal.TheVariants as Refusals
use Rattle.book_rows.specs.declared.replies.Reply.TheVariants as Replies
use Rattle.book_rows.specs.declared.kinds.TaskKind.TheVariants as TaskKinds

abbrev pub insert_mixed : List Extent → List SegId → List SegId → Command
insert_mixed spans ids tombstones = Commands.Insert a spans ids tombstones None

abbrev pub inserting : Extent → List Command
inserting span = start a TaskKinds.Batch ++ lock a LockKinds.Exclusive span ∷ []

-- ---- a span has ids, or one tombstone of part 0; ids and tombstones together are taken in id order

abbrev pub SpansFilledByTombstones : Type 0
SpansFilledByTombstones =
    Answers (inserting two_days)
    (insert_mixed (day ∷ []) (id day now 0 ∷ []) (id day now 1 ∷ [])
    ∷ insert_mixed (day ∷ []) [] (id day now 0 ∷ id day now 1 ∷ [])
    ∷ insert_mixed (day ∷ next_day ∷ []) (id day now 0 ∷ []) (id next_day now 1 ∷ [])
    ∷ insert_mixed (day ∷ next_day ∷ []) [] (id next_day now 0 ∷ [])
    ∷ insert_mixed (day ∷ []) [] (id hour now 0 ∷ [])
    ∷ insert_mixed (day ∷ []) [] (foreign_id day ∷ [])
    ∷ insert_mixed (day ∷ []) (id next_day now 0 ∷ []) (id hour now 0 ∷ [])
    ∷ [])
    (refuse (Refusals.BadSpan day)
    ∷ refuse (Refusals.BadSpan day)
    ∷ refuse (Refusals.BadSpan next_day)
    ∷ refuse (Refusals.BadSpan day)
    ∷ refuse (Refusals.BadSpan hour)
    ∷ refuse (Refusals.BadSpan day)
    ∷ refuse (Refusals.BadSpan hour)
    ∷ [])

-- ---- one span gets ids and another a tombstone in one insert

abbrev pub mixed_insert : List Command
mixed_insert = inserting two_days ++ insert_mixed (day ∷ next_day ∷ []) (id next_day now 0 ∷ []) (id day now 0 ∷ []) ∷ []

abbrev pub IdsBesideTombstone : Type 0
IdsBesideTombstone =
    Answers mixed_insert (show_timeline ∷ show_contents ∷ [])
    (timeline (shows day now [] ∷ shows next_day now (id next_day now 0 ∷ []) ∷ []) ∷ contents (has_roots next_day (id next_day now 0 ∷ []) ∷ []) ∷ [])
    × ((after mixed_insert).segments ≡ tomb_row_of (id day now 0) 0 ∷ used_row (id next_day now 0) (id next_day now 0) 0 ∷ [])
    × ((after mixed_insert).chunks ≡ chunk_row day now 1 1 ∷ chunk_row next_day now 1 1 ∷ [])
    × ((after mixed_insert).publications
    ≡ record {
      kind = PubKinds.Over;
      group = a;
      source = w;
      spans = record { span = day; since = 0 } ∷ record { span = next_day; since = 0 } ∷ [];
      adds = id next_day now 0 ∷ [];
      empties = id day now 0 ∷ [];
      ranges = None;
    }
    ∷ [])

-- ---- a tombstone has its lock's version, its version is used up by it, and its repeat names it as a tombstone

abbrev pub TombstoneVersions : Type 0
TombstoneVersions =
    Answers (inserting two_days)
    (insert_nothing a day (id day v0 0)
    ∷ insert_mixed (day ∷ next_day ∷ []) (id next_day now1 0 ∷ []) (id day now1 0 ∷ [])
    ∷ insert_nothing a day (id day now 0)
    ∷ insert a day (id day now 0 ∷ [])
    ∷ insert_nothing a day (id day now 0)
    ∷ [])
    (refuse (Refusals.WrongVersion (id day v0 0))
    ∷ refuse (Refusals.WrongVersion (id day now1 0))
    ∷ Replies.Insert 0
    ∷ refuse (Refusals.VersionUsed day)
    ∷ Replies.Insert 0
    ∷ [])

-- ---- a pending refuses an insert by nothing, and is copied by a replacement by nothing

abbrev pub PendingUnderNothing : Type 0
PendingUnderNothing =
    Answers
    (inserting day
    ++ (insert a day (id day now 0 ∷ []) ∷ succeed a ∷ start b TaskKinds.Batch)
    ++ (lock b LockKinds.Exclusive day ∷ alloc b LockKinds.Exclusive s (minutes 310) Granularities.Day ∷ []))
    (insert_nothing b day (id day now1 0) ∷ []) (refuse (Refusals.PendingOverlap (id day now 1)) ∷ [])

abbrev pub replaced_by_nothing : List Command
replaced_by_nothing = both ++ alloc_hour p s ∷ lock r LockKinds.Replace day ∷ replace_nothing r day (id day now 0) ∷ []

abbrev pub NothingCopiesPendings : Type 0
NothingCopiesPendings =
    Answers replaced_by_nothing
    (show_timeline ∷ show_contents ∷ append p (hour_id 0 ∷ []) ∷ show_timeline ∷ show_contents ∷ [])
    (timeline (shows day now [] ∷ [])
    ∷ contents []
    ∷ Replies.Append 1
    ∷ timeline (shows day now (id day now 1 ∷ []) ∷ [])
    ∷ contents (has_roots hour (hour_id 0 ∷ []) ∷ [])
    ∷ [])
    × ((after replaced_by_nothing).chunks ≡ chunk_row hour v0 0 1 ∷ chunk_row day now 1 2 ∷ [])

-- ---- nothing replaces nothing, once

abbrev pub NothingOverNothing : Type 0
NothingOverNothing =
    Answers (start r TaskKinds.Batch ++ lock r LockKinds.Replace day ∷ [])
    (replace_nothing r day (id day now 1)
    ∷ replace_nothing r day (id day now 0)
    ∷ replace_nothing r day (id day now 0)
    ∷ replace r day (id day now 0 ∷ [])
    ∷ Commands.ToReplace r day
    ∷ show_timeline
    ∷ show_contents
    ∷ [])
    (refuse (Refusals.BadSpan day)
    ∷ Replies.Replace 0
    ∷ Replies.Replace 0
    ∷ refuse (Refusals.VersionUsed day)
    ∷ Replies.ToReplace []
    ∷ timeline (shows day now [] ∷ [])
    ∷ contents []
    ∷ [])

-- ---- an hour of nothing in a day: the day's ids are around it, and all goes when the day is dropped

abbrev pub HourOfNothing : Type 0
HourOfNothing =
    Answers
    (inserting day
    ++ (insert a day (id day now 0 ∷ []) ∷ succeed a ∷ start b TaskKinds.Batch)
    ++ (lock b LockKinds.Exclusive hour ∷ insert_nothing b hour (id hour now1 0) ∷ succeed b ∷ []))
    (show_timeline ∷ show_contents ∷ drop hour ∷ drop day ∷ show_timeline ∷ [])
    (timeline (shows morning now (id day now 0 ∷ []) ∷ shows hour now1 [] ∷ shows rest_of_day now (id day now 0 ∷ []) ∷ [])
    ∷ contents (has_roots morning (id day now 0 ∷ []) ∷ has_roots rest_of_day (id day now 0 ∷ []) ∷ [])
    ∷ refuse (Refusals.DropPartial (id day now 0))
    ∷ Replies.Drop 2
    ∷ timeline []
    ∷ [])

-- ---- an insert by nothing with ranges is repeated across a reset of its stream, since it names a tombstone

abbrev pub nothing_read : Command
nothing_read = Commands.Insert a (day ∷ []) [] (id day now 0 ∷ []) (ranges (range 0 0 5 ∷ []))

abbrev pub NothingIsRemembered : Type 0
NothingIsRemembered =
    Answers (inserting day) (nothing_read ∷ reset (point 0 9 ∷ []) ∷ nothing_read ∷ []) (Replies.Insert 0 ∷ Replies.Reset 1 ∷ Replies.Insert 0 ∷ [])
    × LeavesBook (inserting day ++ nothing_read ∷ reset (point 0 9 ∷ []) ∷ []) nothing_read (Replies.Insert 0)
