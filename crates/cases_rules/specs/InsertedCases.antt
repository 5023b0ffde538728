-- What an insert makes, when it repeats one, and the ranges that come with it.
use Rattle.book_rows.specs.declared.commands.Command.{Command}
use Rattle.book_rows.specs.declared.rows.Ranges.{Ranges}
use Rattle.book_rows.specs.declared.rows.SpanSince.{SpanSince}
use Rattle.iv_span.specs.Extent.{Extent}
use Rattle.std.specs.Prelude.{List, None, Option, [], codes, ℕ, ◌++◌, ◌+◌, ◌∷◌, ◌≡◌}
use Rattle.cases_rules.specs.InsertFaults.{day_taken, of_hour}
use Rattle.cases_rules.specs.ReplaceCases.{chunk_row}
use Rattle.scenes.specs.Asking.{Leaves, ask_hour, bad_span, batch, d, exclusive, g, granted, group_of_two, hours, insert_all, missing, realtime, submit_to, time}
use Rattle.scenes.specs.Script.{after, s, v, Answers, a, append, b, day, drop, from_to, hour, id, insert, next_day, now, now1, p, refuse, show_timeline, shows, succeed, t, timeline, v0, w, x, y}
use Rattle.book_rows.specs.declared.commands.Command.TheVariants as Commands
use Rattle.book_rows.specs.declared.kinds.PubKind.TheVariants as PubKinds
use Rattle.book_rows.specs.declared.replies.Refusal.TheVariants as Refusals
use Rattle.book_rows.specs.declared.replies.Reply.TheVariants as Replies
use Rattle.book_rows.specs.declared.kinds.TaskStatus.TheVariants as Statuses
use Rattle.book_rows.specs.declared.kinds.TaskKind.TheVariants as TaskKinds
use Rattle.scenes.specs.Publishing.{range, ranges_of, tomb_row_of, used_row}
use Rattle.scenes.specs.Supervising.{supervise}

-- ---- rows

-- an hour gets two ids, and the next one a tombstone
abbrev pub two_and_none : List Command
two_and_none = day_taken ++ insert_all a (hours 5 6 ∷ hours 6 7 ∷ []) (of_hour 5 now 0 ∷ of_hour 5 now 1 ∷ []) (of_hour 6 now 0 ∷ []) ∷ []

abbrev pub no_since : Extent → SpanSince
no_since span = record { span = span; since = 0 }

-- ids and tombstones are segments in the order of the spans and make whole chunks; the publication has them apart, and nothing else changes
abbrev pub InsertedRows : Type 0
InsertedRows =
    ((after two_and_none).segments
    ≡ used_row (of_hour 5 now 0) (of_hour 5 now 0) 0
    ∷ used_row (of_hour 5 now 1) (of_hour 5 now 1) 0
    ∷ tomb_row_of (of_hour 6 now 0) 0
    ∷ [])
    × ((after two_and_none).chunks ≡ chunk_row (hours 5 6) now 2 2 ∷ chunk_row (hours 6 7) now 1 1 ∷ [])
    × ((after two_and_none).publications
    ≡ record {
      kind = PubKinds.Over;
      group = a;
      source = w;
      spans = no_since (hours 5 6) ∷ no_since (hours 6 7) ∷ [];
      adds = of_hour 5 now 0 ∷ of_hour 5 now 1 ∷ [];
      empties = of_hour 6 now 0 ∷ [];
      ranges = None;
    }
    ∷ [])
    × (record (after two_and_none) { segments = []; chunks = []; publications = [] } ≡ after day_taken)

-- the later of two locks is visible where it inserts, and each commit has the next number
abbrev pub LaterIsVisible : Type 0
LaterIsVisible =
    Answers (day_taken ++ (insert a day (id day now 0 ∷ id day now 1 ∷ []) ∷ succeed a ∷ batch b))
    (exclusive b (hours 4 8)
    ∷ insert b (hours 5 6) (of_hour 5 now1 0 ∷ [])
    ∷ insert_all b (hours 6 7 ∷ hours 7 8 ∷ []) (of_hour 7 now1 0 ∷ []) (of_hour 6 now1 0 ∷ [])
    ∷ show_timeline
    ∷ [])
    (granted 2 (hours 4 8) now1
    ∷ Replies.Insert 1
    ∷ Replies.Insert 2
    ∷ timeline
    (shows (hours 0 5) now (id day now 0 ∷ id day now 1 ∷ [])
    ∷ shows (hours 5 6) now1 (of_hour 5 now1 0 ∷ [])
    ∷ shows (hours 6 7) now1 []
    ∷ shows (hours 7 8) now1 (of_hour 7 now1 0 ∷ [])
    ∷ shows (hours 8 24) now (id day now 0 ∷ id day now 1 ∷ [])
    ∷ [])
    ∷ [])

-- an appended id goes on from the inserted parts and doesn't belong to the core
abbrev pub PartsAfterCore : Type 0
PartsAfterCore =
    (after (day_taken ++ (insert a hour (id hour now 0 ∷ id hour now 1 ∷ []) ∷ succeed a ∷ (realtime p ++ (ask_hour p s (time 5 10) ∷ append p (id hour now 2 ∷ []) ∷ []))))).chunks
    ≡ chunk_row hour now 2 3 ∷ []

-- ---- repeats

abbrev pub insert_day : List ℕ → Command
insert_day task = insert task day (id day now 0 ∷ [])

-- any task of the group repeats an insert, one that waits or has ended too, and no task of another group or source
abbrev pub GroupRepeats : Type 0
GroupRepeats =
    Answers (group_of_two 50 ++ (batch b ++ (exclusive x day ∷ drop next_day ∷ [])))
    (insert_day x ∷ insert_day y ∷ submit_to g a 0 ∷ insert_day a ∷ succeed x ∷ insert_day x ∷ insert_day b ∷ insert_day d ∷ [])
    (Replies.Insert 1
    ∷ Replies.Insert 1
    ∷ Replies.Submit Statuses.Waiting a
    ∷ Replies.Insert 1
    ∷ Replies.End Statuses.Success x
    ∷ Replies.Insert 1
    ∷ missing day
    ∷ refuse Refusals.TaskUnknown
    ∷ [])
    × Answers (group_of_two 50 ++ (exclusive x day ∷ insert_day x ∷ Commands.Submit d g v TaskKinds.Batch 50 [] ∷ Commands.Manage now ∷ [])) (insert_day d ∷ []) (bad_span day ∷ [])

abbrev pub day_inserted : List Command
day_inserted = day_taken ++ insert_day a ∷ []

-- a repeat changes nothing, nor does a refused insert
abbrev pub RepeatLeaves : Type 0
RepeatLeaves =
    Leaves (after day_inserted) (insert_day a)
    × Leaves (after (day_inserted ++ succeed a ∷ [])) (insert_day a)
    × Leaves (after day_inserted) (insert a hour (id hour now 0 ∷ []))

abbrev pub insert_read : Option Ranges → Command
insert_read ranges = Commands.Insert a (day ∷ []) (id day now 0 ∷ []) [] ranges

-- a repeat has the same ranges, ids, tombstones and kind: else it is decided anew
abbrev pub RepeatIsAlike : Type 0
RepeatIsAlike =
    Answers day_taken
    (insert_read (from_to 0 10)
    ∷ insert_read (from_to 0 10)
    ∷ insert_read (from_to 0 11)
    ∷ insert_read None
    ∷ insert_all a (day ∷ []) [] (id day now 0 ∷ [])
    ∷ Commands.Replace a (day ∷ []) (id day now 0 ∷ []) [] (from_to 0 10)
    ∷ [])
    (Replies.Insert 0
    ∷ Replies.Insert 0
    ∷ refuse (Refusals.VersionUsed day)
    ∷ refuse (Refusals.VersionUsed day)
    ∷ refuse (Refusals.VersionUsed day)
    ∷ missing day
    ∷ [])

-- a repeat of a tombstone is one too, and is found behind other publications, whatever happened to the rows
abbrev pub TombstoneRepeats : Type 0
TombstoneRepeats =
    Answers (day_taken ++ (insert_all a (day ∷ []) [] (id day now 0 ∷ []) ∷ Commands.Unlock a 1 ∷ drop day ∷ drop day ∷ []))
    (insert_all a (day ∷ []) [] (id day now 0 ∷ []) ∷ show_timeline ∷ insert_day a ∷ [])
    (Replies.Insert 0 ∷ timeline [] ∷ missing day ∷ [])

-- ---- ranges

abbrev pub insert_hour : ℕ → Option Ranges → Command
insert_hour from ranges = Commands.Insert a (hours from (from + 1) ∷ []) (of_hour from now 0 ∷ []) [] ranges

-- what is wrong with the ids is told before what is wrong with the ranges
abbrev pub IdsBeforeRanges : Type 0
IdsBeforeRanges =
    Answers (day_taken ++ insert_hour 1 (from_to 0 10) ∷ [])
    (insert_hour 1 (from_to 9 8) ∷ Commands.Insert a (hour ∷ []) (id hour v0 0 ∷ []) [] (from_to 9 8) ∷ insert_hour 25 (from_to 9 8) ∷ [])
    (refuse (Refusals.VersionUsed (hours 1 2)) ∷ refuse (Refusals.WrongVersion (id hour v0 0)) ∷ missing (hours 25 26) ∷ [])

-- an insert's ranges go on from the stored offsets, and their ends are stored; the first partition that doesn't go on is told
abbrev pub InsertsRanges : Type 0
InsertsRanges =
    Answers day_taken
    (insert_hour 1 (from_to 0 10)
    ∷ insert_hour 2 (from_to 9 12)
    ∷ insert_hour 2 (from_to 12 11)
    ∷ insert_hour 2 (ranges_of t (range 0 10 10 ∷ range 1 5 4 ∷ []))
    ∷ insert_hour 2 (ranges_of t (range 0 11 12 ∷ range 1 5 4 ∷ []))
    ∷ insert_hour 2 (ranges_of t (range 0 10 12 ∷ range 1 5 5 ∷ []))
    ∷ insert_hour 3 (ranges_of t (range 1 4 9 ∷ []))
    ∷ insert_hour 3 (ranges_of (codes "u") (range 1 4 9 ∷ []))
    ∷ [])
    (Replies.Insert 0
    ∷ refuse (Refusals.OffsetMismatch 0 10)
    ∷ refuse (Refusals.BadRange 0)
    ∷ refuse (Refusals.BadRange 1)
    ∷ refuse (Refusals.OffsetMismatch 0 10)
    ∷ Replies.Insert 1
    ∷ refuse (Refusals.OffsetMismatch 1 5)
    ∷ Replies.Insert 2
    ∷ [])
    × ((after (day_taken ++ (insert_hour 1 (from_to 0 10) ∷ insert_hour 2 (ranges_of t (range 0 10 12 ∷ range 1 5 5 ∷ [])) ∷ []))).offsets
    ≡ record { source = w; stream = t; partition = 0; offset = 12 } ∷ record { source = w; stream = t; partition = 1; offset = 5 } ∷ [])

-- the stream that a supervisor reads is published by its own tasks alone; other streams and none are free
abbrev pub SupervisedStream : Type 0
SupervisedStream =
    Answers (supervise ∷ day_taken)
    (insert_hour 1 (from_to 0 10) ∷ insert_hour 1 (from_to 9 8) ∷ insert_hour 1 (ranges_of (codes "u") (range 0 0 10 ∷ [])) ∷ insert_hour 2 None ∷ [])
    (refuse (Refusals.RangeNotAssigned w) ∷ refuse (Refusals.RangeNotAssigned w) ∷ Replies.Insert 0 ∷ Replies.Insert 1 ∷ [])
