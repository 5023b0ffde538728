-- Ranges of streams and stored offsets.
use Rattle.book_rows.specs.declared.commands.Command.{Command}
use Rattle.book_rows.specs.declared.rows.OffsetRow.{OffsetRow}
use Rattle.iv_span.specs.Extent.{Extent}
use Rattle.seg_names.specs.declared.seg_id.SegId.{SegId}
use Rattle.std.specs.Prelude.{List, [], codes, ℕ, ◌++◌, ◌∷◌, ◌≡◌}
use Rattle.scenes.specs.Publishing.{ChangesBook, LeavesBook, alloc_hour, append_read, hour_id, offsets_are, point, range, ranges, ranges_of, read_only, reset, show_offsets, submit_other}
use Rattle.scenes.specs.Script.{after, s, v, Answers, a, day, hour, id, lock, next_day, now, now1, p, r, refuse, show_timeline, shows, start, t, timeline, v0, w, x}
use Rattle.cases_rules.specs.StreamCases.{offset_line_of}
use Rattle.book_rows.specs.declared.commands.Command.TheVariants as Commands
use Rattle.book_rows.specs.declared.kinds.LockKind.TheVariants as LockKinds
use Rattle.book_rows.specs.declared.kinds.PubKind.TheVariants as PubKinds
use Rattle.book_rows.specs.declared.replies.Refusal.TheVariants as Refusals
use Rattle.book_rows.specs.declared.replies.Reply.TheVariants as Replies
use Rattle.book_rows.specs.declared.kinds.TaskKind.TheVariants as TaskKinds
use Rattle.book_rows.specs.declared.commands.What.TheVariants as Whats

abbrev pub no_group_text : List ℕ
no_group_text = codes "-"

abbrev pub offset_row_of : List ℕ → List ℕ → ℕ → ℕ → OffsetRow
offset_row_of source stream partition offset = record { source = source; stream = stream; partition = partition; offset = offset }

-- ---- where nothing is stored a range starts anywhere, and one that ends where it starts goes on too

abbrev pub FirstStartsAnywhere : Type 0
FirstStartsAnywhere =
    Answers (start p TaskKinds.Realtime)
    (read_only p (range 0 7 12 ∷ []) ∷ show_offsets ∷ read_only p (range 0 12 12 ∷ []) ∷ read_only p (range 0 12 13 ∷ []) ∷ show_offsets ∷ [])
    (Replies.Append 0
    ∷ offsets_are (offset_line_of 0 12 ∷ [])
    ∷ Replies.Append 1
    ∷ Replies.Append 2
    ∷ offsets_are (offset_line_of 0 13 ∷ [])
    ∷ [])

-- ---- the least partition that fails is told; in one partition an end below the start is told first

abbrev pub two_stored : List Command
two_stored = start p TaskKinds.Realtime ++ read_only p (range 0 0 10 ∷ range 1 0 20 ∷ []) ∷ []

abbrev pub LeastPartitionIsTold : Type 0
LeastPartitionIsTold =
    Answers two_stored
    (read_only p (range 0 9 9 ∷ range 1 21 20 ∷ [])
    ∷ read_only p (range 0 10 11 ∷ range 1 21 20 ∷ [])
    ∷ read_only p (range 0 11 10 ∷ range 1 19 19 ∷ [])
    ∷ read_only p (range 0 10 10 ∷ range 1 19 25 ∷ [])
    ∷ read_only p (range 0 10 11 ∷ range 1 20 20 ∷ range 2 5 6 ∷ [])
    ∷ show_offsets
    ∷ [])
    (refuse (Refusals.OffsetMismatch 0 10)
    ∷ refuse (Refusals.BadRange 1)
    ∷ refuse (Refusals.BadRange 0)
    ∷ refuse (Refusals.OffsetMismatch 1 20)
    ∷ Replies.Append 1
    ∷ offsets_are (offset_line_of 0 11 ∷ offset_line_of 1 20 ∷ offset_line_of 2 6 ∷ [])
    ∷ [])

-- ---- a refused publish moves no partition, and a repeated one neither

abbrev pub RefusedMovesNothing : Type 0
RefusedMovesNothing =
    LeavesBook two_stored (read_only p (range 0 10 11 ∷ range 1 21 22 ∷ [])) (refuse (Refusals.OffsetMismatch 1 20))
    × LeavesBook two_stored (read_only p (range 0 0 10 ∷ range 1 0 20 ∷ [])) (Replies.Append 0)

-- ---- an offset below or above the stored one is refused, by its distance or by much

abbrev pub BelowAndAboveAreRefused : Type 0
BelowAndAboveAreRefused =
    Answers two_stored
    (read_only p (range 0 0 11 ∷ [])
    ∷ read_only p (range 0 9 11 ∷ [])
    ∷ read_only p (range 0 11 12 ∷ [])
    ∷ read_only p (range 1 9223372036854775807 9223372036854775807 ∷ [])
    ∷ read_only p (range 2 9223372036854775806 9223372036854775807 ∷ [])
    ∷ read_only p (range 2 9223372036854775807 9223372036854775807 ∷ [])
    ∷ [])
    (refuse (Refusals.OffsetMismatch 0 10)
    ∷ refuse (Refusals.OffsetMismatch 0 10)
    ∷ refuse (Refusals.OffsetMismatch 0 10)
    ∷ refuse (Refusals.OffsetMismatch 1 20)
    ∷ Replies.Append 1
    ∷ Replies.Append 2
    ∷ [])

-- ---- each source and stream has its own offsets, and they are shown by stream and partition

abbrev pub both_sources : List Command
both_sources =
    submit_other x x
    ∷ start p TaskKinds.Realtime
    ++ (read_only p (range 0 0 5 ∷ [])
    ∷ Commands.Append p [] (ranges_of s (range 1 3 4 ∷ []))
    ∷ read_only x (range 0 2 9 ∷ [])
    ∷ read_only p (range 0 5 6 ∷ [])
    ∷ [])

abbrev pub StreamsAreApart : Type 0
StreamsAreApart =
    Answers both_sources
    (show_offsets ∷ Commands.Show (Whats.Offsets v) ∷ Commands.Show (Whats.Offsets x) ∷ [])
    (offsets_are (record { offset = 4; partition = 1; stream = s } ∷ offset_line_of 0 6 ∷ [])
    ∷ Replies.Offsets (offset_line_of 0 9 ∷ []) v
    ∷ Replies.Offsets [] x
    ∷ [])
    × ((after both_sources).offsets ≡ offset_row_of v t 0 9 ∷ offset_row_of w s 1 4 ∷ offset_row_of w t 0 6 ∷ [])

-- ---- ids and ranges are published together or not at all

abbrev pub IdsAndRangesTogether : Type 0
IdsAndRangesTogether =
    Answers (start p TaskKinds.Realtime ++ alloc_hour p s ∷ reset (point 0 5 ∷ []) ∷ [])
    (append_read p (hour_id 0 ∷ []) (range 0 4 9 ∷ [])
    ∷ show_timeline
    ∷ show_offsets
    ∷ append_read p (hour_id 0 ∷ []) (range 0 5 9 ∷ [])
    ∷ show_timeline
    ∷ show_offsets
    ∷ [])
    (refuse (Refusals.OffsetMismatch 0 5)
    ∷ timeline []
    ∷ offsets_are (offset_line_of 0 5 ∷ [])
    ∷ Replies.Append 1
    ∷ timeline (shows hour v0 (hour_id 0 ∷ []) ∷ [])
    ∷ offsets_are (offset_line_of 0 9 ∷ [])
    ∷ [])

-- ---- inserts and replaces go on from the stored offsets like appends

abbrev pub insert_read : Extent → SegId → ℕ → ℕ → Command
insert_read span name low high = Commands.Insert a (span ∷ []) (name ∷ []) [] (ranges (range 0 low high ∷ []))

abbrev pub replace_read : Extent → SegId → ℕ → ℕ → Command
replace_read span name low high = Commands.Replace r (span ∷ []) (name ∷ []) [] (ranges (range 0 low high ∷ []))

abbrev pub InsertsGoOn : Type 0
InsertsGoOn =
    Answers (start a TaskKinds.Batch ++ lock a LockKinds.Exclusive day ∷ lock a LockKinds.Exclusive next_day ∷ [])
    (insert_read day (id day now 0) 0 5
    ∷ insert_read day (id day now 0) 5 6
    ∷ insert_read day (id day now 0) 0 5
    ∷ insert_read next_day (id next_day now1 0) 4 9
    ∷ insert_read next_day (id next_day now1 0) 5 4
    ∷ insert_read next_day (id next_day now1 0) 5 9
    ∷ show_offsets
    ∷ [])
    (Replies.Insert 0
    ∷ refuse (Refusals.VersionUsed day)
    ∷ Replies.Insert 0
    ∷ refuse (Refusals.OffsetMismatch 0 5)
    ∷ refuse (Refusals.BadRange 0)
    ∷ Replies.Insert 1
    ∷ offsets_are (offset_line_of 0 9 ∷ [])
    ∷ [])

abbrev pub ReplacesGoOn : Type 0
ReplacesGoOn =
    Answers (start r TaskKinds.Batch ++ lock r LockKinds.Replace day ∷ reset (point 0 9 ∷ []) ∷ [])
    (replace_read day (id day now 0) 8 9
    ∷ replace_read day (id day now 0) 9 8
    ∷ replace_read day (id day now 0) 9 9
    ∷ replace_read day (id day now 0) 9 9
    ∷ replace_read day (id day now 0) 9 10
    ∷ [])
    (refuse (Refusals.OffsetMismatch 0 9)
    ∷ refuse (Refusals.BadRange 0)
    ∷ Replies.Replace 1
    ∷ Replies.Replace 1
    ∷ refuse (Refusals.VersionUsed day)
    ∷ [])

-- ---- a reset to the same offsets is a publication of its own

abbrev pub SameResetAgain : Type 0
SameResetAgain =
    Answers [] (reset (point 0 5 ∷ []) ∷ reset (point 0 5 ∷ []) ∷ show_offsets ∷ []) (Replies.Reset 0 ∷ Replies.Reset 1 ∷ offsets_are (offset_line_of 0 5 ∷ []) ∷ [])
    × ChangesBook (reset (point 0 5 ∷ []) ∷ []) (reset (point 0 5 ∷ []))

-- ---- after a reset ranges go on from its offsets, and anywhere where it names none

abbrev pub RangesAfterReset : Type 0
RangesAfterReset =
    Answers two_stored
    (reset (point 0 4 ∷ [])
    ∷ read_only p (range 0 10 12 ∷ [])
    ∷ read_only p (range 0 4 12 ∷ [])
    ∷ read_only p (range 1 50 51 ∷ [])
    ∷ reset []
    ∷ read_only p (range 0 70 71 ∷ [])
    ∷ show_offsets
    ∷ [])
    (Replies.Reset 1
    ∷ refuse (Refusals.OffsetMismatch 0 4)
    ∷ Replies.Append 2
    ∷ Replies.Append 3
    ∷ Replies.Reset 4
    ∷ Replies.Append 5
    ∷ offsets_are (offset_line_of 0 71 ∷ [])
    ∷ [])

-- ---- a reset leaves the other streams and the other sources

abbrev pub OtherStreamsStay : Type 0
OtherStreamsStay =
    ((after (both_sources ++ reset [] ∷ [])).offsets ≡ offset_row_of v t 0 9 ∷ offset_row_of w s 1 4 ∷ [])
    × ((after (both_sources ++ Commands.Reset v t (point 3 1 ∷ []) ∷ [])).offsets ≡ offset_row_of v t 3 1 ∷ offset_row_of w s 1 4 ∷ offset_row_of w t 0 6 ∷ [])

-- ---- a publish without ids is repeated across a reset of another stream or source, and not across one of its own

abbrev pub OwnResetForgets : Type 0
OwnResetForgets =
    Answers (start p TaskKinds.Realtime ++ read_only p (range 0 0 10 ∷ []) ∷ [])
    (Commands.Reset w (codes "other") []
    ∷ read_only p (range 0 0 10 ∷ [])
    ∷ Commands.Reset v t []
    ∷ read_only p (range 0 0 10 ∷ [])
    ∷ reset []
    ∷ read_only p (range 0 0 10 ∷ [])
    ∷ read_only p (range 0 0 10 ∷ [])
    ∷ [])
    (Replies.Reset 1 ∷ Replies.Append 0 ∷ Replies.Reset 2 ∷ Replies.Append 0 ∷ Replies.Reset 3 ∷ Replies.Append 4 ∷ Replies.Append 4 ∷ [])

-- ---- the rows of an append and of resets in the list of publications

abbrev pub PublicationsOfStream : Type 0
PublicationsOfStream =
    (after (start p TaskKinds.Realtime ++ alloc_hour p s ∷ append_read p (hour_id 0 ∷ []) (range 0 0 5 ∷ []) ∷ reset (point 0 7 ∷ point 1 8 ∷ []) ∷ reset [] ∷ [])).publications
    ≡ record { kind = PubKinds.Append; group = p; source = w; spans = []; adds = hour_id 0 ∷ []; empties = []; ranges = ranges (range 0 0 5 ∷ []) }
    ∷ record { kind = PubKinds.Reset; group = no_group_text; source = w; spans = []; adds = []; empties = []; ranges = ranges (range 0 7 7 ∷ range 1 8 8 ∷ []) }
    ∷ record { kind = PubKinds.Reset; group = no_group_text; source = w; spans = []; adds = []; empties = []; ranges = ranges [] }
    ∷ []
