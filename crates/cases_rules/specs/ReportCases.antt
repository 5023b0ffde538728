-- What replicas report, and how a sequence closes.
use Rattle.book_rows.specs.Answer.{answer, next}
use Rattle.book_rows.specs.Locks.{ends}
use Rattle.book_rows.specs.declared.kinds.SeqState.{SeqState}
use Rattle.book_rows.specs.declared.replies.Reply.{Reply}
use Rattle.book_rows.specs.declared.rows.Book.{Book}
use Rattle.book_rows.specs.declared.rows.Offset.{Offset}
use Rattle.book_rows.specs.declared.rows.Report.{Report}
use Rattle.book_rows.specs.declared.rows.SequenceRow.{SequenceRow}
use Rattle.std.specs.Prelude.{List, None, Some, [], codes, map, pos, ℕ, ℤ, ◌++◌, ◌∷◌, ◌≡◌}
use Rattle.scenes.specs.Publishing.{ChangesBook, LeavesBook, offsets_are, point, range, read_only, show_offsets, show_sequences}
use Rattle.scenes.specs.Script.{after, Answers, fail, now, p, refuse, start, w}
use Rattle.scenes.specs.Supervising.{at_offset, first_group_at, first_sequence, minutes_later, r000, r001, r010, report_row, second_sequence, supervise}
use Rattle.cases_rules.specs.SequenceCases.{closed_at_ten, reading, sequences_are, supervise_one}
use Rattle.cases_rules.specs.StreamCases.{offset_line_of}
use Rattle.cases_rules.specs.SupervisorCases.{first_hour, line}
use Rattle.book_rows.specs.declared.commands.Command.TheVariants as Commands
use Rattle.book_rows.specs.declared.replies.Refusal.TheVariants as Refusals
use Rattle.book_rows.specs.declared.replies.Reply.TheVariants as Replies
use Rattle.book_rows.specs.declared.kinds.SeqState.TheVariants as States
use Rattle.book_rows.specs.declared.kinds.TaskStatus.TheVariants as Statuses
use Rattle.book_rows.specs.declared.kinds.TaskKind.TheVariants as TaskKinds

abbrev pub state_is : SeqState → Reply
state_is state = refuse (Refusals.SequenceState (Some state))

-- the row of the first sequence
abbrev pub first_row : SeqState → ℤ → List Offset → List (List ℕ) → List Report → SequenceRow
first_row state closed ends live reports = record {
  source = w;
  group = 0;
  index = 0;
  state = state;
  opened = now;
  closed = closed;
  starts = at_offset 0;
  ends = ends;
  live = live;
  reports = reports;
}

abbrev pub r002 : List ℕ
r002 = codes "sup:w:0:0:2"

-- ---- a task of no sequence has no state to report, an unknown one is told so, and a replica that waits or has ended doesn't report

abbrev pub WhoReports : Type 0
WhoReports =
    Answers (reading 1 ++ start p TaskKinds.Realtime)
    (Commands.Paused p (at_offset 1)
    ∷ Commands.Checkpoint p (at_offset 1)
    ∷ Commands.Paused (codes "nobody") (at_offset 1)
    ∷ Commands.Paused r010 (at_offset 1)
    ∷ [])
    (refuse (Refusals.SequenceState None) ∷ refuse (Refusals.SequenceState None) ∷ refuse Refusals.TaskUnknown ∷ refuse Refusals.TaskUnknown ∷ [])
    × Answers (supervise_one 1 ∷ Commands.Tick now ∷ [])
    (Commands.Paused r000 (at_offset 1)
    ∷ Commands.Checkpoint r000 (at_offset 1)
    ∷ fail r000
    ∷ Commands.Paused r000 (at_offset 1)
    ∷ Commands.Checkpoint r000 (at_offset 1)
    ∷ [])
    (refuse (Refusals.TaskNotRunning Statuses.Waiting)
    ∷ refuse (Refusals.TaskNotRunning Statuses.Waiting)
    ∷ Replies.End Statuses.Failed r000
    ∷ refuse (Refusals.TaskNotRunning Statuses.Failed)
    ∷ refuse (Refusals.TaskNotRunning Statuses.Failed)
    ∷ [])

-- ---- the state comes before the offsets, and a published sequence has no more to report

abbrev pub StateBeforeOffsets : Type 0
StateBeforeOffsets =
    Answers (reading 2)
    (Commands.Paused r000 (point 5 1 ∷ [])
    ∷ Commands.Checkpoint r000 (at_offset 10)
    ∷ Commands.Paused r001 (point 1 0 ∷ [])
    ∷ Commands.Checkpoint r001 (at_offset 12)
    ∷ read_only r000 (range 0 0 12 ∷ [])
    ∷ Commands.Paused r001 (at_offset 12)
    ∷ Commands.Checkpoint r000 (point 5 1 ∷ [])
    ∷ [])
    (state_is States.Reading
    ∷ Replies.Checkpoint [] States.Paused
    ∷ refuse (Refusals.BadRange 0)
    ∷ Replies.Checkpoint (at_offset 12) States.Closed
    ∷ Replies.Append 0
    ∷ state_is States.Published
    ∷ state_is States.Published
    ∷ [])

-- ---- an abandoned one has nothing to report and publishes nothing, in a book whose replica runs all the same

abbrev pub running_abandoned : Book
running_abandoned = record (after (reading 1)) { sequences = first_row States.Abandoned (pos 0) [] (r000 ∷ []) [] ∷ [] }

abbrev pub AbandonedDoesNothing : Type 0
AbandonedDoesNothing =
    (answer running_abandoned (Commands.Paused r000 (at_offset 1)) ≡ state_is States.Abandoned)
    × (answer running_abandoned (Commands.Checkpoint r000 (at_offset 1)) ≡ state_is States.Abandoned)
    × (answer running_abandoned (read_only r000 (range 0 0 0 ∷ [])) ≡ refuse (Refusals.RangeNotAssigned w))

-- ---- a closed sequence answers its ends to every report, whatever it tells, and nothing changes

abbrev pub ClosedAnswersItsEnds : Type 0
ClosedAnswersItsEnds =
    LeavesBook closed_at_ten (Commands.Paused r000 (at_offset 3)) (Replies.Paused (at_offset 10) States.Closed)
    × LeavesBook closed_at_ten (Commands.Checkpoint r000 (point 5 1 ∷ [])) (Replies.Checkpoint (at_offset 10) States.Closed)

-- ---- the least partition that is missing, foreign or told below its start is named; a start itself may be told

abbrev pub LeastBadPartition : Type 0
LeastBadPartition =
    Answers (first_hour ++ Commands.Tick (minutes_later 70) ∷ Commands.Manage (minutes_later 70) ∷ [])
    (Commands.Checkpoint r010 (first_group_at 10 8)
    ∷ Commands.Checkpoint r010 (first_group_at 9 8)
    ∷ Commands.Checkpoint r010 (point 0 10 ∷ point 1 1 ∷ [])
    ∷ Commands.Checkpoint r010 (point 1 1 ∷ point 2 9 ∷ [])
    ∷ Commands.Checkpoint r010 (point 0 10 ∷ point 2 9 ∷ point 4 0 ∷ [])
    ∷ Commands.Checkpoint r010 (first_group_at 10 9)
    ∷ [])
    (refuse (Refusals.BadRange 2)
    ∷ refuse (Refusals.BadRange 0)
    ∷ refuse (Refusals.BadRange 1)
    ∷ refuse (Refusals.BadRange 0)
    ∷ refuse (Refusals.BadRange 4)
    ∷ Replies.Checkpoint [] States.Paused
    ∷ [])

-- ---- of each replica the greatest offsets are kept, in the order of the first reports

abbrev pub GreatestOfEachReplica : Type 0
GreatestOfEachReplica =
    (map (λ u. u.reports)
    (after
    (supervise ∷ Commands.Tick now ∷ Commands.Manage now ∷ Commands.Checkpoint r000 (first_group_at 10 7) ∷ Commands.Checkpoint r000 (first_group_at 9 8) ∷ [])).sequences
    ≡ (record { task = r000; offsets = first_group_at 10 8 } ∷ []) ∷ [] ∷ [])
    × ((after
    (reading 3 ++ Commands.Checkpoint r001 (at_offset 5) ∷ Commands.Checkpoint r000 (at_offset 10) ∷ Commands.Paused r001 (at_offset 12) ∷ [])).sequences
    ≡ first_row States.Paused (pos 0) [] (r000 ∷ r001 ∷ r002 ∷ []) (report_row r001 12 ∷ report_row r000 10 ∷ []) ∷ [])

-- ---- what a replica told before it ended counts

abbrev pub EndedReplicaCounts : Type 0
EndedReplicaCounts =
    Answers (reading 2)
    (Commands.Checkpoint r000 (at_offset 10) ∷ fail r000 ∷ Commands.Checkpoint r001 (at_offset 8) ∷ [])
    (Replies.Checkpoint [] States.Paused ∷ Replies.End Statuses.Failed r000 ∷ Replies.Checkpoint (at_offset 10) States.Closed ∷ [])

-- ---- a sequence closes at the book's clock, by a report or by an end

abbrev pub ClosesAtTheClock : Type 0
ClosesAtTheClock =
    ((after (reading 1 ++ Commands.Tick (minutes_later 20) ∷ Commands.Checkpoint r000 (at_offset 10) ∷ [])).sequences
    ≡ first_row States.Closed (minutes_later 20) (at_offset 10) (r000 ∷ []) (report_row r000 10 ∷ []) ∷ [])
    × ((after (reading 2 ++ Commands.Checkpoint r000 (at_offset 10) ∷ Commands.Tick (minutes_later 20) ∷ fail r001 ∷ [])).sequences
    ≡ first_row States.Closed (minutes_later 20) (at_offset 10) (r000 ∷ []) (report_row r000 10 ∷ []) ∷ [])

-- ---- a report that is told again while others are missing is a change, though all rows stay as they are

abbrev pub SameReportChanges : Type 0
SameReportChanges =
    ChangesBook (reading 2 ++ Commands.Checkpoint r000 (at_offset 10) ∷ []) (Commands.Checkpoint r000 (at_offset 10))
    × (next (after (reading 2 ++ Commands.Checkpoint r000 (at_offset 10) ∷ [])) (Commands.Checkpoint r000 (at_offset 10))
    ≡ after (reading 2 ++ Commands.Checkpoint r000 (at_offset 10) ∷ []))

-- ---- a sequence may end where it starts, and is published so

abbrev pub EndsWhereItStarts : Type 0
EndsWhereItStarts =
    Answers (reading 1)
    (Commands.Checkpoint r000 (at_offset 0)
    ∷ read_only r000 (range 0 0 0 ∷ [])
    ∷ show_offsets
    ∷ Commands.Tick now
    ∷ show_sequences
    ∷ [])
    (Replies.Checkpoint (at_offset 0) States.Closed
    ∷ Replies.Append 0
    ∷ offsets_are (offset_line_of 0 0 ∷ [])
    ∷ Replies.Tick [] (second_sequence ∷ []) []
    ∷ sequences_are (line first_sequence (at_offset 0) (at_offset 0) States.Published ∷ line second_sequence (at_offset 0) [] States.Reading ∷ [])
    ∷ [])
