-- Supervisors and their sequences: which open, where they start, when they pause and when they are abandoned.
use Rattle.book_rows.specs.Answer.{next}
use Rattle.book_rows.specs.declared.commands.Command.{Command}
use Rattle.book_rows.specs.declared.kinds.TaskStatus.{TaskStatus}
use Rattle.book_rows.specs.declared.replies.Reply.{Reply}
use Rattle.book_rows.specs.declared.replies.SequenceLine.{SequenceLine}
use Rattle.book_rows.specs.declared.replies.TaskLine.{TaskLine}
use Rattle.book_rows.specs.declared.rows.SupervisorRow.{SupervisorRow}
use Rattle.book_rows.specs.declared.rows.TaskRow.{TaskRow}
use Rattle.std.specs.Prelude.{List, [], codes, pos, ℕ, ◌++◌, ◌∷◌, ◌≡◌}
use Rattle.scenes.specs.Publishing.{ChangesBook, LeavesBook, offsets_are, point, range, ranges_of, read_only, show_offsets, show_sequences, show_tasks}
use Rattle.scenes.specs.Script.{after, v, Answers, now, p, refuse, start, t, v0, w}
use Rattle.scenes.specs.Supervising.{at_offset, first_sequence, minutes_later, r000, r001, r010, second_sequence, third_sequence}
use Rattle.scenes.specs.Asking.{now_plus}
use Rattle.cases_rules.specs.StreamCases.{offset_line_of}
use Rattle.cases_rules.specs.SupervisorCases.{line}
use Rattle.book_rows.specs.declared.commands.Command.TheVariants as Commands
use Rattle.book_rows.specs.declared.replies.Refusal.TheVariants as Refusals
use Rattle.book_rows.specs.declared.replies.Reply.TheVariants as Replies
use Rattle.book_rows.specs.declared.kinds.SeqState.TheVariants as States
use Rattle.book_rows.specs.declared.kinds.TaskStatus.TheVariants as Statuses
use Rattle.book_rows.specs.declared.kinds.TaskKind.TheVariants as TaskKinds
use Rattle.book_rows.specs.declared.commands.What.TheVariants as Whats

-- ---- words: a supervisor of one partition, which reads for an hour and waits half an hour

abbrev pub supervise_of : List ℕ → ℕ → ℕ → ℕ → Command
supervise_of source partitions task_count replicas = Commands.Supervise source t partitions task_count replicas (pos 3600000) (pos 1800000)

abbrev pub supervise_one : ℕ → Command
supervise_one replicas = supervise_of w 1 1 replicas

-- the first sequence reads with so many replicas
abbrev pub reading : ℕ → List Command
reading replicas = supervise_one replicas ∷ Commands.Tick now ∷ Commands.Manage now ∷ []

-- with one replica, it is closed at 10, and published
abbrev pub closed_at_ten : List Command
closed_at_ten = reading 1 ++ Commands.Checkpoint r000 (at_offset 10) ∷ []

abbrev pub publish_ten : List ℕ → Command
publish_ten task = read_only task (range 0 0 10 ∷ [])

abbrev pub published_ten : List Command
published_ten = closed_at_ten ++ publish_ten r000 ∷ []

-- a task of a sequence as it is shown
abbrev pub replica_line : List ℕ → List ℕ → TaskStatus → TaskLine
replica_line task sequence status = record { group = sequence; priority = 75; source = w; status = status; task = task }

abbrev pub sequences_are : List SequenceLine → Reply
sequences_are lines = Replies.Sequences lines w

-- ---- a source has one supervisor, whatever a second one would read

abbrev pub supervisor_row_of : List ℕ → SupervisorRow
supervisor_row_of source = record { source = source; stream = t; partitions = 1; task_count = 1; replicas = 1; duration = pos 3600000; timeout = pos 1800000 }

abbrev pub OneSupervisorEach : Type 0
OneSupervisorEach =
    LeavesBook (supervise_one 1 ∷ []) (Commands.Supervise w (codes "other") 5 2 3 (pos 1000) (pos 2000)) (refuse (Refusals.SupervisorExists w))
    × Answers (supervise_one 1 ∷ []) (supervise_of v 1 1 1 ∷ supervise_one 1 ∷ []) (Replies.Supervise v ∷ refuse (Refusals.SupervisorExists w) ∷ [])
    × ((after (supervise_one 1 ∷ supervise_of v 1 1 1 ∷ [])).supervisors ≡ supervisor_row_of w ∷ supervisor_row_of v ∷ [])

-- ---- partitions are dealt to the groups in turn, a group without any is passed over, and supervisors come in the order in which they were made

abbrev pub PartitionsOfGroups : Type 0
PartitionsOfGroups =
    Answers (supervise_of w 5 2 1 ∷ supervise_of v 2 3 1 ∷ [])
    (Commands.Tick now ∷ show_sequences ∷ Commands.Show (Whats.Sequences v) ∷ [])
    (Replies.Tick [] (first_sequence ∷ codes "sup:w:1:0" ∷ codes "sup:v:0:0" ∷ codes "sup:v:1:0" ∷ []) []
    ∷ sequences_are
    (line first_sequence (point 0 0 ∷ point 2 0 ∷ point 4 0 ∷ []) [] States.Reading
    ∷ line (codes "sup:w:1:0") (point 1 0 ∷ point 3 0 ∷ []) [] States.Reading
    ∷ [])
    ∷ Replies.Sequences
    (line (codes "sup:v:0:0") (point 0 0 ∷ []) [] States.Reading ∷ line (codes "sup:v:1:0") (point 1 0 ∷ []) [] States.Reading ∷ [])
    v
    ∷ [])

-- ---- a first sequence starts at the stored offsets of its stream, and at 0 where none is stored

abbrev pub StartsWhereStored : Type 0
StartsWhereStored =
    Answers
    (start p TaskKinds.Realtime
    ++ (read_only p (range 0 0 7 ∷ []) ∷ Commands.Append p [] (ranges_of (codes "other") (range 1 3 4 ∷ [])) ∷ supervise_of w 2 1 1 ∷ []))
    (Commands.Tick now ∷ show_sequences ∷ [])
    (Replies.Tick [] (first_sequence ∷ []) [] ∷ sequences_are (line first_sequence (point 0 7 ∷ point 1 0 ∷ []) [] States.Reading ∷ []) ∷ [])

-- ---- the tasks of a sequence wait, want no locks, and have the sequence's name as group

abbrev pub replica_task : List ℕ → TaskStatus → TaskRow
replica_task task status = record { task = task; group = first_sequence; source = w; kind = TaskKinds.Realtime; priority = 75; status = status; wants = [] }

abbrev pub TasksOfSequence : Type 0
TasksOfSequence =
    ((after (supervise_one 2 ∷ Commands.Tick now ∷ [])).tasks ≡ replica_task r000 Statuses.Waiting ∷ replica_task r001 Statuses.Waiting ∷ [])
    × ((after (reading 2)).tasks ≡ replica_task r000 Statuses.Running ∷ replica_task r001 Statuses.Running ∷ [])

-- ---- a sequence pauses when its hour is over and not a millisecond before; while it is paused nothing opens and nothing is late

abbrev pub PausesOnTime : Type 0
PausesOnTime =
    Answers (reading 1)
    (Commands.Tick (now_plus 3599999) ∷ Commands.Tick (now_plus 3600000) ∷ Commands.Tick (minutes_later 600) ∷ [])
    (Replies.Tick [] [] [] ∷ Replies.Tick [] [] (first_sequence ∷ []) ∷ Replies.Tick [] [] [] ∷ [])

-- ---- a closed sequence is late when its half hour is over and not a millisecond before; it takes the later ones with it, and their tasks fail, those that wait too

abbrev pub LateOnTime : Type 0
LateOnTime =
    Answers closed_at_ten
    (Commands.Tick (now_plus 1799999) ∷ Commands.Tick (now_plus 1800000) ∷ show_sequences ∷ show_tasks ∷ [])
    (Replies.Tick [] (second_sequence ∷ []) []
    ∷ Replies.Tick (first_sequence ∷ second_sequence ∷ []) (third_sequence ∷ []) []
    ∷ sequences_are
    (line first_sequence (at_offset 0) (at_offset 10) States.Abandoned
    ∷ line second_sequence (at_offset 10) [] States.Abandoned
    ∷ line third_sequence (at_offset 0) [] States.Reading
    ∷ [])
    ∷ Replies.Tasks
    (replica_line r000 first_sequence Statuses.Failed
    ∷ replica_line r010 second_sequence Statuses.Failed
    ∷ replica_line (codes "sup:w:0:2:0") third_sequence Statuses.Waiting
    ∷ [])
    ∷ [])

-- ---- a later sequence that is closed goes with an earlier one that is late, though its own time isn't over

abbrev pub LaterClosedGoesToo : Type 0
LaterClosedGoesToo =
    Answers (closed_at_ten ++ Commands.Tick (minutes_later 10) ∷ Commands.Manage (minutes_later 10) ∷ Commands.Checkpoint r010 (at_offset 15) ∷ [])
    (Commands.Tick (minutes_later 30) ∷ show_sequences ∷ [])
    (Replies.Tick (first_sequence ∷ second_sequence ∷ []) (third_sequence ∷ []) []
    ∷ sequences_are
    (line first_sequence (at_offset 0) (at_offset 10) States.Abandoned
    ∷ line second_sequence (at_offset 10) (at_offset 15) States.Abandoned
    ∷ line third_sequence (at_offset 0) [] States.Reading
    ∷ [])
    ∷ [])

-- ---- where a sequence is late, the one that would have paused is abandoned; where the first was published, it pauses

abbrev pub LateBeforePaused : Type 0
LateBeforePaused =
    Answers (closed_at_ten ++ Commands.Tick now ∷ []) (Commands.Tick (minutes_later 60) ∷ [])
    (Replies.Tick (first_sequence ∷ second_sequence ∷ []) (third_sequence ∷ []) [] ∷ [])
    × Answers (published_ten ++ Commands.Tick now ∷ []) (Commands.Tick (minutes_later 60) ∷ []) (Replies.Tick [] [] (second_sequence ∷ []) ∷ [])

-- ---- a tick counts from the book's clock where that is later, and sets it also where it does nothing else

abbrev pub TickAndClock : Type 0
TickAndClock =
    Answers (reading 1) (Commands.Manage (minutes_later 60) ∷ Commands.Tick now ∷ []) (Replies.Manage [] [] ∷ Replies.Tick [] [] (first_sequence ∷ []) ∷ [])
    × ChangesBook (reading 1) (Commands.Tick (minutes_later 1))
    × ((next (after (reading 1)) (Commands.Tick (minutes_later 1))).clock ≡ minutes_later 1)
    × ((next (after (reading 1)) (Commands.Tick v0)).clock ≡ now)

-- ---- a sequence goes on from the last closed one, and they are published in turn

abbrev pub GoesOnFromLastClosed : Type 0
GoesOnFromLastClosed =
    Answers (closed_at_ten ++ Commands.Tick now ∷ Commands.Manage now ∷ [])
    (Commands.Checkpoint r010 (at_offset 15)
    ∷ Commands.Tick now
    ∷ show_sequences
    ∷ read_only r010 (range 0 10 15 ∷ [])
    ∷ publish_ten r000
    ∷ read_only r010 (range 0 10 15 ∷ [])
    ∷ show_offsets
    ∷ [])
    (Replies.Checkpoint (at_offset 15) States.Closed
    ∷ Replies.Tick [] (third_sequence ∷ []) []
    ∷ sequences_are
    (line first_sequence (at_offset 0) (at_offset 10) States.Closed
    ∷ line second_sequence (at_offset 10) (at_offset 15) States.Closed
    ∷ line third_sequence (at_offset 15) [] States.Reading
    ∷ [])
    ∷ refuse (Refusals.RangeNotAssigned w)
    ∷ Replies.Append 0
    ∷ Replies.Append 1
    ∷ offsets_are (offset_line_of 0 15 ∷ [])
    ∷ [])

-- ---- after a late sequence the next starts where the last published one ended

abbrev pub StartsWherePublished : Type 0
StartsWherePublished =
    Answers (published_ten ++ Commands.Tick now ∷ Commands.Manage now ∷ Commands.Checkpoint r010 (at_offset 12) ∷ [])
    (Commands.Tick (minutes_later 30) ∷ show_sequences ∷ [])
    (Replies.Tick (second_sequence ∷ []) (third_sequence ∷ []) []
    ∷ sequences_are
    (line first_sequence (at_offset 0) (at_offset 10) States.Published
    ∷ line second_sequence (at_offset 10) (at_offset 12) States.Abandoned
    ∷ line third_sequence (at_offset 10) [] States.Reading
    ∷ [])
    ∷ [])
