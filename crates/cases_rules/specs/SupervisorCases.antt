-- A supervisor with two groups and two replicas: sequences read, pause, close, are published and abandoned.
use Rattle.iv_time.specs.declared.granularity.Granularity.TheVariants as Granularities
use Rattle.book_rows.specs.declared.kinds.TaskKind.TheVariants as TaskKinds
use Rattle.book_rows.specs.declared.kinds.LockKind.TheVariants as LockKinds
use Rattle.std.specs.Prelude.{◌++◌, ◌∷◌, List, Some, [], codes, ℕ, None}
use Rattle.scenes.specs.Script.{Answers, fail, now, refuse, t, w, alloc, append, from_to, hour, id, minutes, p, start, succeed, v0}
use Rattle.scenes.specs.Supervising.{first_group_at, minutes_later, r000, r001, r100, r101, supervise}
use Rattle.scenes.specs.Publishing.{point}
use Rattle.book_rows.specs.Locks.{ends}
use Rattle.book_rows.specs.declared.commands.Command.{Command}
use Rattle.book_rows.specs.declared.kinds.SeqState.{SeqState}
use Rattle.book_rows.specs.declared.replies.SequenceLine.{SequenceLine}
use Rattle.book_rows.specs.declared.rows.Offset.{Offset}
use Rattle.book_rows.specs.declared.commands.Command.TheVariants as Commands
use Rattle.book_rows.specs.declared.replies.Refusal.TheVariants as Refusals
use Rattle.book_rows.specs.declared.replies.Reply.TheVariants as Replies
use Rattle.book_rows.specs.declared.kinds.SeqState.TheVariants as States
use Rattle.book_rows.specs.declared.kinds.TaskStatus.TheVariants as Statuses
use Rattle.book_rows.specs.declared.commands.What.TheVariants as Whats

abbrev pub publish_first : List ℕ → ℕ → ℕ → Command
publish_first task a0 c0 =
    Commands.Append task [] (Some (record { stream = t; parts = record { partition = 0; start = 0; end = a0 } ∷ record { partition = 2; start = 0; end = c0 } ∷ [] }))

abbrev pub first_hour : List Command
first_hour =
    supervise
    ∷ supervise
    ∷ Commands.Tick now
    ∷ Commands.Manage now
    ∷ Commands.Paused r000 (first_group_at 10 7)
    ∷ Commands.Tick (minutes_later 60)
    ∷ Commands.Paused r000 (first_group_at 10 7)
    ∷ Commands.Paused r001 (first_group_at 8 9)
    ∷ []

abbrev pub FirstSequenceCloses : Type 0
FirstSequenceCloses =
    Answers [] first_hour
    (Replies.Supervise w
    ∷ refuse (Refusals.SupervisorExists w)
    ∷ Replies.Tick [] (codes "sup:w:0:0" ∷ codes "sup:w:1:0" ∷ []) []
    ∷ Replies.Manage (r000 ∷ r001 ∷ r100 ∷ r101 ∷ []) []
    ∷ refuse (Refusals.SequenceState (Some States.Reading))
    ∷ Replies.Tick [] [] (codes "sup:w:0:0" ∷ codes "sup:w:1:0" ∷ [])
    ∷ Replies.Paused [] States.Paused
    ∷ Replies.Paused (first_group_at 10 9) States.Closed
    ∷ [])

abbrev pub line : List ℕ → List Offset → List Offset → SeqState → SequenceLine
line name starts ends state = record { ends = ends; name = name; starts = starts; state = state }

-- the second group's replicas fail, so its sequence is abandoned; new sequences start where the last ones ended
abbrev pub second_hour : List Command
second_hour =
    fail r100
    ∷ fail r101
    ∷ Commands.Tick (minutes_later 70)
    ∷ Commands.Show (Whats.Sequences w)
    ∷ publish_first r001 9 9
    ∷ publish_first r001 10 9
    ∷ publish_first r000 10 9
    ∷ []

abbrev pub ClosedSequenceIsPublished : Type 0
ClosedSequenceIsPublished =
    Answers first_hour second_hour
    (Replies.End Statuses.Failed r100
    ∷ Replies.End Statuses.Failed r101
    ∷ Replies.Tick [] (codes "sup:w:0:1" ∷ codes "sup:w:1:1" ∷ []) []
    ∷ Replies.Sequences
    (line (codes "sup:w:0:0") (first_group_at 0 0) (first_group_at 10 9) States.Closed
    ∷ line (codes "sup:w:1:0") (point 1 0 ∷ []) [] States.Abandoned
    ∷ line (codes "sup:w:0:1") (first_group_at 10 9) [] States.Reading
    ∷ line (codes "sup:w:1:1") (point 1 0 ∷ []) [] States.Reading
    ∷ [])
    w
    ∷ refuse (Refusals.RangeNotAssigned w)
    ∷ Replies.Append 0
    ∷ Replies.Append 0
    ∷ [])

-- a closed sequence that isn't published in half an hour is abandoned with those after it, and its tasks fail
abbrev pub LateSequenceIsAbandoned : Type 0
LateSequenceIsAbandoned =
    Answers (first_hour ++ (Commands.Tick (minutes_later 70) ∷ []))
    (Commands.Tick (minutes_later 90) ∷ Commands.End r000 Statuses.Failed ∷ Commands.Paused r001 (first_group_at 8 9) ∷ Commands.Show (Whats.Sequences w) ∷ [])
    (Replies.Tick (codes "sup:w:0:0" ∷ codes "sup:w:0:1" ∷ []) (codes "sup:w:0:2" ∷ []) []
    ∷ Replies.End Statuses.Failed r000
    ∷ refuse (Refusals.TaskNotRunning Statuses.Failed)
    ∷ Replies.Sequences
    (line (codes "sup:w:0:0") (first_group_at 0 0) (first_group_at 10 9) States.Abandoned
    ∷ line (codes "sup:w:1:0") (point 1 0 ∷ []) [] States.Paused
    ∷ line (codes "sup:w:0:1") (first_group_at 10 9) [] States.Abandoned
    ∷ line (codes "sup:w:0:2") (first_group_at 0 0) [] States.Reading
    ∷ [])
    w
    ∷ [])

-- a checkpoint pauses; a closed sequence answers its ends; a partition that isn't the group's is told
abbrev pub ReportsPauseAndClose : Type 0
ReportsPauseAndClose =
    Answers (supervise ∷ Commands.Tick now ∷ Commands.Manage now ∷ [])
    (Commands.Checkpoint r000 (point 0 10 ∷ point 1 1 ∷ point 2 7 ∷ [])
    ∷ Commands.Checkpoint r000 (point 0 10 ∷ [])
    ∷ Commands.Checkpoint r000 (first_group_at 10 7)
    ∷ Commands.Checkpoint r000 (first_group_at 9 8)
    ∷ Commands.Paused r001 (first_group_at 8 5)
    ∷ Commands.Paused r001 (first_group_at 90 90)
    ∷ Commands.Checkpoint (codes "nobody") (first_group_at 1 1)
    ∷ [])
    (refuse (Refusals.BadRange 1)
    ∷ refuse (Refusals.BadRange 2)
    ∷ Replies.Checkpoint [] States.Paused
    ∷ Replies.Checkpoint [] States.Paused
    ∷ Replies.Paused (first_group_at 10 8) States.Closed
    ∷ Replies.Paused (first_group_at 10 8) States.Closed
    ∷ refuse Refusals.TaskUnknown
    ∷ [])

-- ---- a paused sequence closes when its last replica that hasn't reported ends; when all have ended it is abandoned, and keeps its ends

abbrev pub EndClosesAndAbandons : Type 0
EndClosesAndAbandons =
    Answers (supervise ∷ Commands.Tick now ∷ Commands.Manage now ∷ [])
    (Commands.Checkpoint r000 (first_group_at 10 7)
    ∷ fail r001
    ∷ fail r100
    ∷ Commands.Show (Whats.Sequences w)
    ∷ succeed r000
    ∷ Commands.Show (Whats.Sequences w)
    ∷ [])
    (Replies.Checkpoint [] States.Paused
    ∷ Replies.End Statuses.Failed r001
    ∷ Replies.End Statuses.Failed r100
    ∷ Replies.Sequences
    (line (codes "sup:w:0:0") (first_group_at 0 0) (first_group_at 10 7) States.Closed
    ∷ line (codes "sup:w:1:0") (point 1 0 ∷ []) [] States.Reading
    ∷ [])
    w
    ∷ Replies.End Statuses.Success r000
    ∷ Replies.Sequences
    (line (codes "sup:w:0:0") (first_group_at 0 0) (first_group_at 10 7) States.Abandoned
    ∷ line (codes "sup:w:1:0") (point 1 0 ∷ []) [] States.Reading
    ∷ [])
    w
    ∷ [])

-- ---- a publish of a sequence's task has its sequence's ranges, and no other task publishes on the stream

abbrev pub WhosePublish : Type 0
WhosePublish =
    Answers (supervise ∷ Commands.Tick now ∷ start p TaskKinds.Realtime)
    (alloc r000 LockKinds.Append (codes "s") (minutes 310) Granularities.Hour
    ∷ append r000 (id hour v0 0 ∷ [])
    ∷ Commands.Append p [] (from_to 0 0)
    ∷ Commands.Append p [] (Some (record { stream = codes "other"; parts = record { partition = 0; start = 3; end = 4 } ∷ [] }))
    ∷ [])
    (Replies.Allocate (id hour v0 0) 1 []
    ∷ refuse (Refusals.RangeNotAssigned w)
    ∷ refuse (Refusals.RangeNotAssigned w)
    ∷ Replies.Append 0
    ∷ [])

-- ---- a reset of the supervisor's stream abandons its sequences, and their tasks fail

abbrev pub ResetAbandons : Type 0
ResetAbandons =
    Answers first_hour
    (Commands.Reset w (codes "other") []
    ∷ Commands.Reset w t (point 0 5 ∷ [])
    ∷ fail r000
    ∷ Commands.Tick (minutes_later 61)
    ∷ Commands.Show (Whats.Sequences w)
    ∷ [])
    (Replies.Reset 0
    ∷ Replies.Reset 1
    ∷ Replies.End Statuses.Failed r000
    ∷ Replies.Tick [] (codes "sup:w:0:1" ∷ codes "sup:w:1:1" ∷ []) []
    ∷ Replies.Sequences
    (line (codes "sup:w:0:0") (first_group_at 0 0) (first_group_at 10 9) States.Abandoned
    ∷ line (codes "sup:w:1:0") (point 1 0 ∷ []) [] States.Abandoned
    ∷ line (codes "sup:w:0:1") (first_group_at 5 0) [] States.Reading
    ∷ line (codes "sup:w:1:1") (point 1 0 ∷ []) [] States.Reading
    ∷ [])
    w
    ∷ [])
