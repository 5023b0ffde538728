-- What becomes of a sequence when its replicas end, and when its stream is reset.
use Rattle.book_rows.specs.declared.rows.Book.{Book}
use Rattle.std.specs.Prelude.{[], codes, pos, ◌++◌, ◌∷◌, ◌≡◌}
use Rattle.scenes.specs.Publishing.{LeavesBook, alloc_hour, hour_id, pending_row_of, point, reset, show_sequences, show_tasks}
use Rattle.scenes.specs.Script.{after, s, v, Answers, fail, now, refuse, succeed, t, w}
use Rattle.scenes.specs.Supervising.{at_offset, first_sequence, minutes_later, r000, r001, r010, report_row, second_sequence, third_sequence}
use Rattle.cases_rules.specs.ReportCases.{first_row, r002}
use Rattle.cases_rules.specs.SequenceCases.{closed_at_ten, publish_ten, published_ten, reading, replica_line, sequences_are, supervise_one}
use Rattle.cases_rules.specs.SupervisorCases.{line}
use Rattle.book_rows.specs.declared.commands.Command.TheVariants as Commands
use Rattle.book_rows.specs.declared.replies.Refusal.TheVariants as Refusals
use Rattle.book_rows.specs.declared.replies.Reply.TheVariants as Replies
use Rattle.book_rows.specs.declared.kinds.SeqState.TheVariants as States
use Rattle.book_rows.specs.declared.kinds.TaskStatus.TheVariants as Statuses

-- ---- with the last replica a sequence and the later ones of its group are abandoned, and the later ones' replicas fail

abbrev pub LastReplicaTakesLaterOnes : Type 0
LastReplicaTakesLaterOnes =
    Answers (closed_at_ten ++ Commands.Tick now ∷ Commands.Manage now ∷ [])
    (succeed r000 ∷ show_sequences ∷ show_tasks ∷ fail r010 ∷ succeed r010 ∷ [])
    (Replies.End Statuses.Success r000
    ∷ sequences_are (line first_sequence (at_offset 0) (at_offset 10) States.Abandoned ∷ line second_sequence (at_offset 10) [] States.Abandoned ∷ [])
    ∷ Replies.Tasks (replica_line r000 first_sequence Statuses.Success ∷ replica_line r010 second_sequence Statuses.Failed ∷ [])
    ∷ Replies.End Statuses.Failed r010
    ∷ refuse (Refusals.TaskEnded Statuses.Failed)
    ∷ [])

-- ---- a later sequence that loses its last replica leaves the first, and the next goes on from that one's ends

abbrev pub FirstOutlivesLater : Type 0
FirstOutlivesLater =
    Answers (closed_at_ten ++ Commands.Tick now ∷ Commands.Manage now ∷ [])
    (fail r010 ∷ Commands.Tick now ∷ show_sequences ∷ publish_ten r000 ∷ [])
    (Replies.End Statuses.Failed r010
    ∷ Replies.Tick [] (third_sequence ∷ []) []
    ∷ sequences_are
    (line first_sequence (at_offset 0) (at_offset 10) States.Closed
    ∷ line second_sequence (at_offset 10) [] States.Abandoned
    ∷ line third_sequence (at_offset 10) [] States.Reading
    ∷ [])
    ∷ Replies.Append 0
    ∷ [])

-- ---- a paused sequence stays so while one replica that is left hasn't reported

abbrev pub WaitsForEachReplica : Type 0
WaitsForEachReplica =
    Answers (reading 3)
    (Commands.Checkpoint r000 (at_offset 10) ∷ succeed r001 ∷ show_sequences ∷ Commands.Paused r002 (at_offset 4) ∷ show_sequences ∷ [])
    (Replies.Checkpoint [] States.Paused
    ∷ Replies.End Statuses.Success r001
    ∷ sequences_are (line first_sequence (at_offset 0) [] States.Paused ∷ [])
    ∷ Replies.Paused (at_offset 10) States.Closed
    ∷ sequences_are (line first_sequence (at_offset 0) (at_offset 10) States.Closed ∷ [])
    ∷ [])

-- ---- an end closes no sequence that reads; replicas that wait count as left, and may fail but not succeed

abbrev pub ReadingIsNotClosed : Type 0
ReadingIsNotClosed =
    Answers (supervise_one 2 ∷ Commands.Tick now ∷ [])
    (succeed r000 ∷ fail r000 ∷ show_sequences ∷ fail r001 ∷ show_sequences ∷ Commands.Tick now ∷ [])
    (refuse (Refusals.TaskNotRunning Statuses.Waiting)
    ∷ Replies.End Statuses.Failed r000
    ∷ sequences_are (line first_sequence (at_offset 0) [] States.Reading ∷ [])
    ∷ Replies.End Statuses.Failed r001
    ∷ sequences_are (line first_sequence (at_offset 0) [] States.Abandoned ∷ [])
    ∷ Replies.Tick [] (second_sequence ∷ []) []
    ∷ [])

-- ---- replicas that are left stand in the order of the tasks; a closed sequence stays closed while one is left, and a published one without any

abbrev pub WhoIsLeft : Type 0
WhoIsLeft =
    ((after (reading 3 ++ fail r001 ∷ [])).sequences ≡ first_row States.Reading (pos 0) [] (r000 ∷ r002 ∷ []) [] ∷ [])
    × ((after (reading 2 ++ Commands.Checkpoint r000 (at_offset 10) ∷ Commands.Checkpoint r001 (at_offset 9) ∷ fail r000 ∷ [])).sequences
    ≡ first_row States.Closed now (at_offset 10) (r001 ∷ []) (report_row r000 10 ∷ report_row r001 9 ∷ []) ∷ [])
    × ((after (published_ten ++ succeed r000 ∷ [])).sequences ≡ first_row States.Published now (at_offset 10) [] (report_row r000 10 ∷ []) ∷ [])

-- ---- an end that is repeated changes nothing

abbrev pub RepeatedEnd : Type 0
RepeatedEnd =
    LeavesBook (reading 2 ++ fail r000 ∷ []) (fail r000) (Replies.End Statuses.Failed r000)
    × LeavesBook (closed_at_ten ++ succeed r000 ∷ []) (succeed r000) (Replies.End Statuses.Success r000)

-- ---- an abandoned replica leaves its locks and loses its pendings, whether by a reset, a tick or the end of another

abbrev pub HasNoLocks : Book → Type 0
HasNoLocks book = (book.posses ≡ []) × (book.pendings ≡ [])

abbrev pub AbandonedLeavesLocks : Type 0
AbandonedLeavesLocks =
    ((after (reading 1 ++ alloc_hour r000 s ∷ [])).pendings ≡ pending_row_of (hour_id 0) (hour_id 0) 1 s ∷ [])
    × HasNoLocks (after (reading 1 ++ alloc_hour r000 s ∷ reset [] ∷ []))
    × HasNoLocks (after (closed_at_ten ++ alloc_hour r000 s ∷ Commands.Tick (minutes_later 30) ∷ []))
    × HasNoLocks (after (closed_at_ten ++ Commands.Tick now ∷ Commands.Manage now ∷ alloc_hour r010 s ∷ succeed r000 ∷ []))

-- ---- a reset of the supervisor's stream leaves what is published, and the next sequence starts at its offset

abbrev pub ResetKeepsPublished : Type 0
ResetKeepsPublished =
    Answers (published_ten ++ Commands.Tick now ∷ Commands.Manage now ∷ [])
    (reset (point 0 3 ∷ []) ∷ show_sequences ∷ fail r010 ∷ Commands.Tick now ∷ show_sequences ∷ [])
    (Replies.Reset 1
    ∷ sequences_are (line first_sequence (at_offset 0) (at_offset 10) States.Published ∷ line second_sequence (at_offset 10) [] States.Abandoned ∷ [])
    ∷ Replies.End Statuses.Failed r010
    ∷ Replies.Tick [] (third_sequence ∷ []) []
    ∷ sequences_are
    (line first_sequence (at_offset 0) (at_offset 10) States.Published
    ∷ line second_sequence (at_offset 10) [] States.Abandoned
    ∷ line third_sequence (at_offset 3) [] States.Reading
    ∷ [])
    ∷ [])

-- ---- a reset of the stream of another source, or of another stream, abandons nothing

abbrev pub OtherResetsAbandonNothing : Type 0
OtherResetsAbandonNothing =
    Answers (reading 1)
    (Commands.Reset v t (point 0 3 ∷ []) ∷ Commands.Reset w (codes "other") (point 0 3 ∷ []) ∷ show_sequences ∷ Commands.Checkpoint r000 (at_offset 10) ∷ [])
    (Replies.Reset 0
    ∷ Replies.Reset 1
    ∷ sequences_are (line first_sequence (at_offset 0) [] States.Reading ∷ [])
    ∷ Replies.Checkpoint (at_offset 10) States.Closed
    ∷ [])
