-- Whose turn it is to publish on a supervisor's stream.
use Rattle.book_rows.specs.declared.commands.Command.{Command}
use Rattle.book_rows.specs.declared.replies.Reply.{Reply}
use Rattle.seg_names.specs.declared.seg_id.SegId.{SegId}
use Rattle.std.specs.Prelude.{[], codes, ◌++◌, ◌∷◌, ◌≡◌}
use Rattle.scenes.specs.Publishing.{LeavesBook, alloc_hour, append_read, hour_id, offsets_are, point, range, ranges, ranges_of, read_only, reset, show_offsets, show_sequences, submit_other}
use Rattle.scenes.specs.Script.{after, s, Answers, append, day, hour, id, insert, lock, now, now1, p, refuse, replace, show_timeline, shows, start, succeed, t, timeline, v0, w, x}
use Rattle.scenes.specs.Supervising.{at_offset, first_sequence, r000, r001, r100, r101}
use Rattle.cases_rules.specs.RangeCases.{offset_row_of}
use Rattle.cases_rules.specs.SequenceCases.{closed_at_ten, publish_ten, published_ten, reading, sequences_are, supervise_one}
use Rattle.cases_rules.specs.StreamCases.{offset_line_of}
use Rattle.cases_rules.specs.SupervisorCases.{first_hour, line}
use Rattle.book_rows.specs.declared.commands.Command.TheVariants as Commands
use Rattle.book_rows.specs.declared.kinds.LockKind.TheVariants as LockKinds
use Rattle.book_rows.specs.declared.replies.Refusal.TheVariants as Refusals
use Rattle.book_rows.specs.declared.replies.Reply.TheVariants as Replies
use Rattle.book_rows.specs.declared.kinds.SeqState.TheVariants as States
use Rattle.book_rows.specs.declared.kinds.TaskStatus.TheVariants as Statuses
use Rattle.book_rows.specs.declared.kinds.TaskKind.TheVariants as TaskKinds

abbrev pub not_assigned : Reply
not_assigned = refuse (Refusals.RangeNotAssigned w)

-- ---- a sequence is published when it is closed, and not while it reads or is paused

abbrev pub OnlyClosedIsPublished : Type 0
OnlyClosedIsPublished =
    Answers (reading 2)
    (read_only r000 (range 0 0 0 ∷ [])
    ∷ Commands.Checkpoint r000 (at_offset 10)
    ∷ publish_ten r000
    ∷ Commands.Checkpoint r001 (at_offset 9)
    ∷ publish_ten r001
    ∷ publish_ten r000
    ∷ [])
    (not_assigned
    ∷ Replies.Checkpoint [] States.Paused
    ∷ not_assigned
    ∷ Replies.Checkpoint (at_offset 10) States.Closed
    ∷ Replies.Append 0
    ∷ Replies.Append 0
    ∷ [])

-- ---- a replica that has ended publishes no more, but is answered where another has published

abbrev pub EndedReplicaPublishes : Type 0
EndedReplicaPublishes =
    Answers (reading 2 ++ Commands.Checkpoint r000 (at_offset 10) ∷ Commands.Checkpoint r001 (at_offset 9) ∷ succeed r000 ∷ [])
    (publish_ten r000 ∷ publish_ten r001 ∷ publish_ten r000 ∷ [])
    (refuse (Refusals.TaskNotRunning Statuses.Success) ∷ Replies.Append 0 ∷ Replies.Append 0 ∷ [])

-- ---- its ranges are exactly from its starts to its ends, on the supervisor's stream

abbrev pub RangesOfTheSequence : Type 0
RangesOfTheSequence =
    Answers first_hour
    (read_only r000 (range 0 0 10 ∷ [])
    ∷ read_only r000 (range 0 0 10 ∷ range 1 0 0 ∷ range 2 0 9 ∷ [])
    ∷ read_only r000 (range 0 1 10 ∷ range 2 0 9 ∷ [])
    ∷ read_only r000 (range 0 0 10 ∷ range 2 0 10 ∷ [])
    ∷ read_only r000 (range 0 0 10 ∷ range 2 0 8 ∷ [])
    ∷ Commands.Append r000 [] (ranges_of (codes "other") (range 0 0 10 ∷ range 2 0 9 ∷ []))
    ∷ read_only r000 (range 0 0 10 ∷ range 2 0 9 ∷ [])
    ∷ [])
    (not_assigned ∷ not_assigned ∷ not_assigned ∷ not_assigned ∷ not_assigned ∷ not_assigned ∷ Replies.Append 0 ∷ [])

-- ---- each group has a turn of its own

abbrev pub GroupsPublishApart : Type 0
GroupsPublishApart =
    Answers first_hour
    (Commands.Paused r100 (point 1 5 ∷ [])
    ∷ Commands.Paused r101 (point 1 6 ∷ [])
    ∷ read_only r100 (range 1 0 6 ∷ [])
    ∷ read_only r000 (range 0 0 10 ∷ range 2 0 9 ∷ [])
    ∷ show_offsets
    ∷ [])
    (Replies.Paused [] States.Paused
    ∷ Replies.Paused (point 1 6 ∷ []) States.Closed
    ∷ Replies.Append 0
    ∷ Replies.Append 1
    ∷ offsets_are (offset_line_of 0 10 ∷ offset_line_of 1 6 ∷ offset_line_of 2 9 ∷ [])
    ∷ [])

-- ---- a task of no sequence doesn't publish on the stream, but beside it, without ranges, and in another source

abbrev pub OthersBesideTheStream : Type 0
OthersBesideTheStream =
    Answers (supervise_one 1 ∷ submit_other x x ∷ start p TaskKinds.Realtime)
    (read_only p (range 0 0 1 ∷ [])
    ∷ read_only p (range 0 9 8 ∷ [])
    ∷ Commands.Append p [] (ranges_of (codes "other") (range 0 9 8 ∷ []))
    ∷ Commands.Append p [] (ranges_of (codes "other") (range 0 8 9 ∷ []))
    ∷ alloc_hour p s
    ∷ append p (hour_id 0 ∷ [])
    ∷ read_only x (range 0 3 4 ∷ [])
    ∷ [])
    (not_assigned
    ∷ not_assigned
    ∷ refuse (Refusals.BadRange 0)
    ∷ Replies.Append 0
    ∷ Replies.Allocate (hour_id 0) 1 []
    ∷ Replies.Append 1
    ∷ Replies.Append 2
    ∷ [])

-- ---- ids that aren't allocated are told first; ids and ranges of a sequence are published together

abbrev pub IdsOfTheSequence : Type 0
IdsOfTheSequence =
    Answers closed_at_ten
    (append_read r000 (hour_id 0 ∷ []) (range 0 0 10 ∷ [])
    ∷ alloc_hour r000 s
    ∷ append_read r000 (hour_id 0 ∷ []) (range 0 0 9 ∷ [])
    ∷ append r000 (hour_id 0 ∷ [])
    ∷ append_read r000 (hour_id 0 ∷ []) (range 0 0 10 ∷ [])
    ∷ append_read r000 (hour_id 0 ∷ []) (range 0 0 10 ∷ [])
    ∷ show_timeline
    ∷ show_sequences
    ∷ [])
    (refuse (Refusals.NotAllocated (hour_id 0))
    ∷ Replies.Allocate (hour_id 0) 1 []
    ∷ not_assigned
    ∷ not_assigned
    ∷ Replies.Append 0
    ∷ Replies.Append 0
    ∷ timeline (shows hour v0 (hour_id 0 ∷ []) ∷ [])
    ∷ sequences_are (line first_sequence (at_offset 0) (at_offset 10) States.Published ∷ [])
    ∷ [])

-- ---- an insert or a replace may publish a sequence too

abbrev pub insert_ten : SegId → Command
insert_ten name = Commands.Insert r000 (day ∷ []) (name ∷ []) [] (ranges (range 0 0 10 ∷ []))

abbrev pub replace_ten : SegId → Command
replace_ten name = Commands.Replace r000 (day ∷ []) (name ∷ []) [] (ranges (range 0 0 10 ∷ []))

abbrev pub InsertsOfTheSequence : Type 0
InsertsOfTheSequence =
    Answers (closed_at_ten ++ lock r000 LockKinds.Exclusive day ∷ [])
    (insert_ten (id day now 5)
    ∷ insert r000 day (id day now 0 ∷ [])
    ∷ insert_ten (id day now 0)
    ∷ insert_ten (id day now 0)
    ∷ show_sequences
    ∷ show_offsets
    ∷ [])
    (refuse (Refusals.BadSpan day)
    ∷ not_assigned
    ∷ Replies.Insert 0
    ∷ Replies.Insert 0
    ∷ sequences_are (line first_sequence (at_offset 0) (at_offset 10) States.Published ∷ [])
    ∷ offsets_are (offset_line_of 0 10 ∷ [])
    ∷ [])
    × Answers (closed_at_ten ++ lock r000 LockKinds.Replace day ∷ [])
    (replace_ten (id day now1 0) ∷ replace r000 day (id day now 0 ∷ []) ∷ replace_ten (id day now 0) ∷ show_offsets ∷ [])
    (refuse (Refusals.WrongVersion (id day now1 0)) ∷ not_assigned ∷ Replies.Replace 0 ∷ offsets_are (offset_line_of 0 10 ∷ []) ∷ [])

-- ---- a published sequence publishes no more, and its publish is repeated without a change

abbrev pub PublishedOnce : Type 0
PublishedOnce =
    Answers (published_ten ++ alloc_hour r000 s ∷ [])
    (read_only r000 (range 0 10 12 ∷ []) ∷ append r000 (hour_id 0 ∷ []) ∷ publish_ten r000 ∷ [])
    (not_assigned ∷ not_assigned ∷ Replies.Append 0 ∷ [])
    × LeavesBook published_ten (publish_ten r000) (Replies.Append 0)
    × LeavesBook (published_ten ++ succeed r000 ∷ []) (publish_ten r000) (Replies.Append 0)

-- ---- a publish moves the stored offsets of its sequence's partitions alone

abbrev pub PartitionsOfOthersStay : Type 0
PartitionsOfOthersStay =
    (after (reset (point 1 4 ∷ []) ∷ first_hour ++ read_only r000 (range 0 0 10 ∷ range 2 0 9 ∷ []) ∷ [])).offsets
    ≡ offset_row_of w t 0 10 ∷ offset_row_of w t 1 4 ∷ offset_row_of w t 2 9 ∷ []
