-- Stream offsets: two replicas that publish the same ranges, and ranges that don't go on.
use Rattle.book_rows.specs.declared.rows.Book.{Book}
use Rattle.book_rows.specs.Answer.{book_after, changes, empty_book, next}
use Rattle.std.specs.Prelude.{◌++◌, ◌∷◌, List, [], codes, ℕ, ◌≡◌, true, false}
use Rattle.scenes.specs.Script.{Answers, alloc, from_to, hour, id, minutes, now, refuse, succeed, t, v0, w}
use Rattle.book_rows.specs.declared.commands.Command.{Command}
use Rattle.book_rows.specs.declared.replies.OffsetLine.{OffsetLine}
use Rattle.book_rows.specs.declared.commands.Command.TheVariants as Commands
use Rattle.iv_time.specs.declared.granularity.Granularity.TheVariants as Granularities
use Rattle.book_rows.specs.declared.kinds.LockKind.TheVariants as LockKinds
use Rattle.book_rows.specs.declared.replies.Refusal.TheVariants as Refusals
use Rattle.book_rows.specs.declared.replies.Reply.TheVariants as Replies
use Rattle.book_rows.specs.declared.kinds.TaskStatus.TheVariants as Statuses
use Rattle.book_rows.specs.declared.kinds.TaskKind.TheVariants as TaskKinds
use Rattle.book_rows.specs.declared.commands.What.TheVariants as Whats

abbrev pub submit_in : List ℕ → List ℕ → Command
submit_in task group = Commands.Submit task group w TaskKinds.Realtime 75 []

abbrev pub a1 : List ℕ
a1 = codes "a1"

abbrev pub a2 : List ℕ
a2 = codes "a2"

abbrev pub two_replicas : List Command
two_replicas = submit_in a1 (codes "g") ∷ submit_in a2 (codes "g") ∷ Commands.Manage now ∷ []

-- a publish of ids, and one without ids, of partition 0
abbrev pub publish : List ℕ → ℕ → ℕ → Command
publish task from to = Commands.Append task (id hour v0 0 ∷ []) (from_to from to)

abbrev pub publish_none : List ℕ → ℕ → ℕ → Command
publish_none task from to = Commands.Append task [] (from_to from to)

abbrev pub both_publish : List Command
both_publish =
    alloc a1 LockKinds.Append (codes "s") (minutes 310) Granularities.Hour
    ∷ alloc a2 LockKinds.Append (codes "s") (minutes 310) Granularities.Hour
    ∷ publish a1 0 10
    ∷ publish a2 0 10
    ∷ succeed a1
    ∷ publish a1 0 10
    ∷ []

-- a repeat has the first commit number, also after the task's end
abbrev pub ReplicasPublishOnce : Type 0
ReplicasPublishOnce =
    Answers two_replicas both_publish
    (Replies.Allocate (id hour v0 0) 1 []
    ∷ Replies.Allocate (id hour v0 0) 1 []
    ∷ Replies.Append 0
    ∷ Replies.Append 0
    ∷ Replies.End Statuses.Success a1
    ∷ Replies.Append 0
    ∷ [])

abbrev pub offsets_tried : List Command
offsets_tried = publish_none a2 9 12 ∷ publish_none a2 11 12 ∷ publish_none a2 10 9 ∷ publish_none a2 10 10 ∷ []

abbrev pub RangesGoOn : Type 0
RangesGoOn =
    Answers (two_replicas ++ both_publish) offsets_tried
    (refuse (Refusals.OffsetMismatch 0 10) ∷ refuse (Refusals.OffsetMismatch 0 10) ∷ refuse (Refusals.BadRange 0) ∷ Replies.Append 1 ∷ [])

-- a repeat without ids doesn't reach over a reset of the stream
abbrev pub ResetForgets : Type 0
ResetForgets =
    Answers (two_replicas ++ (both_publish ++ offsets_tried))
    (Commands.Reset w t (record { partition = 0; offset = 10 } ∷ []) ∷ publish_none a2 10 10 ∷ publish_none a2 10 10 ∷ publish a2 0 10 ∷ [])
    (Replies.Reset 2 ∷ Replies.Append 3 ∷ Replies.Append 3 ∷ Replies.Append 0 ∷ [])

abbrev pub offset_line_of : ℕ → ℕ → OffsetLine
offset_line_of partition offset = record { offset = offset; partition = partition; stream = t }

-- a reset replaces all offsets of the stream
abbrev pub ResetReplaces : Type 0
ResetReplaces =
    Answers []
    (Commands.Reset w t (record { partition = 0; offset = 5 } ∷ record { partition = 1; offset = 6 } ∷ [])
    ∷ Commands.Show (Whats.Offsets w)
    ∷ Commands.Reset w t (record { partition = 1; offset = 7 } ∷ [])
    ∷ Commands.Show (Whats.Offsets w)
    ∷ Commands.Reset w t []
    ∷ Commands.Show (Whats.Offsets w)
    ∷ [])
    (Replies.Reset 0
    ∷ Replies.Offsets (offset_line_of 0 5 ∷ offset_line_of 1 6 ∷ []) w
    ∷ Replies.Reset 1
    ∷ Replies.Offsets (offset_line_of 1 7 ∷ []) w
    ∷ Replies.Reset 2
    ∷ Replies.Offsets [] w
    ∷ [])

-- ---- the second member of a lock changes the book, and the same request again doesn't

abbrev pub one_member : Book
one_member = book_after empty_book (two_replicas ++ alloc a1 LockKinds.Append (codes "s") (minutes 310) Granularities.Hour ∷ [])

abbrev pub second_request : Command
second_request = alloc a2 LockKinds.Append (codes "s") (minutes 310) Granularities.Hour

abbrev pub JoiningChanges : Type 0
JoiningChanges = (changes one_member second_request ≡ true) × (changes (next one_member second_request) second_request ≡ false)
