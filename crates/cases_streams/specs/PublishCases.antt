-- Worked cases of what the publishes of replicas are answered.
use Rattle.std.specs.Prelude.{◌++◌, ◌∷◌, ◌≡◌, List, Some, [], bytes_eq, codes, false, map, true, ℕ}
use Rattle.book_rows.specs.Answer.{answer, answers, book_after, changes, next}
use Rattle.book_rows.specs.Form.{AllKeepForm, KeepsForm}
use Rattle.book_rows.specs.Lists.{In, at_place}
use Rattle.book_rows.specs.Names.{begins_with, no_group, sup_prefix}
use Rattle.book_rows.specs.Publications.{appending, publication_of}
use Rattle.book_rows.specs.SequenceRules.{has_ranges_of}
use Rattle.book_rows.specs.Sequences.{name_of, partitions_of}
use Rattle.book_rows.specs.declared.commands.Command.{Command}
use Rattle.book_rows.specs.declared.kinds.TaskStatus.TheVariants as Statuses
use Rattle.book_rows.specs.declared.rows.Book.{Book}
use Rattle.book_rows.specs.declared.rows.Publication.{Publication}
use Rattle.book_rows.specs.declared.rows.SequenceRow.{SequenceRow}
use Rattle.book_rows.specs.declared.commands.Command.TheVariants as Commands
use Rattle.book_rows.specs.declared.replies.Refusal.TheVariants as Refusals
use Rattle.book_rows.specs.declared.replies.Reply.TheVariants as Replies
use Rattle.laws_sequences.specs.Links.{HasLinks}
use Rattle.laws_sequences.specs.PublishLaws.{IsCommittedAt, IsNext, IsPublishBy, partitions_in}
use Rattle.laws_sequences.specs.PublishReplies.{commit_of, is_for_ranges}
use Rattle.cases_streams.specs.SequenceScenes.{closed_row, first_published, name, publication, publish, published_row, ranges_on, ranges_to, replica, second_opened, source, task_row}
use Rattle.scenes.specs.Script.{after}
use Rattle.scenes.specs.Supervising.{first_group_at, minutes_later, supervisor}
use Rattle.laws_sequences.specs.StreamLaws.{HasStreams, stream_in}
use Rattle.book_rows.specs.declared.kinds.PubKind.TheVariants as PubKinds

-- a replica's publish is accepted; the other replica's repeats it
abbrev pub first : Command
first = publish 1 10 9

abbrev pub second : Command
second = publish 0 10 9

-- commands between them
abbrev pub between : List Command
between = Commands.Manage (minutes_later 1) ∷ Commands.Tick (minutes_later 2) ∷ Commands.Reset source (codes "other") (first_group_at 5 5) ∷ []

abbrev pub closed : Book
closed = after second_opened

abbrev pub committed : Book
committed = after first_published

abbrev pub later : Book
later = after (first_published ++ between)

-- a command by a replica of the sequence that is answered this number
abbrev pub IsGivenNumber : Book → SequenceRow → Command → ℕ → Type 0
IsGivenNumber b u c k = IsPublishBy b u c × (commit_of (answer b c) ≡ Some k)

-- ---- ranges

-- of the first sequence one range alone is let through, and on its stream alone; both replicas are answered one number
abbrev pub PublishesAreAnswered : Type 0
PublishesAreAnswered =
    (answers closed (publish 1 9 9 ∷ publish 1 10 9 ∷ publish 0 10 9 ∷ publish 0 9 9 ∷ [])
    ≡ Replies.Refused (Refusals.RangeNotAssigned source) ∷ Replies.Append 0 ∷ Replies.Append 0 ∷ Replies.Refused (Refusals.RangeNotAssigned source) ∷ [])
    × (answer closed (Commands.Append (replica 0 0 1) [] (Some (ranges_on (codes "other") 10 9))) ≡ Replies.Refused (Refusals.RangeNotAssigned source))

-- both have the sequence's ranges, one for each partition of its group
abbrev pub RangesAreItsOwn : Type 0
RangesAreItsOwn =
    HasLinks closed
    × IsGivenNumber closed closed_row first 0
    × (changes closed first ≡ true)
    × (has_ranges_of closed_row (Some (ranges_to 10 9)) ≡ true)
    × (partitions_in (Some (ranges_to 10 9)) ≡ 0 ∷ 2 ∷ [])
    × (partitions_of supervisor 0 ≡ 0 ∷ 2 ∷ [])
    × HasLinks committed
    × IsGivenNumber committed published_row second 0
    × (changes committed second ≡ false)
    × (has_ranges_of published_row (Some (ranges_to 10 9)) ≡ true)

-- ---- streams

-- the accepted one is on the supervisor's stream
abbrev pub StreamIsItsOwn : Type 0
StreamIsItsOwn =
    HasLinks closed
    × IsPublishBy closed closed_row first
    × (changes closed first ≡ true)
    × In supervisor closed.supervisors
    × (supervisor.source ≡ closed_row.source)
    × (stream_in (Some (ranges_to 10 9)) ≡ Some supervisor.stream)

-- so is the publication, and stays, and so is the one that repeats it
abbrev pub RepeatIsOnStream : Type 0
RepeatIsOnStream =
    AllKeepForm first_published
    × KeepsForm (Commands.Tick (minutes_later 2))
    × HasLinks committed
    × HasStreams committed
    × (committed.publications ≡ publication ∷ [])
    × ((next committed (Commands.Tick (minutes_later 2))).publications ≡ publication ∷ [])
    × (begins_with sup_prefix publication.group ≡ true)
    × (publication.source ≡ supervisor.source)
    × (stream_in publication.ranges ≡ Some supervisor.stream)
    × IsGivenNumber committed published_row second 0
    × (changes committed second ≡ false)
    × (stream_in (Some (ranges_to 10 9)) ≡ Some supervisor.stream)

-- ---- what is in line says nothing of the stream: the same book with the publication on another one, and a publish that repeats it

abbrev pub elsewhere : Publication
elsewhere = publication_of PubKinds.Append (task_row 0 0 1 Statuses.Running) [] (appending [] (Some (ranges_on (codes "other") 10 9)))

abbrev pub odd : Book
odd = record committed { publications = elsewhere ∷ [] }

abbrev pub repeated_elsewhere : Command
repeated_elsewhere = Commands.Append (replica 0 0 0) [] (Some (ranges_on (codes "other") 10 9))

abbrev pub LineKnowsNoStream : Type 0
LineKnowsNoStream =
    HasLinks odd
    × IsGivenNumber odd published_row repeated_elsewhere 0
    × (changes odd repeated_elsewhere ≡ false)
    × (bytes_eq (codes "other") supervisor.stream ≡ false)

-- ---- numbers

-- the number is the publication's place, which stays when another follows; the sequence has no other
abbrev pub NumberIsItsPlace : Type 0
NumberIsItsPlace =
    IsGivenNumber closed closed_row first 0
    × (at_place 0 (next closed first).publications ≡ Some publication)
    × (publication.group ≡ name_of closed_row)
    × HasLinks later
    × In published_row later.sequences
    × IsCommittedAt later.publications (name_of published_row) 0
    × (at_place 0 later.publications ≡ Some publication)
    × (map (λ m. m.group) later.publications ≡ name 0 0 ∷ no_group ∷ [])

-- both publishes are answered one number, with others between
abbrev pub NumberIsOne : Type 0
NumberIsOne =
    HasLinks closed
    × KeepsForm first
    × AllKeepForm between
    × KeepsForm second
    × (name_of published_row ≡ name_of closed_row)
    × IsGivenNumber closed closed_row first 0
    × IsGivenNumber (book_after (next closed first) between) published_row second 0

-- ---- the next sequence

-- it is the first unpublished one, and closed; the ranges are its own, and a publish of them isn't refused for them
abbrev pub FirstIsNext : Type 0
FirstIsNext =
    HasLinks closed
    × (name_of closed_row ≡ codes "sup:w:0:0")
    × IsPublishBy closed closed_row first
    × IsNext closed closed_row (ranges_to 10 9)
    × (is_for_ranges (answer closed first) ≡ false)

-- ---- from the book without rows on, where the commands keep their form

abbrev pub ReachedIsSeen : Type 0
ReachedIsSeen =
    AllKeepForm (second_opened ++ first ∷ between ++ second ∷ [])
    × IsGivenNumber (after second_opened) closed_row first 0
    × (has_ranges_of closed_row (Some (ranges_to 10 9)) ≡ true)
    × (stream_in (Some (ranges_to 10 9)) ≡ Some supervisor.stream)
    × IsNext (after second_opened) closed_row (ranges_to 10 9)
    × (is_for_ranges (answer (after second_opened) first) ≡ false)
    × IsGivenNumber (after (second_opened ++ first ∷ between)) published_row second 0
