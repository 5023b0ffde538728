-- A sequence is published on the stream of its source's supervisor.
use Rattle.std.specs.Prelude.{◌≡◌, List, None, Option, Some, true, ℕ}
use Rattle.book_rows.specs.Answer.{answer, book_after, changes, empty_book, next}
use Rattle.book_rows.specs.Form.{AllKeepForm, KeepsForm}
use Rattle.book_rows.specs.Lists.{In}
use Rattle.book_rows.specs.Names.{begins_with, sup_prefix}
use Rattle.book_rows.specs.declared.commands.Command.{Command}
use Rattle.book_rows.specs.declared.rows.Book.{Book}
use Rattle.book_rows.specs.declared.rows.Publication.{Publication}
use Rattle.book_rows.specs.declared.rows.Ranges.{Ranges}
use Rattle.book_rows.specs.declared.rows.SequenceRow.{SequenceRow}
use Rattle.book_rows.specs.declared.rows.SupervisorRow.{SupervisorRow}
use Rattle.laws_sequences.specs.Links.{HasLinks}
use Rattle.laws_sequences.specs.PublishLaws.{IsPublishBy}
use Rattle.laws_sequences.specs.PublishReplies.{commit_of}

abbrev pub stream_in : Option Ranges → Option (List ℕ)
stream_in None = None
stream_in (Some ranges) = Some ranges.stream

-- the ranges' stream is that of the supervisor of the sequence's source
abbrev pub IsOnItsStream : List SupervisorRow → SequenceRow → Option Ranges → Type 0
IsOnItsStream ss u ranges = (s : SupervisorRow) → In s ss → s.source ≡ u.source → stream_in ranges ≡ Some s.stream

-- ---- a publish that is accepted: its check asks for the stream

abbrev pub AcceptedIsOnStream : Type 0
AcceptedIsOnStream = (b : Book) (c : Command) (u : SequenceRow) → HasLinks b → (p : IsPublishBy b u c) → changes b c ≡ true → IsOnItsStream b.supervisors u p.publish.ranges

-- ---- one that is repeated: the publication that it repeats is on that stream

-- the publication is of a supervisor's source, and on its stream
pub record IsOnStream (ss : List SupervisorRow) (m : Publication) : Type 0 where
  pub supervisor : SupervisorRow
  pub among : In supervisor ss
  pub source_is : supervisor.source ≡ m.source
  pub stream_is : stream_in m.ranges ≡ Some supervisor.stream

-- so is each that is named as those of sequences
abbrev pub AreOnStreams : List SupervisorRow → List Publication → Type 0
AreOnStreams ss ms = (m : Publication) → In m ms → begins_with sup_prefix m.group ≡ true → IsOnStream ss m

abbrev pub HasStreams : Book → Type 0
HasStreams b = AreOnStreams b.supervisors b.publications

abbrev pub CommandsKeepStreams : Type 0
CommandsKeepStreams = (b : Book) (c : Command) → KeepsForm c → HasLinks b → HasStreams b → HasStreams (next b c)

abbrev pub StreamsStay : Type 0
StreamsStay = (cs : List Command) → AllKeepForm cs → HasStreams (book_after empty_book cs)

-- a publish that is answered a number is accepted, or repeats one
abbrev pub AnsweredIsOnStream : Type 0
AnsweredIsOnStream = (b : Book) (c : Command) (u : SequenceRow) (k : ℕ) → HasLinks b → HasStreams b → (p : IsPublishBy b u c) → commit_of (answer b c) ≡ Some k → IsOnItsStream b.supervisors u p.publish.ranges
