-- What a publish of a sequence's replica is answered.
use Rattle.std.specs.Prelude.{◌≡◌, List, None, Option, Some, [], false, map, true, ℕ}
use Rattle.seg_names.specs.declared.seg_id.SegId.{SegId}
use Rattle.book_rows.specs.Answer.{answer, book_after, next}
use Rattle.book_rows.specs.Form.{AllKeepForm, KeepsForm}
use Rattle.book_rows.specs.Lists.{In, at_place}
use Rattle.book_rows.specs.Outcome.{task_of}
use Rattle.book_rows.specs.SequenceRules.{has_ranges_of}
use Rattle.book_rows.specs.Sequences.{first_open, is_closed, name_of, partitions_of}
use Rattle.book_rows.specs.declared.commands.Command.{Command}
use Rattle.book_rows.specs.declared.rows.Book.{Book}
use Rattle.book_rows.specs.declared.rows.Publication.{Publication}
use Rattle.book_rows.specs.declared.rows.Ranges.{Ranges}
use Rattle.book_rows.specs.declared.rows.SequenceRow.{SequenceRow}
use Rattle.book_rows.specs.declared.rows.SupervisorRow.{SupervisorRow}
use Rattle.book_rows.specs.declared.rows.TaskRow.{TaskRow}
use Rattle.book_rows.specs.declared.commands.Command.TheVariants as Commands
use Rattle.laws_offsets.specs.Effects.{TaskRanges, publish_of}
use Rattle.laws_sequences.specs.Links.{HasLinks}
use Rattle.laws_sequences.specs.PublishReplies.{commit_of, is_for_ranges}

-- ---- a publish of a replica

-- the command publishes, and its task is a replica of the sequence
pub record IsPublishBy (b : Book) (u : SequenceRow) (c : Command) : Type 0 where
  pub publish : TaskRanges
  pub is_publish : publish_of c ≡ Some publish
  pub task : TaskRow
  pub found : task_of publish.task b.tasks ≡ Some task
  pub among : In u b.sequences
  pub group_is : task.group ≡ name_of u

-- ---- its ranges are the sequence's

abbrev pub partitions_in : Option Ranges → List ℕ
partitions_in None = []
partitions_in (Some ranges) = map (λ r. r.partition) ranges.parts

-- the ranges are from the sequence's starts to its ends: one for each partition of its group
pub record HasItsRanges (ss : List SupervisorRow) (u : SequenceRow) (ranges : Option Ranges) : Type 0 where
  pub ranges_are : has_ranges_of u ranges ≡ true
  pub partitions_are : (s : SupervisorRow) → In s ss → s.source ≡ u.source → partitions_in ranges ≡ partitions_of s u.group

abbrev pub AnsweredHasRanges : Type 0
AnsweredHasRanges = (b : Book) (c : Command) (u : SequenceRow) (k : ℕ) → HasLinks b → (p : IsPublishBy b u c) → commit_of (answer b c) ≡ Some k → HasItsRanges b.supervisors u p.publish.ranges

-- ---- one commit number

-- the publication of this place is of the group
pub record IsCommittedAt (pubs : List Publication) (group : List ℕ) (k : ℕ) : Type 0 where
  pub publication : Publication
  pub at : at_place k pubs ≡ Some publication
  pub group_is : publication.group ≡ group

-- the number that is answered is the place of a publication of the sequence
abbrev pub AnsweredIsCommitted : Type 0
AnsweredIsCommitted = (b : Book) (c : Command) (u : SequenceRow) (k : ℕ) → IsPublishBy b u c → commit_of (answer b c) ≡ Some k → IsCommittedAt (next b c).publications (name_of u) k

-- whatever is committed stays at its place
abbrev pub PublicationsStay : Type 0
PublicationsStay = (b : Book) (c : Command) (k : ℕ) (m : Publication) → at_place k b.publications ≡ Some m → at_place k (next b c).publications ≡ Some m

-- a sequence has one place
abbrev pub SequenceHasOnePlace : Type 0
SequenceHasOnePlace = (b : Book) (u : SequenceRow) (k l : ℕ) → HasLinks b → In u b.sequences → IsCommittedAt b.publications (name_of u) k → IsCommittedAt b.publications (name_of u) l → k ≡ l

-- so whenever two publishes of replicas of one sequence are answered a number, it is one number
abbrev pub SequenceHasOneNumber : Type 0
SequenceHasOneNumber = (b : Book) (c d : Command) (cs : List Command) (u v : SequenceRow) (k l : ℕ) → HasLinks b → KeepsForm c → AllKeepForm cs → KeepsForm d → name_of v ≡ name_of u
    → IsPublishBy b u c → commit_of (answer b c) ≡ Some k → IsPublishBy (book_after (next b c) cs) v d → commit_of (answer (book_after (next b c) cs) d) ≡ Some l → k ≡ l

-- ---- a closed sequence can be published

-- the sequence is the first unpublished one of its group, and closed; the ranges are its own, on its supervisor's stream
pub record IsNext (b : Book) (u : SequenceRow) (ranges : Ranges) : Type 0 where
  pub first : first_open u.source u.group b.sequences ≡ Some u
  pub closed : is_closed u ≡ true
  pub ranges_are : has_ranges_of u (Some ranges) ≡ true
  pub supervisor : SupervisorRow
  pub among : In supervisor b.supervisors
  pub source_is : supervisor.source ≡ u.source
  pub stream_is : ranges.stream ≡ supervisor.stream

-- an append of its ranges by one of its replicas isn't refused for them
abbrev pub NextIsLetThrough : Type 0
NextIsLetThrough = (b : Book) (task : List ℕ) (ids : List SegId) (ranges : Ranges) (u : SequenceRow) → HasLinks b → IsPublishBy b u (Commands.Append task ids (Some ranges)) → IsNext b u ranges
    → is_for_ranges (answer b (Commands.Append task ids (Some ranges))) ≡ false
