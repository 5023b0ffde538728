-- One supervisor with two groups and two replicas, and the books that its commands lead to.
use Rattle.std.specs.Prelude.{◌++◌, ◌∷◌, ◌≡◌, List, Some, [], codes, filter, map, pos, ℕ}
use Rattle.book_rows.specs.Names.{replica_name, sequence_name}
use Rattle.book_rows.specs.Publications.{appending, publication_of}
use Rattle.book_rows.specs.SequenceRules.{Chain}
use Rattle.book_rows.specs.Sequences.{is_of_group, open_rows, partitions_of, positions}
use Rattle.book_rows.specs.declared.commands.Command.{Command}
use Rattle.book_rows.specs.declared.kinds.TaskStatus.{TaskStatus}
use Rattle.book_rows.specs.declared.rows.OffsetRow.{OffsetRow}
use Rattle.book_rows.specs.declared.rows.Publication.{Publication}
use Rattle.book_rows.specs.declared.rows.Ranges.{Ranges}
use Rattle.book_rows.specs.declared.rows.SequenceRow.{SequenceRow}
use Rattle.book_rows.specs.declared.rows.TaskRow.{TaskRow}
use Rattle.book_rows.specs.declared.commands.Command.TheVariants as Commands
use Rattle.book_rows.specs.declared.kinds.SeqState.TheVariants as States
use Rattle.book_rows.specs.declared.kinds.TaskKind.TheVariants as TaskKinds
use Rattle.book_rows.specs.declared.kinds.TaskStatus.TheVariants as Statuses
use Rattle.scenes.specs.Supervising.{first_group_at, minutes_later, supervise, supervisor}
use Rattle.book_rows.specs.declared.kinds.PubKind.TheVariants as PubKinds
use Rattle.laws_sequences.specs.Links.{AreOwn}

-- ---- the commands

abbrev pub source : List ℕ
source = codes "w"

abbrev pub stream : List ℕ
stream = codes "t"

abbrev pub name : ℕ → ℕ → List ℕ
name group index = sequence_name source group index

abbrev pub replica : ℕ → ℕ → ℕ → List ℕ
replica group index number = replica_name (name group index) number

abbrev pub ranges_on : List ℕ → ℕ → ℕ → Ranges
ranges_on s a c = record { stream = s; parts = record { partition = 0; start = 0; end = a } ∷ record { partition = 2; start = 0; end = c } ∷ [] }

abbrev pub ranges_to : ℕ → ℕ → Ranges
ranges_to a c = ranges_on stream a c

abbrev pub publish : ℕ → ℕ → ℕ → Command
publish number a c = Commands.Append (replica 0 0 number) [] (Some (ranges_to a c))

-- both replicas of the first group have reported, so its sequence is closed
abbrev pub first_closed : List Command
first_closed = supervise ∷ Commands.Tick (minutes_later 0) ∷ Commands.Manage (minutes_later 0) ∷ Commands.Checkpoint (replica 0 0 0) (first_group_at 10 7) ∷ Commands.Checkpoint (replica 0 0 1) (first_group_at 8 9) ∷ []

-- and another has opened
abbrev pub second_opened : List Command
second_opened = first_closed ++ Commands.Tick (minutes_later 1) ∷ []

-- and a replica has published the first
abbrev pub first_published : List Command
first_published = second_opened ++ publish 1 10 9 ∷ []

-- ---- the rows after the second has opened: sequences stand in the order 0:0, 1:0, 0:1

abbrev pub closed_row : SequenceRow
closed_row = record {
  source = source;
  group = 0;
  index = 0;
  state = States.Closed;
  opened = minutes_later 0;
  closed = minutes_later 0;
  starts = first_group_at 0 0;
  ends = first_group_at 10 9;
  live = replica 0 0 0 ∷ replica 0 0 1 ∷ [];
  reports = record { task = replica 0 0 0; offsets = first_group_at 10 7 } ∷ record { task = replica 0 0 1; offsets = first_group_at 8 9 } ∷ [];
}

abbrev pub other_row : SequenceRow
other_row = record {
  source = source;
  group = 1;
  index = 0;
  state = States.Reading;
  opened = minutes_later 0;
  closed = pos 0;
  starts = record { partition = 1; offset = 0 } ∷ [];
  ends = [];
  live = replica 1 0 0 ∷ replica 1 0 1 ∷ [];
  reports = [];
}

abbrev pub reading_row : SequenceRow
reading_row = record {
  source = source;
  group = 0;
  index = 1;
  state = States.Reading;
  opened = minutes_later 1;
  closed = pos 0;
  starts = first_group_at 10 9;
  ends = [];
  live = replica 0 1 0 ∷ replica 0 1 1 ∷ [];
  reports = [];
}

abbrev pub rows : List SequenceRow
rows = closed_row ∷ other_row ∷ reading_row ∷ []

abbrev pub task_row : ℕ → ℕ → ℕ → TaskStatus → TaskRow
task_row group index number status = record { task = replica group index number; group = name group index; source = source; kind = TaskKinds.Realtime; priority = 75; status = status; wants = [] }

abbrev pub tasks : List TaskRow
tasks =
    task_row 0 0 0 Statuses.Running ∷ task_row 0 0 1 Statuses.Running ∷ task_row 1 0 0 Statuses.Running ∷ task_row 1 0 1 Statuses.Running
    ∷ task_row 0 1 0 Statuses.Waiting ∷ task_row 0 1 1 Statuses.Waiting ∷ []

-- ---- after the first is published

abbrev pub published_row : SequenceRow
published_row = record closed_row { state = States.Published }

abbrev pub publication : Publication
publication = publication_of PubKinds.Append (task_row 0 0 1 Statuses.Running) [] (appending [] (Some (ranges_to 10 9)))

-- ---- what is seen where sequences are linked

-- the group's unpublished sequences are these, and go on from one another, the first from the stored offsets on
abbrev pub GoOn : List OffsetRow → ℕ → List SequenceRow → List SequenceRow → Type 0
GoOn stored group us unpublished = (open_rows source group us ≡ unpublished) × Chain (positions stored source stream (partitions_of supervisor group)) unpublished

-- so do those of both groups; their indexes are counted, and their offsets are those of their partitions
abbrev pub AreSeenLinked : List OffsetRow → List SequenceRow → List SequenceRow → List SequenceRow → Type 0
AreSeenLinked stored us first second =
    (map (λ u. u.index) (filter (is_of_group source 0) us) ≡ 0 ∷ 1 ∷ [])
    × (map (λ u. u.index) (filter (is_of_group source 1) us) ≡ 0 ∷ [])
    × GoOn stored 0 us first
    × GoOn stored 1 us second
    × AreOwn supervisor us
