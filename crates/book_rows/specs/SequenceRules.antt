-- The soundness rule on supervisors' sequences.
use Rattle.std.specs.Prelude.{◌&&◌, ◌<◌, ◌||◌, ◌∷◌, ◌≡◌, Bool, List, None, Option, Some, [], bytes_eq, cond, false, filter, length, map, not, true, ℕ}
use Rattle.std.specs.List.{AllByRecursion, range_with_len}
use Rattle.book_rows.specs.Kinds.{has_ended, is_unpublished, same_state}
use Rattle.book_rows.specs.Lists.{In, Pairs, at_place, count, is_empty}
use Rattle.book_rows.specs.Names.{begins_with, compact_name, compact_prefix, replica_name, sup_prefix}
use Rattle.book_rows.specs.Sequences.{are_ranges, is_closed, name_of, named, open_rows, partitions_of, positions, reaches}
use Rattle.book_rows.specs.Ticks.{groups_of, of_group}
use Rattle.book_rows.specs.declared.rows.Book.{Book}
use Rattle.book_rows.specs.declared.rows.Offset.{Offset}
use Rattle.book_rows.specs.declared.rows.Publication.{Publication}
use Rattle.book_rows.specs.declared.rows.Ranges.{Ranges}
use Rattle.book_rows.specs.declared.rows.Report.{Report}
use Rattle.book_rows.specs.declared.rows.SequenceRow.{SequenceRow}
use Rattle.book_rows.specs.declared.rows.SupervisorRow.{SupervisorRow}
use Rattle.book_rows.specs.declared.rows.TaskRow.{TaskRow}
use Rattle.book_rows.specs.declared.kinds.SeqState.TheVariants as States
use Rattle.book_rows.specs.declared.kinds.TaskKind.TheVariants as TaskKinds

-- ---- a sequence, with its supervisor, its tasks and its publications

-- its source has a supervisor, and its group is one of that supervisor's with partitions
pub record IsSupervised (ss : List SupervisorRow) (u : SequenceRow) : Type 0 where
  pub supervisor : SupervisorRow
  pub among : In supervisor ss
  pub source_is : supervisor.source ≡ u.source
  pub group_is : In u.group (groups_of supervisor)

abbrev pub is_published : SequenceRow → Bool
is_published u = same_state u.state States.Published

-- the ends of a published sequence reach its starts, and so do the offsets of each report; no two reports are of one task
pub record IsToldOnce (u : SequenceRow) : Type 0 where
  pub ends : is_published u ≡ true → reaches u.starts u.ends ≡ true
  pub told : AllByRecursion (λ r. reaches u.starts r.offsets ≡ true) u.reports
  pub once : Pairs (λ a b. bytes_eq a.task b.task ≡ false) u.reports

-- a task of the sequence has this id
pub record IsTaskOf (ts : List TaskRow) (u : SequenceRow) (task : List ℕ) : Type 0 where
  pub row : TaskRow
  pub among : In row ts
  pub task_is : row.task ≡ task
  pub group_is : row.group ≡ name_of u

-- a task of the sequence that hasn't ended
abbrev pub is_live_replica : SequenceRow → TaskRow → Bool
is_live_replica u t = bytes_eq t.group (name_of u) && not (has_ended t.status)

-- the live ones are the sequence's tasks that haven't ended, in the order of the list of tasks, and an unpublished sequence has one
pub record HasLive (ts : List TaskRow) (u : SequenceRow) : Type 0 where
  pub live : u.live ≡ map (λ t. t.task) (filter (is_live_replica u) ts)
  pub some : is_unpublished u.state ≡ true → is_empty u.live ≡ false

abbrev pub is_of_sequence : SequenceRow → Publication → Bool
is_of_sequence u m = bytes_eq m.group (name_of u)

abbrev pub has_ranges_of : SequenceRow → Option Ranges → Bool
has_ranges_of u None = false
has_ranges_of u (Some ranges) = are_ranges u.starts u.ends ranges.parts

-- a published sequence has one publication, from its starts to its ends, and any other has none
pub record IsPublishedOnce (pubs : List Publication) (u : SequenceRow) : Type 0 where
  pub once : count (is_of_sequence u) pubs ≡ cond (is_published u) 1 0
  pub ranges : (m : Publication) → In m pubs → is_of_sequence u m ≡ true → has_ranges_of u m.ranges ≡ true

pub record IsSoundSequence (b : Book) (u : SequenceRow) : Type 0 where
  pub supervised : IsSupervised b.supervisors u
  pub told : IsToldOnce u
  pub reporters : (r : Report) → In r u.reports → IsTaskOf b.tasks u r.task
  pub live : HasLive b.tasks u
  pub published : IsPublishedOnce b.publications u

-- ---- a group of a supervisor, with its sequences

-- the offsets of a sequence are those of its group's partitions
pub record IsOwn (ps : List ℕ) (u : SequenceRow) : Type 0 where
  pub starts : named u.starts ≡ ps
  pub ends : is_closed u ≡ true → reaches u.starts u.ends ≡ true

-- each starts where the one before it ends, the first of them here, and each but the last is closed
abbrev pub Chain : List Offset → List SequenceRow → Type 0
Chain at [] = Unit {0}
Chain at (u ∷ []) = u.starts ≡ at
Chain at (u ∷ v ∷ us) = (is_closed u ≡ true) × (u.starts ≡ at) × Chain u.ends (v ∷ us)

-- the indexes are, in row order, 0, 1 and so on; the unpublished ones go on from one another, the first from the stored offsets on
pub record IsSoundGroup (b : Book) (s : SupervisorRow) (group : ℕ) : Type 0 where
  pub counted : map (λ u. u.index) (of_group s group b.sequences) ≡ range_with_len 0 (length (of_group s group b.sequences))
  pub own : AllByRecursion (IsOwn (partitions_of s group)) (of_group s group b.sequences)
  pub chained : Chain (positions b.offsets s.source s.stream (partitions_of s group)) (open_rows s.source group b.sequences)

-- ---- a task that is named as those of sequences

-- the id or the group begins as those that the program makes itself
abbrev pub is_sup_task : TaskRow → Bool
is_sup_task t = begins_with sup_prefix t.task || begins_with sup_prefix t.group

-- a replica's id: one of the first numbers after the sequence's name
pub record IsReplicaId (ss : List SupervisorRow) (u : SequenceRow) (task : List ℕ) : Type 0 where
  pub supervisor : SupervisorRow
  pub among : In supervisor ss
  pub source_is : supervisor.source ≡ u.source
  pub number : ℕ
  pub below : number < supervisor.replicas
  pub task_is : task ≡ replica_name (name_of u) number

-- a task of a sequence of the book, as it was submitted
pub record IsReplica (ss : List SupervisorRow) (us : List SequenceRow) (t : TaskRow) : Type 0 where
  pub sequence : SequenceRow
  pub among : In sequence us
  pub id : IsReplicaId ss sequence t.task
  pub group_is : t.group ≡ name_of sequence
  pub source_is : t.source ≡ sequence.source
  pub kind_is : t.kind ≡ TaskKinds.Realtime
  pub wants_are : t.wants ≡ []

-- ---- a publication that is named as those of sequences

pub record IsGroupOfSequence (us : List SequenceRow) (group : List ℕ) : Type 0 where
  pub sequence : SequenceRow
  pub among : In sequence us
  pub group_is : group ≡ name_of sequence

-- ---- the whole

pub record AreSequencesSound (b : Book) : Type 0 where
  pub sequences : (u : SequenceRow) → In u b.sequences → IsSoundSequence b u
  pub groups : (s : SupervisorRow) → In s b.supervisors → (group : ℕ) → IsSoundGroup b s group
  pub replicas : (t : TaskRow) → In t b.tasks → is_sup_task t ≡ true → IsReplica b.supervisors b.sequences t
  pub compactions : (k : ℕ) (t : TaskRow) → at_place k b.tasks ≡ Some t → begins_with compact_prefix t.task ≡ true → t.task ≡ compact_name t.source k
  pub publications : (m : Publication) → In m b.publications → begins_with sup_prefix m.group ≡ true → IsGroupOfSequence b.sequences m.group
