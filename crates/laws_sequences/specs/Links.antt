-- What is kept of supervisors and their sequences. Each part reads only the tables that it names.
use Rattle.std.specs.Prelude.{◌≡◌, List, bytes_eq, false, filter, length, map, nat_lt, true, ℕ}
use Rattle.std.specs.List.{AllByRecursion, list_all, range_with_len}
use Rattle.book_rows.specs.Lists.{In}
use Rattle.book_rows.specs.Names.{begins_with, sup_prefix}
use Rattle.book_rows.specs.Outcome.{row_limit}
use Rattle.book_rows.specs.SequenceRules.{Chain, IsGroupOfSequence, IsOwn, IsPublishedOnce, IsReplica, IsSupervised, is_sup_task}
use Rattle.book_rows.specs.Sequences.{is_of_group, open_rows, partitions_of, positions}
use Rattle.book_rows.specs.Shape.{AreDistinct, is_supervisor_row, same_supervisor}
use Rattle.book_rows.specs.declared.rows.Book.{Book}
use Rattle.book_rows.specs.declared.rows.OffsetRow.{OffsetRow}
use Rattle.book_rows.specs.declared.rows.Publication.{Publication}
use Rattle.book_rows.specs.declared.rows.SequenceRow.{SequenceRow}
use Rattle.book_rows.specs.declared.rows.SupervisorRow.{SupervisorRow}
use Rattle.book_rows.specs.declared.rows.TaskRow.{TaskRow}

-- the unpublished sequences of every group of a supervisor go on from one another, the first from the stored offsets on
abbrev pub AreChained : List OffsetRow → List SequenceRow → SupervisorRow → Type 0
AreChained rows us s = (group : ℕ) → Chain (positions rows s.source s.stream (partitions_of s group)) (open_rows s.source group us)

-- the offsets of a supervisor's sequences are those of their group's partitions
abbrev pub AreOwn : SupervisorRow → List SequenceRow → Type 0
AreOwn s us = AllByRecursion (λ u. bytes_eq u.source s.source ≡ true → IsOwn (partitions_of s u.group) u) us

-- the indexes of every group are, in row order, 0, 1 and so on
abbrev pub AreCounted : List SequenceRow → Type 0
AreCounted us = (source : List ℕ) (group : ℕ) → map (λ u. u.index) (filter (is_of_group source group) us) ≡ range_with_len 0 (length (filter (is_of_group source group) us))

-- the unpublished sequences of each group go on from one another, the first from the stored offsets on; their offsets are
-- those of the group's partitions, and the indexes of a group are counted from 0
pub record AreLinked (rows : List OffsetRow) (ss : List SupervisorRow) (us : List SequenceRow) : Type 0 where
  pub counted : AreCounted us
  pub chained : AllByRecursion (AreChained rows us) ss
  pub own : AllByRecursion (λ s. AreOwn s us) ss

-- supervisors are within their limits, and no two are of one source
pub record AreSupervisors (ss : List SupervisorRow) : Type 0 where
  pub rows : list_all is_supervisor_row ss ≡ true
  pub sources : AreDistinct same_supervisor ss
  pub room : nat_lt row_limit (length ss) ≡ false

-- there are not too many sequences, and each is of a supervisor's group
pub record AreSupervised (ss : List SupervisorRow) (us : List SequenceRow) : Type 0 where
  pub room : nat_lt row_limit (length us) ≡ false
  pub each : (u : SequenceRow) → In u us → IsSupervised ss u

-- a task whose id or group begins as those that the program makes itself is one of a sequence
abbrev pub AreReplicas : List SupervisorRow → List SequenceRow → List TaskRow → Type 0
AreReplicas ss us ts = (t : TaskRow) → In t ts → is_sup_task t ≡ true → IsReplica ss us t

-- a published sequence has one publication, from its starts to its ends, and any other has none; a publication that is named
-- as those of a sequence is one
pub record ArePublished (pubs : List Publication) (us : List SequenceRow) : Type 0 where
  pub each : (u : SequenceRow) → In u us → IsPublishedOnce pubs u
  pub groups : (m : Publication) → In m pubs → begins_with sup_prefix m.group ≡ true → IsGroupOfSequence us m.group

-- all of it
pub record AreInLine (ts : List TaskRow) (pubs : List Publication) (rows : List OffsetRow) (ss : List SupervisorRow) (us : List SequenceRow) : Type 0 where
  pub supervisors : AreSupervisors ss
  pub supervised : AreSupervised ss us
  pub linked : AreLinked rows ss us
  pub replicas : AreReplicas ss us ts
  pub published : ArePublished pubs us

abbrev pub HasLinks : Book → Type 0
HasLinks b = AreInLine b.tasks b.publications b.offsets b.supervisors b.sequences
