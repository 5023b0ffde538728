-- What the table keeps of its supervisors and sequences.
use Rattle.std.specs.Prelude.{◌<◌, ◌^◌, ◌≡◌, List, false, length, nat_lt, true}
use Rattle.std.specs.List.{AllByRecursion}
use Rattle.seg_names.specs.Names.{is_name}
use Rattle.book_rows.specs.Outcome.{row_limit}
use Rattle.laws_sequences.specs.Links.{AreCounted}
use Rattle.book_rows.specs.Shape.{AreDistinct, same_supervisor}
use Rattle.book_rows.specs.declared.rows.SequenceRow.{SequenceRow}
use Rattle.book_rows.specs.declared.rows.SupervisorRow.{SupervisorRow}
use Rattle.laws_sequences.specs.NameLaws.{IsKey}

-- a supervisor whose sequences have names that tell them
pub record HasGroups (s : SupervisorRow) : Type 0 where
  pub source_is : is_name s.source ≡ true
  pub groups_fit : s.task_count < 2 ^ 32

abbrev pub HasKey : SequenceRow → Type 0
HasKey u = IsKey u.source u.group u.index

-- no two supervisors are of one source, the indexes of a group are counted from 0, and names tell sequences apart
pub record AreKept (ss : List SupervisorRow) (us : List SequenceRow) : Type 0 where
  pub groups : AllByRecursion HasGroups ss
  pub sources : AreDistinct same_supervisor ss
  pub counted : AreCounted us
  pub keys : AllByRecursion HasKey us
  pub room : nat_lt row_limit (length us) ≡ false
