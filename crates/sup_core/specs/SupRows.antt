-- What the table of supervisors means.
use Rattle.std.specs.Prelude.{List}
use Rattle.book_rows.specs.declared.rows.SequenceRow.{SequenceRow}
use Rattle.book_rows.specs.declared.rows.SupervisorRow.{SupervisorRow}

-- the supervisors and the sequences, in the order in which they came
pub record SupRows : Type 0 where
  pub supervisors : List SupervisorRow
  pub sequences : List SequenceRow
