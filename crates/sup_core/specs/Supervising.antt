-- Why no supervisor is added.
use Rattle.std.specs.Prelude.{◌+◌, List, None, Option, Some, cond, length, nat_lt, ℕ}
use Rattle.book_rows.specs.Outcome.{row_limit}
use Rattle.book_rows.specs.Sequences.{supervisor_of}
use Rattle.book_rows.specs.declared.kinds.Table.TheVariants as Tables
use Rattle.book_rows.specs.declared.rows.SupervisorRow.{SupervisorRow}
use Rattle.sup_core.specs.declared.answers.SupFault.{SupFault}
use Rattle.sup_core.specs.declared.answers.SupFault.TheVariants as Faults

-- the source has a supervisor, or there would be too many
abbrev pub supervise_by : Option SupervisorRow → ℕ → Option SupFault
supervise_by (Some s) count = Some Faults.Exists
supervise_by None count = cond (nat_lt row_limit (count + 1)) (Some (Faults.Full Tables.Supervisors)) None

abbrev pub supervise_fault : List ℕ → List SupervisorRow → Option SupFault
supervise_fault source ss = supervise_by (supervisor_of source ss) (length ss)
