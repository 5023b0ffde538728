-- What the sequences come to as a task ends.
use Rattle.std.specs.Prelude.{None, Option, Some, []}
use Rattle.book_rows.specs.Reports.{Ended, ended}
use Rattle.book_rows.specs.declared.rows.Book.{Book}
use Rattle.book_rows.specs.declared.rows.TaskRow.{TaskRow}

-- the sequences after the task of this row ended, and the tasks that fail with them; no row ends nothing
abbrev pub ended_by_row : Option TaskRow → Book → Ended
ended_by_row None b = record { sequences = b.sequences; tasks = [] }
ended_by_row (Some t) b = ended t.group t.task b.clock b.sequences
