-- What every command keeps of what the replicas have reported, and of the ids of compactions.
use Rattle.std.specs.Prelude.{◌≡◌, List, Some, true, ℕ}
use Rattle.std.specs.List.{AllByRecursion}
use Rattle.book_rows.specs.Answer.{book_after, empty_book, next}
use Rattle.book_rows.specs.Form.{AllKeepForm, KeepsForm}
use Rattle.book_rows.specs.Lists.{In, at_place}
use Rattle.book_rows.specs.Names.{begins_with, compact_name, compact_prefix}
use Rattle.book_rows.specs.SequenceRules.{IsTaskOf, IsToldOnce}
use Rattle.book_rows.specs.Sound.{Sound}
use Rattle.book_rows.specs.declared.commands.Command.{Command}
use Rattle.book_rows.specs.declared.rows.Book.{Book}
use Rattle.book_rows.specs.declared.rows.Report.{Report}
use Rattle.book_rows.specs.declared.rows.SequenceRow.{SequenceRow}
use Rattle.book_rows.specs.declared.rows.TaskRow.{TaskRow}
use Rattle.laws_sequences.specs.Links.{HasLinks}

-- each report is of a task of its sequence and reaches the sequence's starts, and no two are of one task; so do the ends of a
-- published sequence
pub record AreTold (ts : List TaskRow) (us : List SequenceRow) : Type 0 where
  pub told : AllByRecursion IsToldOnce us
  pub reporters : (u : SequenceRow) (r : Report) → In u us → In r u.reports → IsTaskOf ts u r.task

-- a task whose id begins as that of a compaction is named after its source and its place
abbrev pub AreCompactions : List TaskRow → Type 0
AreCompactions ts = (k : ℕ) (t : TaskRow) → at_place k ts ≡ Some t → begins_with compact_prefix t.task ≡ true → t.task ≡ compact_name t.source k

pub record AreReported (ts : List TaskRow) (us : List SequenceRow) : Type 0 where
  pub told : AreTold ts us
  pub compactions : AreCompactions ts

abbrev pub HasReports : Book → Type 0
HasReports b = AreReported b.tasks b.sequences

abbrev pub SoundHasReports : Type 0
SoundHasReports = (b : Book) → Sound b → HasReports b

abbrev pub CommandsKeepReports : Type 0
CommandsKeepReports = (b : Book) (c : Command) → KeepsForm c → HasLinks b → HasReports b → HasReports (next b c)

abbrev pub ReportsStay : Type 0
ReportsStay = (cs : List Command) → AllKeepForm cs → HasReports (book_after empty_book cs)
