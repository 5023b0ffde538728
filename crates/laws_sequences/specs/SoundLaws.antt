-- Every command keeps the rule on supervisors' sequences, as a whole.
use Rattle.std.specs.Prelude.{List}
use Rattle.book_rows.specs.Answer.{book_after, empty_book, next}
use Rattle.book_rows.specs.Form.{AllKeepForm, KeepsForm}
use Rattle.book_rows.specs.Lists.{In}
use Rattle.book_rows.specs.SequenceRules.{AreSequencesSound, HasLive}
use Rattle.book_rows.specs.Sound.{Sound}
use Rattle.book_rows.specs.declared.commands.Command.{Command}
use Rattle.book_rows.specs.declared.rows.Book.{Book}
use Rattle.book_rows.specs.declared.rows.SequenceRow.{SequenceRow}
use Rattle.book_rows.specs.declared.rows.TaskRow.{TaskRow}
use Rattle.laws_locks.specs.LockShape.{AreTaskRows}
use Rattle.laws_sequences.specs.Links.{AreSupervised, AreSupervisors}

-- tasks are within their limits and of distinct ids; each sequence lists its tasks that haven't ended, and an unpublished one
-- has one
pub record AreLives (ts : List TaskRow) (us : List SequenceRow) : Type 0 where
  pub tasks : AreTaskRows ts
  pub live : (u : SequenceRow) → In u us → HasLive ts u

abbrev pub HasLives : Book → Type 0
HasLives b = AreLives b.tasks b.sequences

-- the limits and keys of the tables that the rule reads
pub record HasTables (b : Book) : Type 0 where
  pub tasks : AreTaskRows b.tasks
  pub supervisors : AreSupervisors b.supervisors
  pub supervised : AreSupervised b.supervisors b.sequences

abbrev pub CommandsKeepSequences : Type 0
CommandsKeepSequences = (b : Book) (c : Command) → KeepsForm c → HasTables b → AreSequencesSound b → HasTables (next b c) × AreSequencesSound (next b c)

abbrev pub SoundKeepsSequences : Type 0
SoundKeepsSequences = (b : Book) (c : Command) → KeepsForm c → Sound b → AreSequencesSound (next b c)

abbrev pub SequencesStaySound : Type 0
SequencesStaySound = (cs : List Command) → AllKeepForm cs → AreSequencesSound (book_after empty_book cs)
