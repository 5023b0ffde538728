-- What every command keeps of supervisors, their sequences and their tasks.
use Rattle.std.specs.Prelude.{List}
use Rattle.book_rows.specs.Answer.{book_after, empty_book, next}
use Rattle.book_rows.specs.Form.{AllKeepForm, KeepsForm}
use Rattle.book_rows.specs.Sound.{Sound}
use Rattle.book_rows.specs.declared.commands.Command.{Command}
use Rattle.book_rows.specs.declared.rows.Book.{Book}
use Rattle.laws_sequences.specs.Links.{AreLinked, HasLinks}
use Rattle.laws_sequences.specs.TickLaws.{HasOwnIds}

abbrev pub SoundHasLinks : Type 0
SoundHasLinks = (b : Book) → Sound b → HasLinks b

abbrev pub LinksGiveOwnIds : Type 0
LinksGiveOwnIds = (b : Book) → HasLinks b → HasOwnIds b

-- a command that keeps its form leads from a book whose sequences are in line to one
abbrev pub CommandsKeepLinks : Type 0
CommandsKeepLinks = (b : Book) (c : Command) → KeepsForm c → HasLinks b → HasLinks (next b c)

abbrev pub LinksStay : Type 0
LinksStay = (cs : List Command) → AllKeepForm cs → HasLinks (book_after empty_book cs)

-- so the sequences go on from one another
abbrev pub SequencesGoOn : Type 0
SequencesGoOn = (cs : List Command) → AllKeepForm cs → AreLinked (book_after empty_book cs).offsets (book_after empty_book cs).supervisors (book_after empty_book cs).sequences
