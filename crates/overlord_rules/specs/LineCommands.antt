-- The commands of lines, and their spellings.
use Rattle.std.specs.Prelude.{◌≡◌, ℕ, true, List, ◌∷◌, ◌++◌, Some}
use Rattle.book_rows.specs.Answer.{changes}
use Rattle.book_rows.specs.Form.{keeps_form}
use Rattle.book_rows.specs.declared.commands.Command.{Command}
use Rattle.book_rows.specs.declared.rows.Book.{Book}
use Rattle.cmd_codec.specs.Records.{IsSpelled, commands_of}
use Rattle.cmd_codec.specs.Spelling.{spelling}
use Rattle.cmd_words.specs.Lines.{CommandOf}

-- the command that a line is keeps its form
abbrev pub LinesKeepForm : Type 0
LinesKeepForm = (line : List ℕ) (c : Command) → CommandOf line ≡ Some c → keeps_form c ≡ true

-- a command that keeps its form and changes a book has a spelling
abbrev pub CommandsAreSpelled : Type 0
CommandsAreSpelled = (b : Book) (c : Command) → keeps_form c ≡ true → changes b c ≡ true → IsSpelled c

-- a spelling before a record reads as its command and then those of the record
abbrev pub SpellingsJoin : Type 0
SpellingsJoin = (c : Command) (more : List ℕ) (cs : List Command) → IsSpelled c → commands_of more ≡ Some cs → commands_of (spelling c ++ more) ≡ Some (c ∷ cs)
