-- Lines as the commands in them.
use Rattle.std.specs.Prelude.{◌≡◌, List, [], ◌∷◌, Option, Some, None, ℕ}
use Rattle.book_rows.specs.Answer.{book_after, reached}
use Rattle.book_rows.specs.declared.commands.Command.{Command}
use Rattle.book_rows.specs.declared.rows.Book.{Book}
use Rattle.cmd_words.specs.Lines.{CommandOf}
use Rattle.machine_run.specs.LineItems.{LineItem, short, long}
use Rattle.machine_run.specs.Rules.{state_after}
use Rattle.machine_run.specs.Stores.{is_state, store_of}
use Rattle.overlord_rules.specs.OverlordRules.{overlord_rules}
use Rattle.book_rows.specs.Form.{AllKeepForm}

-- the command that a line is, if it is one
abbrev pub command_in : LineItem → Option Command
command_in (short line) = CommandOf line
command_in (long size) = None

abbrev pub first_of : Option Command → List Command → List Command
first_of None cs = cs
first_of (Some c) cs = c ∷ cs

-- the commands in lines, in their order
abbrev pub commands_in : List LineItem → List Command
commands_in [] = []
commands_in (line ∷ lines) = first_of (command_in line) (commands_in lines)

-- lines lead where the commands in them lead, each of which keeps its form
pub record LeadAsCommands (b : Book) (lines : List LineItem) : Type 0 where
  pub forms : AllKeepForm (commands_in lines)
  pub book : state_after overlord_rules b lines ≡ book_after b (commands_in lines)

abbrev pub LinesLeadAsCommands : Type 0
LinesLeadAsCommands = (b : Book) (lines : List LineItem) → LeadAsCommands b lines

-- a book that commands reach from the empty one, each of which keeps its form
pub record IsReached (b : Book) : Type 0 where
  pub commands : List Command
  pub forms : AllKeepForm commands
  pub book : b ≡ reached commands

-- the book that the bytes of two files stand for
abbrev pub StoreBooksAreReached : Type 0
StoreBooksAreReached = (first second : List ℕ) (b : Book) → store_of overlord_rules first second ≡ is_state b → IsReached b

-- the book behind lines of a run over a store
abbrev pub RunsReach : Type 0
RunsReach = (first second : List ℕ) (b : Book) (lines : List LineItem) → store_of overlord_rules first second ≡ is_state b → IsReached (state_after overlord_rules b lines)
