-- A command that the core was given.
use Rattle.std.specs.Prelude.{◌≡◌, Option, Some}
use Rattle.book_rows.specs.Answer.{answer, changes, next}
use Rattle.book_rows.specs.declared.commands.Command.{Command}
use Rattle.book_rows.specs.declared.rows.Book.{Book}
use Rattle.book_core.specs.declared.outcomes.Outcome.{Outcome}

-- the reply, whether the book changes and the book after are those of the command on the book b
pub record IsActed (done : Outcome) (after : Option Book) (b : Book) (c : Command) : Type 0 where
  pub reply : done.reply ≡ answer b c
  pub changes : done.changes ≡ changes b c
  pub book : after ≡ Some (next b c)
