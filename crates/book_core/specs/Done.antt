-- A command that is done as the rules say.
use Rattle.std.specs.Prelude.{◌≡◌}
use Rattle.book_rows.specs.Outcome as rules
use Rattle.book_rows.specs.declared.rows.Book.{Book}
use Rattle.book_core.specs.declared.outcomes.Outcome.{Outcome}

-- the reply, whether the book changes and the book after are those of the outcome
pub record IsDone (done : Outcome) (after : Book) (o : rules.Outcome) : Type 0 where
  pub reply : done.reply ≡ o.reply
  pub changes : done.changes ≡ o.changes
  pub book : after ≡ o.book
