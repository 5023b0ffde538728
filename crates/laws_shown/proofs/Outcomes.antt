-- An outcome that changes the book is that of the command's last case.
use Rattle.std.proofs.Common.{None, Option, Some, refl, true, ℕ, ◌≡◌}
use Rattle.std.proofs.lemmas.Bool.{false≢true}
use Rattle.book_rows.specs.Outcome.{Outcome, fitted_by, running_as, unless}
use Rattle.book_rows.specs.PublishSteps.{published_or}
use Rattle.book_rows.specs.declared.kinds.Table.{Table}
use Rattle.book_rows.specs.declared.kinds.TaskStatus.{TaskStatus}
use Rattle.book_rows.specs.declared.replies.Refusal.{Refusal}
use Rattle.book_rows.specs.declared.replies.Reply.{Reply}
use Rattle.book_rows.specs.declared.rows.Book.{Book}
use Rattle.book_rows.specs.declared.kinds.TaskStatus.TheVariants as Statuses

-- the outcome is this one, which changes the book
pub record IsDone (o x : Outcome) : Type 0 where
  pub outcome_is : o ≡ x
  pub done : x.changes ≡ true

pub unless_done : (why : Option Refusal) (b : Book) (o : Outcome) → (unless why b o).changes ≡ true → IsDone (unless why b o) o × (why ≡ None)
unless_done (Some why) b o h = absurd (false≢true h)
unless_done None b o h = (record { outcome_is = refl; done = h }, refl)

pub fitted_done : (table : Option Table) (b : Book) (o : Outcome) → (fitted_by table b o).changes ≡ true → IsDone (fitted_by table b o) o
fitted_done (Some table) b o h = absurd (false≢true h)
fitted_done None b o h = record { outcome_is = refl; done = h }

pub running_done : (status : TaskStatus) (b : Book) (o : Outcome) → (running_as status b o).changes ≡ true → IsDone (running_as status b o) o
running_done Statuses.Waiting b o h = absurd (false≢true h)
running_done Statuses.Running b o h = record { outcome_is = refl; done = h }
running_done Statuses.Success b o h = absurd (false≢true h)
running_done Statuses.Failed b o h = absurd (false≢true h)

pub published_done : (k : Option ℕ) (b : Book) (status : TaskStatus) (reply : ℕ → Reply) (o : Outcome) → (published_or k b status reply o).changes ≡ true → IsDone (published_or k b status reply o) o
published_done (Some k) b status reply o h = absurd (false≢true h)
published_done None b status reply o h = running_done status b o h
