-- The ways to an outcome: what holds of each refusal, and of what is done where nothing is refused, holds of the outcome.
use Rattle.std.proofs.Common.{List, None, Option, Some, ℕ}
use Rattle.book_rows.specs.Outcome.{Outcome, changed, fitted, fitted_by, no_room, refused, repeated, running, running_as, unless}
use Rattle.book_rows.specs.PublishSteps.{published_or}
use Rattle.book_rows.specs.declared.kinds.Table.{Table}
use Rattle.book_rows.specs.declared.kinds.TaskStatus.{TaskStatus}
use Rattle.book_rows.specs.declared.replies.Refusal.{Refusal}
use Rattle.book_rows.specs.declared.replies.Reply.{Reply}
use Rattle.book_rows.specs.declared.rows.Book.{Book}
use Rattle.book_rows.specs.declared.rows.TaskRow.{TaskRow}
use Rattle.book_rows.specs.declared.kinds.TaskStatus.TheVariants as Statuses
use Rattle.book_rows.specs.declared.replies.Refusal.TheVariants as Refusals

module _ (P : Outcome → Type 0) (b : Book) (refuses : (why : Refusal) → P (refused b why)) where
  pub by_unless : (why : Option Refusal) (o : Outcome) → P o → P (unless why b o)
  by_unless (Some why) o g = refuses why
  by_unless None o g = g

  by_table : (table : Option Table) (o : Outcome) → P o → P (fitted_by table b o)
  by_table (Some table) o g = refuses (Refusals.TableFull table)
  by_table None o g = g

  pub by_fitted : (tables : List Table) (after : Book) (reply : Reply) → P (changed after reply) → P (fitted tables b after reply)
  by_fitted tables after reply g = by_table (no_room tables after) (changed after reply) g

  by_status : (status : TaskStatus) (o : Outcome) → P o → P (running_as status b o)
  by_status Statuses.Waiting o g = refuses (Refusals.TaskNotRunning Statuses.Waiting)
  by_status Statuses.Running o g = g
  by_status Statuses.Success o g = refuses (Refusals.TaskNotRunning Statuses.Success)
  by_status Statuses.Failed o g = refuses (Refusals.TaskNotRunning Statuses.Failed)

  pub by_task : (t : Option TaskRow) (f : TaskRow → Outcome) → ((t : TaskRow) → P (f t)) → P (running t b f)
  by_task None f g = refuses Refusals.TaskUnknown
  by_task (Some t) f g = by_status t.status (f t) (g t)

  pub by_publish : ((reply : Reply) → P (repeated b reply)) → (k : Option ℕ) (status : TaskStatus) (reply : ℕ → Reply) (o : Outcome) → P o → P (published_or k b status reply o)
  by_publish repeats (Some k) status reply o g = repeats (reply k)
  by_publish repeats None status reply o g = by_status status o g
