-- What a command makes of the book: the reply, whether the book changes, and the book after.
use Rattle.std.specs.Prelude.{◌∷◌, Bool, Err, List, None, Ok, Option, Result, Some, [], bytes_eq, false, find, length, nat_lt, true, ℕ}
use Rattle.std.specs.List.{list_any}
use Rattle.book_rows.specs.declared.kinds.Table.{Table}
use Rattle.book_rows.specs.declared.kinds.TaskStatus.{TaskStatus}
use Rattle.book_rows.specs.declared.limits.TheConstants.{NUMBER_LIMIT, PART_LIMIT, ROW_LIMIT}
use Rattle.book_rows.specs.declared.replies.Refusal.{Refusal}
use Rattle.book_rows.specs.declared.replies.Reply.{Reply}
use Rattle.book_rows.specs.declared.rows.Book.{Book}
use Rattle.book_rows.specs.declared.rows.TaskRow.{TaskRow}
use Rattle.book_rows.specs.declared.replies.Refusal.TheVariants as Refusals
use Rattle.book_rows.specs.declared.replies.Reply.TheVariants as Replies
use Rattle.book_rows.specs.declared.kinds.TaskStatus.TheVariants as Statuses
use Rattle.book_rows.specs.declared.kinds.Table.TheVariants as Tables

pub record Outcome : Type 0 where
  pub reply : Reply
  pub changes : Bool
  pub book : Book

-- ---- the three ways to an outcome: only the last changes the book

abbrev pub refused : Book → Refusal → Outcome
refused b why = record { reply = Replies.Refused why; changes = false; book = b }

-- an answer that changes nothing: a question, or a command that was done before
abbrev pub repeated : Book → Reply → Outcome
repeated b reply = record { reply = reply; changes = false; book = b }

abbrev pub changed : Book → Reply → Outcome
changed after reply = record { reply = reply; changes = true; book = after }

-- a refusal where there is one, else the outcome
abbrev pub unless : Option Refusal → Book → Outcome → Outcome
unless (Some why) b o = refused b why
unless None b o = o

-- a refusal, or what is done with what was found
abbrev pub refused_or : {X : Type 0} → Result X Refusal → Book → (X → Outcome) → Outcome
refused_or (Err why) b f = refused b why
refused_or (Ok x) b f = f x

-- ---- limits of the tables, tested last

abbrev pub row_limit : ℕ
row_limit = ROW_LIMIT

abbrev pub part_limit : ℕ
part_limit = PART_LIMIT

-- the greatest number that the lock after the last one may have
abbrev pub number_limit : ℕ
number_limit = NUMBER_LIMIT

-- the table has too many rows, or the number is too great
abbrev pub is_full : Table → Book → Bool
is_full Tables.Tasks b = nat_lt row_limit (length b.tasks)
is_full Tables.Locks b = nat_lt row_limit (length b.posses)
is_full Tables.Numbers b = nat_lt number_limit b.next_lock
is_full Tables.Chunks b = nat_lt row_limit (length b.chunks)
is_full Tables.Parts b = list_any (λ c. nat_lt part_limit c.next) b.chunks
is_full Tables.Segments b = nat_lt row_limit (length b.segments)
is_full Tables.Pendings b = nat_lt row_limit (length b.pendings)
is_full Tables.Upgrades b = nat_lt row_limit (length b.upgrades)
is_full Tables.Publications b = nat_lt row_limit (length b.publications)
is_full Tables.Offsets b = nat_lt row_limit (length b.offsets)
is_full Tables.Supervisors b = nat_lt row_limit (length b.supervisors)
is_full Tables.Sequences b = nat_lt row_limit (length b.sequences)

-- the first of these tables that is too full
abbrev pub no_room : List Table → Book → Option Table
no_room tables b = find (λ table. is_full table b) tables

-- all tables, in the order in which they are tested
abbrev pub all_tables : List Table
all_tables =
    Tables.Tasks ∷ Tables.Locks ∷ Tables.Numbers ∷ Tables.Chunks ∷ Tables.Parts ∷ Tables.Segments ∷ Tables.Pendings ∷ Tables.Upgrades
    ∷ Tables.Publications ∷ Tables.Offsets ∷ Tables.Supervisors ∷ Tables.Sequences ∷ []

abbrev pub fitted_by : Option Table → Book → Outcome → Outcome
fitted_by (Some table) b o = refused b (Refusals.TableFull table)
fitted_by None b o = o

-- the book after, where the tables that the command adds to have room for it; no other table can be too full after it
abbrev pub fitted : List Table → Book → Book → Reply → Outcome
fitted tables b after reply = fitted_by (no_room tables after) b (changed after reply)

-- ---- the task that a command names

abbrev pub task_of : List ℕ → List TaskRow → Option TaskRow
task_of task ts = find (λ t. bytes_eq t.task task) ts

abbrev pub running_as : TaskStatus → Book → Outcome → Outcome
running_as Statuses.Running b o = o
running_as status b o = refused b (Refusals.TaskNotRunning status)

-- what is done for a running task
abbrev pub running : Option TaskRow → Book → (TaskRow → Outcome) → Outcome
running None b f = refused b Refusals.TaskUnknown
running (Some t) b f = running_as t.status b (f t)
