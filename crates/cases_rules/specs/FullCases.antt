-- Limits of the tables of tasks and publications.
use Rattle.book_rows.specs.Answer.{answer, empty_book}
use Rattle.book_rows.specs.Outcome.{task_of}
use Rattle.book_rows.specs.Publications.{repeat_of}
use Rattle.book_rows.specs.declared.rows.Book.{Book}
use Rattle.book_rows.specs.declared.rows.Publication.{Publication}
use Rattle.book_rows.specs.declared.rows.TaskRow.{TaskRow}
use Rattle.std.specs.Prelude.{List, None, Some, [], length, ◌∷◌, ◌≡◌}
use Rattle.cases_rules.specs.InsertFaults.{day_taken}
use Rattle.cases_rules.specs.InsertedCases.{insert_day, no_since}
use Rattle.cases_rules.specs.LimitCases.{with_publications}
use Rattle.scenes.specs.Script.{after, a, day, drop, id, now, refuse, submit, w, x}
use Rattle.book_rows.specs.declared.kinds.PubKind.TheVariants as PubKinds
use Rattle.book_rows.specs.declared.replies.Refusal.TheVariants as Refusals
use Rattle.book_rows.specs.declared.replies.Reply.TheVariants as Replies
use Rattle.book_rows.specs.declared.kinds.TaskStatus.TheVariants as Statuses
use Rattle.book_rows.specs.declared.kinds.Table.TheVariants as Tables
use Rattle.book_rows.specs.declared.kinds.TaskKind.TheVariants as TaskKinds

-- the book with these tasks alone
abbrev pub with_tasks : List TaskRow → Book
with_tasks ts = record empty_book { tasks = ts }

-- beside 262,143 tasks one more is submitted
abbrev pub LastTask : Type 0
LastTask = (ts : List TaskRow) → task_of x ts ≡ None → length ts ≡ 262143 → answer (with_tasks ts) (submit x TaskKinds.Batch) ≡ Replies.Submit Statuses.Waiting x

-- beside 262,144 tasks none is
abbrev pub FullTasks : Type 0
FullTasks = (ts : List TaskRow) → task_of x ts ≡ None → length ts ≡ 262144 → answer (with_tasks ts) (submit x TaskKinds.Batch) ≡ refuse (Refusals.TableFull Tables.Tasks)

-- that the id is taken is told before that the table is full
abbrev pub TakenBeforeFull : Type 0
TakenBeforeFull =
    (ts : List TaskRow) (t : TaskRow) → task_of x ts ≡ Some t → length ts ≡ 262144 → answer (with_tasks ts) (submit x TaskKinds.Batch) ≡ refuse Refusals.TaskExists

-- after 262,143 publications a drop is let through
abbrev pub LastDrop : Type 0
LastDrop = (ms : List Publication) → length ms ≡ 262143 → answer (with_publications ms) (drop day) ≡ Replies.Drop 262143

-- after 262,144 publications none is
abbrev pub FullDrop : Type 0
FullDrop = (ms : List Publication) → length ms ≡ 262144 → answer (with_publications ms) (drop day) ≡ refuse (Refusals.TableFull Tables.Publications)

-- the day is locked, and these are the publications
abbrev pub day_and_publications : List Publication → Book
day_and_publications ms = record (after day_taken) { publications = ms }

abbrev pub of_day : Publication
of_day = record { kind = PubKinds.Over; group = a; source = w; spans = no_since day ∷ []; adds = id day now 0 ∷ []; empties = []; ranges = None }

-- after 262,143 publications, none of which it repeats, an insert is let through
abbrev pub LastInsert : Type 0
LastInsert = (ms : List Publication) → repeat_of of_day ms ≡ None → length ms ≡ 262143 → answer (day_and_publications ms) (insert_day a) ≡ Replies.Insert 262143

-- after 262,144 publications none is
abbrev pub FullInsert : Type 0
FullInsert = (ms : List Publication) → repeat_of of_day ms ≡ None → length ms ≡ 262144 → answer (day_and_publications ms) (insert_day a) ≡ refuse (Refusals.TableFull Tables.Publications)

-- a repeat is answered also where the table is full
abbrev pub RepeatBeforeFull : Type 0
RepeatBeforeFull = (ms : List Publication) → repeat_of of_day ms ≡ Some 7 → length ms ≡ 262144 → answer (day_and_publications ms) (insert_day a) ≡ Replies.Insert 7

-- a lock in the way of a drop is told before that the table is full
abbrev pub LockedBeforeFull : Type 0
LockedBeforeFull = (ms : List Publication) → length ms ≡ 262144 → answer (day_and_publications ms) (drop day) ≡ refuse (Refusals.DropLocked 1)
