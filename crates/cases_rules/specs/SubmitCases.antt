-- Submitting: what a new task has, and that an id is taken for good.
use Rattle.book_rows.specs.Answer.{answer, changes, empty_book, next}
use Rattle.book_rows.specs.Kinds.{default_priority}
use Rattle.book_rows.specs.declared.commands.Command.{Command}
use Rattle.book_rows.specs.declared.rows.Book.{Book}
use Rattle.book_rows.specs.declared.rows.TaskRow.{TaskRow}
use Rattle.std.specs.Prelude.{[], true, ◌++◌, ◌∷◌, ◌≡◌}
use Rattle.scenes.specs.Asking.{Leaves, batch, g}
use Rattle.scenes.specs.Script.{after, v, Answers, a, day, fail, hour, refuse, submit, x, y}
use Rattle.cases_rules.specs.TaskCases.{task_line_of, wants}
use Rattle.book_rows.specs.declared.commands.Command.TheVariants as Commands
use Rattle.book_rows.specs.declared.kinds.LockKind.TheVariants as LockKinds
use Rattle.book_rows.specs.declared.replies.Refusal.TheVariants as Refusals
use Rattle.book_rows.specs.declared.replies.Reply.TheVariants as Replies
use Rattle.book_rows.specs.declared.kinds.TaskStatus.TheVariants as Statuses
use Rattle.book_rows.specs.declared.kinds.TaskKind.TheVariants as TaskKinds
use Rattle.book_rows.specs.declared.commands.What.TheVariants as Whats

-- ---- what a task is given

-- each kind of task has its own priority, where none is named
abbrev pub DefaultPriorities : Type 0
DefaultPriorities =
    (default_priority TaskKinds.Realtime ≡ 75)
    × (default_priority TaskKinds.Batch ≡ 50)
    × (default_priority TaskKinds.Compaction ≡ 25)
    × (default_priority TaskKinds.Other ≡ 0)

-- a task with a group, a source, a priority and wants of its own
abbrev pub wants_two : Command
wants_two = Commands.Submit x g v TaskKinds.Other 7 (wants LockKinds.Shared hour ∷ wants LockKinds.Append day ∷ [])

abbrev pub row_wanting_two : TaskRow
row_wanting_two = record {
  task = x;
  group = g;
  source = v;
  kind = TaskKinds.Other;
  priority = 7;
  status = Statuses.Waiting;
  wants = wants LockKinds.Shared hour ∷ wants LockKinds.Append day ∷ [];
}

-- a submitted task waits with all that it was given, and nothing else of the book changes
abbrev pub SubmittedWaits : Type 0
SubmittedWaits =
    (answer empty_book wants_two ≡ Replies.Submit Statuses.Waiting x)
    × (changes empty_book wants_two ≡ true)
    × (next empty_book wants_two ≡ record empty_book { tasks = row_wanting_two ∷ [] })

-- tasks stand in the order in which they were submitted, those that run or have ended too
abbrev pub SubmittedLast : Type 0
SubmittedLast =
    Answers (batch y ++ (submit x TaskKinds.Batch ∷ fail x ∷ submit a TaskKinds.Other ∷ [])) (Commands.Show Whats.Tasks ∷ [])
    (Replies.Tasks (task_line_of y 50 Statuses.Running ∷ task_line_of x 50 Statuses.Failed ∷ task_line_of a 0 Statuses.Waiting ∷ []) ∷ [])

-- ---- an id is given once

abbrev pub ended_task : Book
ended_task = after (submit x TaskKinds.Batch ∷ fail x ∷ [])

-- an id is taken for good, also by a task that has ended, and whatever else the new one has
abbrev pub IdIsTaken : Type 0
IdIsTaken =
    (answer ended_task (submit x TaskKinds.Realtime) ≡ refuse Refusals.TaskExists)
    × Leaves ended_task (submit x TaskKinds.Realtime)
    × (answer ended_task wants_two ≡ refuse Refusals.TaskExists)
