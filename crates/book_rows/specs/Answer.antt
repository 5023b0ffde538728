-- The rules as a whole: what a command answers, whether it changes the book, and the book after.
use Rattle.std.specs.Prelude.{◌≡◌, ◌∷◌, Bool, List, [], false, pos, true}
use Rattle.iv_time.specs.Range.{first_instant}
use Rattle.book_rows.specs.LockSteps.{allocated, locked, unlocked}
use Rattle.book_rows.specs.Outcome.{Outcome, repeated, running, task_of}
use Rattle.book_rows.specs.Over.{Inserting, Replacing}
use Rattle.book_rows.specs.Publications.{appending, in_spans}
use Rattle.book_rows.specs.PublishSteps.{appended, asked, dropped, over_step, reset_step}
use Rattle.book_rows.specs.Sequences.{supervisor_of}
use Rattle.book_rows.specs.ShowSteps.{shown_of}
use Rattle.book_rows.specs.SupSteps.{report_step, supervised, tick_step}
use Rattle.book_rows.specs.TaskSteps.{end_of_task, manage_outcome, managed, submitted, waiting_row}
use Rattle.book_rows.specs.declared.commands.Command.{Command}
use Rattle.book_rows.specs.declared.replies.Reply.{Reply}
use Rattle.book_rows.specs.declared.rows.Book.{Book}
use Rattle.book_rows.specs.declared.commands.Command.TheVariants as Commands

-- the outcome of a command, by its form
abbrev pub step : Book → Command → Outcome
step b (Commands.Submit task group source kind priority locks) = submitted (task_of task b.tasks) b (waiting_row task group source kind priority locks)
step b (Commands.Manage now) = manage_outcome (managed b now)
step b (Commands.Lock task lock_kind span now) = running (task_of task b.tasks) b (locked b (record { lock_kind = lock_kind; span = span }) now)
step b (Commands.Unlock task lock) = unlocked (task_of task b.tasks) b task lock
step b (Commands.Allocate task lock_kind sequence previous at granularity now) =
    running (task_of task b.tasks) b (allocated b (record {
      lock_kind = lock_kind;
      sequence = sequence;
      previous = previous;
      at = at;
      granularity = granularity;
      now = now;
    }))
step b (Commands.Append task ids ranges) = appended (task_of task b.tasks) b (appending ids ranges)
step b (Commands.Insert task spans ids tombstones ranges) = over_step Inserting (task_of task b.tasks) b (in_spans spans ids tombstones ranges)
step b (Commands.Replace task spans ids tombstones ranges) = over_step Replacing (task_of task b.tasks) b (in_spans spans ids tombstones ranges)
step b (Commands.End task status) = end_of_task (task_of task b.tasks) b status
step b (Commands.Drop source span) = dropped b source span
step b (Commands.Reset source stream offsets) = reset_step b source stream offsets
step b (Commands.Supervise source stream partitions task_count replicas task_duration completion_timeout) =
    supervised (supervisor_of source b.supervisors) b (record {
      source = source;
      stream = stream;
      partitions = partitions;
      task_count = task_count;
      replicas = replicas;
      duration = task_duration;
      timeout = completion_timeout;
    })
step b (Commands.Tick now) = tick_step b now
step b (Commands.Paused task offsets) = running (task_of task b.tasks) b (report_step false b offsets)
step b (Commands.Checkpoint task offsets) = running (task_of task b.tasks) b (report_step true b offsets)
step b (Commands.ToReplace task span) = running (task_of task b.tasks) b (asked b span)
step b (Commands.Show what) = repeated b (shown_of b what)

abbrev pub answer : Book → Command → Reply
answer b c = (step b c).reply

abbrev pub changes : Book → Command → Bool
changes b c = (step b c).changes

abbrev pub next : Book → Command → Book
next b c = (step b c).book

-- where a command doesn't change the book, the book after is the book before
abbrev pub StaysWhereUnchanged : Type 0
StaysWhereUnchanged = (b : Book) (c : Command) → changes b c ≡ false → next b c ≡ b

-- ---- lists of commands

-- the replies, each on the book after the commands before
abbrev pub answers : Book → List Command → List Reply
answers b [] = []
answers b (c ∷ cs) = (step b c).reply ∷ answers (step b c).book cs

abbrev pub book_after : Book → List Command → Book
book_after b [] = b
book_after b (c ∷ cs) = book_after (step b c).book cs

-- the book without rows
abbrev pub empty_book : Book
empty_book = record {
  clock = first_instant;
  last = pos 0;
  next_lock = 1;
  tasks = [];
  posses = [];
  chunks = [];
  segments = [];
  pendings = [];
  upgrades = [];
  publications = [];
  offsets = [];
  supervisors = [];
  sequences = [];
}

-- the book after these commands, from the one without rows
abbrev pub reached : List Command → Book
reached cs = book_after empty_book cs
