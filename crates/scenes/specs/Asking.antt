-- Short names for cases on tasks, locks and ids: times and hours of 2024-03-01, tasks by kind, group and priority, what they ask for, and rows of the book.
use Rattle.book_rows.specs.Answer.{changes, next}
use Rattle.book_rows.specs.declared.commands.Command.{Command}
use Rattle.book_rows.specs.declared.kinds.LockKind.{LockKind}
use Rattle.book_rows.specs.declared.replies.Reply.{Reply}
use Rattle.book_rows.specs.declared.rows.Book.{Book}
use Rattle.book_rows.specs.declared.rows.PosseRow.{PosseRow}
use Rattle.iv_span.specs.Extent.{Extent}
use Rattle.seg_names.specs.declared.seg_id.SegId.{SegId}
use Rattle.std.specs.Prelude.{List, None, [], codes, false, pos, ℕ, ℤ, ◌*◌, ◌+◌, ◌∷◌, ◌≡◌}
use Rattle.scenes.specs.Script.{alloc, lock, minutes, now, refuse, start, v, w, x, y}
use Rattle.book_rows.specs.declared.commands.Command.TheVariants as Commands
use Rattle.iv_time.specs.declared.granularity.Granularity.TheVariants as Granularities
use Rattle.book_rows.specs.declared.kinds.LockKind.TheVariants as LockKinds
use Rattle.book_rows.specs.declared.replies.Refusal.TheVariants as Refusals
use Rattle.book_rows.specs.declared.replies.Reply.TheVariants as Replies
use Rattle.book_rows.specs.declared.kinds.TaskKind.TheVariants as TaskKinds

-- one more task, and a group
abbrev pub d : List ℕ
d = codes "d"

abbrev pub g : List ℕ
g = codes "g"

-- from one full hour of 2024-03-01 to another
abbrev pub hours : ℕ → ℕ → Extent
hours from to = record { start = minutes (60 * from); end = minutes (60 * to) }

-- a time of that day, and the millisecond before it
abbrev pub time : ℕ → ℕ → ℤ
time h m = minutes (60 * h + m)

abbrev pub just_before : ℕ → ℕ → ℤ
just_before h m = pos (1709251199999 + (60 * h + m) * 60000)

-- so many milliseconds after the moment
abbrev pub now_plus : ℕ → ℤ
now_plus n = pos (1711929600000 + n)

-- ---- tasks

-- they run
abbrev pub realtime : List ℕ → List Command
realtime task = start task TaskKinds.Realtime

abbrev pub batch : List ℕ → List Command
batch task = start task TaskKinds.Batch

abbrev pub compaction : List ℕ → List Command
compaction task = start task TaskKinds.Compaction

-- a task of this group and priority, which waits
abbrev pub submit_to : List ℕ → List ℕ → ℕ → Command
submit_to group task priority = Commands.Submit task group w TaskKinds.Other priority []

-- it runs
abbrev pub runs_in : List ℕ → List ℕ → ℕ → List Command
runs_in group task priority = submit_to group task priority ∷ Commands.Manage now ∷ []

-- two of one group run
abbrev pub group_of_two : ℕ → List Command
group_of_two priority = submit_to g x priority ∷ runs_in g y priority

-- a batch task of the other source runs
abbrev pub batch_of_v : List ℕ → List Command
batch_of_v task = Commands.Submit task task v TaskKinds.Batch 50 [] ∷ Commands.Manage now ∷ []

-- ---- what they ask for

abbrev pub exclusive : List ℕ → Extent → Command
exclusive task span = lock task LockKinds.Exclusive span

abbrev pub shared : List ℕ → Extent → Command
shared task span = lock task LockKinds.Shared span

abbrev pub appending : List ℕ → Extent → Command
appending task span = lock task LockKinds.Append span

abbrev pub replacing : List ℕ → Extent → Command
replacing task span = lock task LockKinds.Replace span

abbrev pub exclusive_at : List ℕ → Extent → ℤ → Command
exclusive_at task span moment = Commands.Lock task LockKinds.Exclusive span moment

-- an id in an appending lock, of the hour that has the time
abbrev pub ask_hour : List ℕ → List ℕ → ℤ → Command
ask_hour task sequence at = alloc task LockKinds.Append sequence at Granularities.Hour

-- ids and tombstones of several spans
abbrev pub insert_all : List ℕ → List Extent → List SegId → List SegId → Command
insert_all task spans ids tombstones = Commands.Insert task spans ids tombstones None

-- ---- replies

abbrev pub granted : ℕ → Extent → ℤ → Reply
granted number span version = Replies.Lock number [] span version

abbrev pub conflict : ℕ → Reply
conflict number = refuse (Refusals.LockConflict number)

abbrev pub lost : ℕ → Reply
lost number = refuse (Refusals.LockRevoked number)

abbrev pub missing : Extent → Reply
missing span = refuse (Refusals.LockMissing span)

abbrev pub bad_span : Extent → Reply
bad_span span = refuse (Refusals.BadSpan span)

abbrev pub gets : SegId → ℕ → Reply
gets name number = Replies.Allocate name number []

-- ---- books and rows

-- the command changes nothing of the book
abbrev pub Leaves : Book → Command → Type 0
Leaves before command = (changes before command ≡ false) × (next before command ≡ before)

-- a lock of one task, before any publication
abbrev pub lock_row : ℕ → LockKind → List ℕ → Extent → ℤ → ℕ → PosseRow
lock_row number kind task span version priority = record {
  number = number;
  lock_kind = kind;
  group = task;
  source = w;
  span = span;
  version = version;
  priority = priority;
  members = task ∷ [];
  revoked = false;
  since = 0;
}

-- a lock of the group, with these members
abbrev pub group_row : ℕ → LockKind → List (List ℕ) → Extent → ℤ → ℕ → PosseRow
group_row number kind members span version priority = record (lock_row number kind g span version priority) { members = members }
