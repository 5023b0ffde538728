-- Worked runs, in which the batch task `a` takes locks from the compaction `c`. The source is `w`, and the moment is 2024-04-01 everywhere.
use Rattle.std.specs.Prelude.{◌++◌, ◌∷◌, Bool, List, None, [], codes, false, map, pos, true, ℕ, ℤ}
use Rattle.iv_span.specs.Extent.{Extent}
use Rattle.iv_time.specs.declared.granularity.Granularity.TheVariants as Granularities
use Rattle.seg_names.specs.declared.seg_id.SegId.{SegId}
use Rattle.book_rows.specs.declared.commands.Command.{Command}
use Rattle.book_rows.specs.declared.commands.Command.TheVariants as Commands
use Rattle.book_rows.specs.declared.kinds.LockKind.{LockKind}
use Rattle.book_rows.specs.declared.kinds.LockKind.TheVariants as LockKinds
use Rattle.book_rows.specs.declared.kinds.TaskKind.{TaskKind}
use Rattle.book_rows.specs.declared.kinds.TaskKind.TheVariants as TaskKinds
use Rattle.book_rows.specs.declared.kinds.TaskStatus.TheVariants as Statuses
use Rattle.book_rows.specs.declared.rows.Book.{Book}
use Rattle.book_rows.specs.declared.rows.PosseRow.{PosseRow}
use Rattle.book_rows.specs.declared.rows.TaskRow.{TaskRow}
use Rattle.scenes.specs.Script.{w, a, c, hour, now, id, lock}
use Rattle.scenes.specs.Publishing.{replace_spans}

-- the hour before, and both
abbrev pub hour_before : Extent
hour_before = record { start = pos 1709265600000; end = pos 1709269200000 }

abbrev pub two_hours : Extent
two_hours = record { start = hour_before.start; end = hour.end }

-- ---- commands

abbrev pub submit : List ℕ → TaskKind → ℕ → Command
submit task kind priority = Commands.Submit task task w kind priority []

-- an id at 05:30 under an appending lock
abbrev pub alloc : List ℕ → Command
alloc task = Commands.Allocate task LockKinds.Append (codes "s") None (pos 1709271000000) Granularities.Hour now

-- an id at 04:30, of another sequence
abbrev pub alloc_before : List ℕ → Command
alloc_before task = Commands.Allocate task LockKinds.Append (codes "s1") None (pos 1709267400000) Granularities.Hour now

abbrev pub insert : List ℕ → List Extent → List SegId → Command
insert task spans ids = Commands.Insert task spans ids [] None

-- ---- runs

abbrev pub started : List Command
started = submit c TaskKinds.Compaction 25 ∷ submit a TaskKinds.Batch 50 ∷ Commands.Manage now ∷ []

-- the compaction has a pending under lock 1
abbrev pub allocated_run : List Command
allocated_run = started ++ alloc c ∷ []

-- the batch task takes the hour, by lock 2
abbrev pub revoked_run : List Command
revoked_run = allocated_run ++ lock a LockKinds.Exclusive hour ∷ []

-- both leave their locks
abbrev pub left_run : List Command
left_run = revoked_run ++ Commands.Unlock c 1 ∷ Commands.Unlock a 2 ∷ []

-- the compaction has a pending under lock 1, and the batch task replaces the hour by lock 2, with a copy of that
abbrev pub copied_run : List Command
copied_run = allocated_run ++ lock a LockKinds.Replace hour ∷ replace_spans a (hour ∷ []) (id hour now 0 ∷ []) ∷ []

-- the compaction has pendings under locks 1 and 2, and the batch task takes the later hour by lock 3
abbrev pub two_ids : List Command
two_ids = started ++ alloc c ∷ alloc_before c ∷ lock a LockKinds.Exclusive hour ∷ []

-- the compaction has a pending under lock 1 and replaces by lock 2, and the batch task takes the replacing by lock 3
abbrev pub known_run : List Command
known_run = allocated_run ++ lock c LockKinds.Replace hour ∷ lock a LockKinds.Replace hour ∷ []

-- the compaction has locks 1 and 2 of a kind on both hours, and the batch task takes the later one by lock 3
abbrev pub half_lost : LockKind → List Command
half_lost kind = started ++ lock c kind hour_before ∷ lock c kind hour ∷ lock a kind hour ∷ []

-- ---- rows

-- the compaction's row while it runs
abbrev pub c_row : TaskRow
c_row = record { task = c; group = c; source = w; kind = TaskKinds.Compaction; priority = 25; status = Statuses.Running; wants = [] }

-- a lock of the compaction, revoked
abbrev pub lost_row : ℕ → LockKind → ℤ → PosseRow
lost_row number kind version = record {
  number = number;
  lock_kind = kind;
  group = c;
  source = w;
  span = hour;
  version = version;
  priority = 25;
  members = c ∷ [];
  revoked = true;
  since = 0;
}

-- a lock of the batch task
abbrev pub a_row : ℕ → LockKind → Extent → ℤ → PosseRow
a_row number kind span version = record {
  number = number;
  lock_kind = kind;
  group = a;
  source = w;
  span = span;
  version = version;
  priority = 50;
  members = a ∷ [];
  revoked = false;
  since = 0;
}

abbrev pub numbers : Book → List ℕ
numbers b = map (λ q. q.number) b.posses

abbrev pub revocations : Book → List Bool
revocations b = map (λ q. q.revoked) b.posses

abbrev pub pending_ids : Book → List SegId
pending_ids b = map (λ p. p.id) b.pendings

abbrev pub pending_locks : Book → List ℕ
pending_locks b = map (λ p. p.posse) b.pendings
