-- Worked cases of the laws on tasks and locks: their premises are met, and what they say is seen in the rows.
use Rattle.std.specs.Prelude.{◌++◌, ◌∷◌, ◌≡◌, ◌≢◌, Bool, List, None, Ok, Some, [], codes, false, map, pos, true, ℕ, ℤ}
use Rattle.std.specs.List.{list_all}
use Rattle.iv_span.specs.Extent.{Extent, overlap}
use Rattle.iv_time.specs.Range.{is_instant}
use Rattle.iv_time.specs.declared.granularity.Granularity.TheVariants as Granularities
use Rattle.book_rows.specs.Answer.{next}
use Rattle.book_rows.specs.Form.{KeepsForm, is_want}
use Rattle.book_rows.specs.Grant.{book_granted, counters_at, grant_all}
use Rattle.book_rows.specs.Lists.{In, at_place}
use Rattle.book_rows.specs.Locks.{compatible, left_lock}
use Rattle.book_rows.specs.Outcome.{no_room}
use Rattle.book_rows.specs.Shape.{HasShape}
use Rattle.book_rows.specs.declared.answers.Granted.{Granted}
use Rattle.book_rows.specs.declared.commands.Command.{Command}
use Rattle.book_rows.specs.declared.commands.Command.TheVariants as Commands
use Rattle.book_rows.specs.declared.kinds.LockKind.TheVariants as LockKinds
use Rattle.book_rows.specs.declared.kinds.SeqState.TheVariants as States
use Rattle.book_rows.specs.declared.kinds.Table.TheVariants as Tables
use Rattle.book_rows.specs.declared.kinds.TaskKind.TheVariants as TaskKinds
use Rattle.book_rows.specs.declared.kinds.TaskStatus.{TaskStatus}
use Rattle.book_rows.specs.declared.kinds.TaskStatus.TheVariants as Statuses
use Rattle.book_rows.specs.declared.rows.Book.{Book}
use Rattle.book_rows.specs.declared.rows.PosseRow.{PosseRow}
use Rattle.book_rows.specs.declared.rows.TaskRow.{TaskRow}
use Rattle.book_rows.specs.declared.rows.Want.{Want}
use Rattle.cases_locks.specs.Day.{day, hour, want_hour}
use Rattle.laws_locks.specs.Commands.{HasPlaces, is_other, ticked_tasks}
use Rattle.laws_locks.specs.LockShape.{AreTaskRows, HasSoundLocks, IsLockShape}
use Rattle.laws_locks.specs.Moves.{IsMemberOfNone, ended_task}
use Rattle.laws_locks.specs.Runs.{IsCompatible}
use Rattle.scenes.specs.Script.{now, after}
use Rattle.scenes.specs.Publishing.{reset_nothing}
use Rattle.scenes.specs.Supervising.{r000}

-- ---- a source, three tasks, of which two are of one group, and spans

abbrev pub source : List ℕ
source = codes "w"

abbrev pub low : List ℕ
low = codes "low"

abbrev pub high : List ℕ
high = codes "high"

abbrev pub other : List ℕ
other = codes "other"

abbrev pub next_hour : Extent
next_hour = record { start = pos 3600000; end = pos 7200000 }

-- the version after that of the moment of the commands
abbrev pub next_version : ℤ
next_version = pos 1711929600001

abbrev pub of_day : Want
of_day = record { lock_kind = LockKinds.Exclusive; span = day }

-- ---- two locks, of which the first is revoked

-- one task wants the day, and two have a higher priority
abbrev pub submitted : List Command
submitted =
    Commands.Submit low low source TaskKinds.Batch 25 (of_day ∷ [])
    ∷ Commands.Submit high high source TaskKinds.Realtime 75 []
    ∷ Commands.Submit other high source TaskKinds.Realtime 75 []
    ∷ []

abbrev pub started : List Command
started = submitted ++ Commands.Manage now ∷ []

-- these two share a lock on the hour
abbrev pub locked : List Command
locked = started ++ Commands.Lock high LockKinds.Exclusive hour now ∷ []

abbrev pub shared : List Command
shared = locked ++ Commands.Lock other LockKinds.Exclusive hour now ∷ []

abbrev pub low_row : TaskStatus → TaskRow
low_row status = record { task = low; group = low; source = source; kind = TaskKinds.Batch; priority = 25; status = status; wants = of_day ∷ [] }

abbrev pub high_row : List ℕ → TaskStatus → TaskRow
high_row task status = record { task = task; group = high; source = source; kind = TaskKinds.Realtime; priority = 75; status = status; wants = [] }

abbrev pub low_lock : Bool → PosseRow
low_lock revoked = record { number = 1; lock_kind = LockKinds.Exclusive; group = low; source = source; span = day; version = now; priority = 25; members = low ∷ []; revoked = revoked; since = 0 }

abbrev pub high_lock : List (List ℕ) → PosseRow
high_lock members = record { number = 2; lock_kind = LockKinds.Exclusive; group = high; source = source; span = hour; version = next_version; priority = 75; members = members; revoked = false; since = 0 }

abbrev pub submit_last : Command
submit_last = Commands.Submit (codes "last") low source TaskKinds.Other 0 []

abbrev pub last_row : TaskRow
last_row = record { task = codes "last"; group = low; source = source; kind = TaskKinds.Other; priority = 0; status = Statuses.Waiting; wants = [] }

-- a command that keeps its form, on a book with sound locks, and the book after it has sound locks
pub record IsStep (b : Book) (c : Command) : Type 0 where
  pub form : KeepsForm c
  pub before : HasSoundLocks b
  pub after : HasSoundLocks (next b c)

-- the waiting task gets its lock, and loses it to a higher priority; then another task joins, and one is submitted
pub record LocksAreGranted : Type 0 where
  pub manage : IsStep (after submitted) (Commands.Manage now)
  pub granted : (after started).posses ≡ low_lock false ∷ []
  pub running : (after started).tasks ≡ low_row Statuses.Running ∷ high_row high Statuses.Running ∷ high_row other Statuses.Running ∷ []
  pub lock : IsStep (after started) (Commands.Lock high LockKinds.Exclusive hour now)
  pub revoked : (after locked).posses ≡ low_lock true ∷ high_lock (high ∷ []) ∷ []
  pub join : IsStep (after locked) (Commands.Lock other LockKinds.Exclusive hour now)
  pub joined : (after shared).posses ≡ low_lock true ∷ high_lock (high ∷ other ∷ []) ∷ []
  pub submit : IsStep (after shared) submit_last
  pub submitted_row : (next (after shared) submit_last).tasks ≡ low_row Statuses.Running ∷ high_row high Statuses.Running ∷ high_row other Statuses.Running ∷ last_row ∷ []

-- the revoked lock ends with its last member, and the other one keeps the task that is left
pub record LocksAreLeft : Type 0 where
  pub unlock : IsStep (after shared) (Commands.Unlock low 1)
  pub unlocked : (next (after shared) (Commands.Unlock low 1)).posses ≡ high_lock (high ∷ other ∷ []) ∷ []
  pub end : IsStep (after shared) (Commands.End high Statuses.Success)
  pub ended : (next (after shared) (Commands.End high Statuses.Success)).posses ≡ low_lock true ∷ high_lock (other ∷ []) ∷ []
  pub ended_row : (next (after shared) (Commands.End high Statuses.Success)).tasks ≡ low_row Statuses.Running ∷ high_row high Statuses.Success ∷ high_row other Statuses.Running ∷ []

-- ---- the small changes

-- leaving one lock, and leaving all of them with another status
pub record MovesAreMade : Type 0 where
  pub before : HasSoundLocks (after shared)
  pub left : HasSoundLocks (left_lock 2 high (after shared))
  pub left_is : (left_lock 2 high (after shared)).posses ≡ low_lock true ∷ high_lock (other ∷ []) ∷ []
  pub failed : HasSoundLocks (ended_task low Statuses.Failed (after shared))
  pub failed_is : (ended_task low Statuses.Failed (after shared)).posses ≡ high_lock (high ∷ other ∷ []) ∷ []
  pub of_none : IsMemberOfNone low (ended_task low Statuses.Failed (after shared))

-- two wants at once: the hour, and to append in the next hour
abbrev pub two_wants : List Want
two_wants = want_hour ∷ record { lock_kind = LockKinds.Append; span = next_hour } ∷ []

abbrev pub append_lock : ℕ → Extent → PosseRow
append_lock number span = record { number = number; lock_kind = LockKinds.Append; group = high; source = source; span = span; version = pos 0; priority = 75; members = high ∷ []; revoked = false; since = 0 }

-- both are granted, and the lock on the day is revoked
abbrev pub two_granted : Granted
two_granted = record {
  locks = 2 ∷ 3 ∷ [];
  joins = [];
  rows = high_lock (high ∷ []) ∷ append_lock 3 next_hour ∷ [];
  revoked = 1 ∷ [];
  after = record { clock = now; last = next_version; next_lock = 4; since = 0 };
}

pub record TwoAreGranted : Type 0 where
  pub before : HasSoundLocks (after started)
  pub among : In (high_row high Statuses.Running) (after started).tasks
  pub wants : list_all is_want two_wants ≡ true
  pub instant : is_instant now ≡ true
  pub granted : grant_all (after started).posses (counters_at (after started) now) (high_row high Statuses.Running) two_wants ≡ Ok two_granted
  pub room : no_room (Tables.Locks ∷ Tables.Numbers ∷ []) (book_granted (after started) high two_granted) ≡ None
  pub kept : HasSoundLocks (book_granted (after started) high two_granted)
  pub kept_is : (book_granted (after started) high two_granted).posses ≡ low_lock true ∷ high_lock (high ∷ []) ∷ append_lock 3 next_hour ∷ []

-- the whole shape of the book with both locks, and that of its tasks and locks
abbrev pub ShapeIsMet : Type 0
ShapeIsMet = HasShape (after shared) × IsLockShape (after shared)

-- ---- allocating, a step of the clock, and a reset

-- an id is allocated in the hour, and the lock on the day is revoked
abbrev pub allocated : List Command
allocated = started ++ Commands.Allocate high LockKinds.Append (codes "s") None (pos 0) Granularities.Hour now ∷ []

abbrev pub allocate_next : Command
allocate_next = Commands.Allocate high LockKinds.Append (codes "t") None (pos 3600000) Granularities.Hour now

-- a book with a pending, and an id more in the next hour
pub record AnIdIsAllocated : Type 0 where
  pub places : HasPlaces (after allocated)
  pub allocate : IsStep (after allocated) allocate_next
  pub before_is : (after allocated).posses ≡ low_lock true ∷ append_lock 2 hour ∷ []
  pub after_is : (next (after allocated) allocate_next).posses ≡ low_lock true ∷ append_lock 2 hour ∷ append_lock 3 next_hour ∷ []

-- a supervisor of one stream with one partition, one group and one replica
abbrev pub supervised : List Command
supervised = started ++ Commands.Supervise source (codes "t") 1 1 1 (pos 3600000) (pos 1800000) ∷ []

abbrev pub replica_row : TaskStatus → TaskRow
replica_row status = record { task = r000; group = codes "sup:w:0:0"; source = source; kind = TaskKinds.Realtime; priority = 75; status = status; wants = [] }

-- the tick's replica gets a lock, and the lock on the day is revoked
abbrev pub replica_locked : List Command
replica_locked = supervised ++ Commands.Tick now ∷ Commands.Manage now ∷ Commands.Lock r000 LockKinds.Append hour now ∷ []

abbrev pub replica_lock : PosseRow
replica_lock = record { number = 2; lock_kind = LockKinds.Append; group = codes "sup:w:0:0"; source = source; span = hour; version = pos 0; priority = 75; members = r000 ∷ []; revoked = false; since = 0 }

abbrev pub the_end : Command
the_end = Commands.End r000 Statuses.Failed

-- the tick adds the replica; the reset fails it, or it ends by itself: either way its lock ends and its sequence is abandoned
pub record AReplicaIsAdded : Type 0 where
  pub rows : AreTaskRows ((after supervised).tasks ++ ticked_tasks (after supervised) now)
  pub tick : IsStep (after supervised) (Commands.Tick now)
  pub ticked : ticked_tasks (after supervised) now ≡ replica_row Statuses.Waiting ∷ []
  pub publishes : is_other reset_nothing ≡ true
  pub reset : IsStep (after replica_locked) reset_nothing
  pub before_is : (after replica_locked).posses ≡ low_lock true ∷ replica_lock ∷ []
  pub after_is : (next (after replica_locked) reset_nothing).posses ≡ low_lock true ∷ []
  pub failed : (next (after replica_locked) reset_nothing).tasks ≡ low_row Statuses.Running ∷ high_row high Statuses.Running ∷ high_row other Statuses.Running ∷ replica_row Statuses.Failed ∷ []
  pub dropped : map (λ u. u.state) (next (after replica_locked) reset_nothing).sequences ≡ States.Abandoned ∷ []
  pub end : IsStep (after replica_locked) the_end
  pub ended_is : (next (after replica_locked) the_end).posses ≡ low_lock true ∷ []
  pub abandoned : map (λ u. u.state) (next (after replica_locked) the_end).sequences ≡ States.Abandoned ∷ []

-- an hour later its sequence pauses, and closes by its report; half an hour later it is late
abbrev pub an_hour_on : ℤ
an_hour_on = pos 1711933200000

abbrev pub late : ℤ
late = pos 1711935000000

abbrev pub reported : List Command
reported = replica_locked ++ Commands.Tick an_hour_on ∷ Commands.Paused r000 (record { partition = 0; offset = 10 } ∷ []) ∷ []

abbrev pub next_replica : TaskRow
next_replica = record { task = codes "sup:w:0:1:0"; group = codes "sup:w:0:1"; source = source; kind = TaskKinds.Realtime; priority = 75; status = Statuses.Waiting; wants = [] }

-- the tick fails the replica, whose lock ends, and adds that of the next sequence
pub record ALateReplicaFails : Type 0 where
  pub rows : AreTaskRows ((after reported).tasks ++ ticked_tasks (after reported) late)
  pub tick : IsStep (after reported) (Commands.Tick late)
  pub before_is : (after reported).posses ≡ low_lock true ∷ replica_lock ∷ []
  pub after_is : (next (after reported) (Commands.Tick late)).posses ≡ low_lock true ∷ []
  pub failed : (next (after reported) (Commands.Tick late)).tasks ≡ low_row Statuses.Running ∷ high_row high Statuses.Running ∷ high_row other Statuses.Running ∷ replica_row Statuses.Failed ∷ next_replica ∷ []

-- ---- compatible locks

-- a book whose two locks have one number; one of them is revoked
abbrev pub odd : Book
odd = record (after started) { posses = low_lock true ∷ low_lock false ∷ [] }

abbrev pub OddStaysCompatible : Type 0
OddStaysCompatible =
    IsCompatible odd
    × IsCompatible (next odd (Commands.Lock high LockKinds.Exclusive hour now))
    × ((next odd (Commands.Lock high LockKinds.Exclusive hour now)).posses ≡ low_lock true ∷ low_lock true ∷ high_lock (high ∷ []) ∷ [])

-- the day is replaced, and the hour is appended to
abbrev pub both : List Command
both =
    Commands.Submit low low source TaskKinds.Compaction 25 []
    ∷ Commands.Submit high high source TaskKinds.Realtime 75 []
    ∷ Commands.Manage now
    ∷ Commands.Lock low LockKinds.Replace day now
    ∷ Commands.Lock high LockKinds.Append hour now
    ∷ []

abbrev pub replace_lock : PosseRow
replace_lock = record { number = 1; lock_kind = LockKinds.Replace; group = low; source = source; span = day; version = now; priority = 25; members = low ∷ []; revoked = false; since = 0 }

-- both are valid and overlap, and are compatible; a revoked lock needn't be
pub record BothAreCompatible : Type 0 where
  pub first : at_place 0 (after both).posses ≡ Some replace_lock
  pub second : at_place 1 (after both).posses ≡ Some (append_lock 2 hour)
  pub differ : ◌≢◌ {A = ℕ} 0 1
  pub meet : overlap replace_lock.span (append_lock 2 hour).span ≡ true
  pub compatible_both : compatible replace_lock (append_lock 2 hour) ≡ true
  pub first_revoked : at_place 0 (after locked).posses ≡ Some (low_lock true)
  pub second_valid : at_place 1 (after locked).posses ≡ Some (high_lock (high ∷ []))
  pub not_compatible : compatible (low_lock true) (high_lock (high ∷ [])) ≡ false
