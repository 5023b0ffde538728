-- Worked cases of the laws on locks, in the day under its replacing lock: one id is appended with an upgrade row, and one is pending.
use Rattle.std.specs.Prelude.{◌∷◌, ◌≡◌, Bool, List, Ok, [], codes, false, pos, true, ℕ, ℤ}
use Rattle.iv_span.specs.Extent.{Extent}
use Rattle.book_rows.specs.Grant.{book_granted, counters_at, grant, grant_all}
use Rattle.book_rows.specs.Locks.{left_all_locks, left_lock}
use Rattle.book_rows.specs.declared.answers.Granted.{Granted}
use Rattle.book_rows.specs.declared.kinds.LockKind.TheVariants as LockKinds
use Rattle.book_rows.specs.declared.kinds.TaskKind.TheVariants as TaskKinds
use Rattle.book_rows.specs.declared.kinds.TaskStatus.TheVariants as Statuses
use Rattle.book_rows.specs.declared.rows.Book.{Book}
use Rattle.book_rows.specs.declared.rows.PosseRow.{PosseRow}
use Rattle.book_rows.specs.declared.rows.TaskRow.{TaskRow}
use Rattle.book_rows.specs.declared.rows.Want.{Want}
use Rattle.laws_chunks.specs.ChunksSound.{AreChunksSound}
use Rattle.cases_locks.specs.Day.{appended_under, day, hour, hour_id, pending_row, replacer, source, upgrade_row, want_hour, writer}
use Rattle.scenes.specs.Script.{after, now}
use Rattle.laws_chunks.specs.LockMoves.{IsGrant, granted, joined_locks, revoked}
use Rattle.laws_chunks.specs.OtherTables.{with_others}

abbrev pub under : Book
under = after appended_under

-- the rules hold of a book and of what a change makes of it
pub record AreBothSound (b c : Book) : Type 0 where
  pub before : AreChunksSound b
  pub changed : AreChunksSound c

abbrev pub append_lock : List (List ℕ) → Bool → PosseRow
append_lock members revoked = record {
  number = 1;
  lock_kind = LockKinds.Append;
  group = writer;
  source = source;
  span = hour;
  version = pos 0;
  priority = 75;
  members = members;
  revoked = revoked;
  since = 0;
}

abbrev pub replace_lock : Bool → PosseRow
replace_lock revoked = record {
  number = 2;
  lock_kind = LockKinds.Replace;
  group = replacer;
  source = source;
  span = day;
  version = now;
  priority = 25;
  members = replacer ∷ [];
  revoked = revoked;
  since = 0;
}

-- ---- locks are revoked and left

-- what a lock holds goes with it: the pending with the appending one, the upgrade row with the replacing one
pub record LocksAreLost : Type 0 where
  pub has_locks : under.posses ≡ append_lock (writer ∷ []) false ∷ replace_lock false ∷ []
  pub has_pending : under.pendings ≡ pending_row (hour_id 1) (hour_id 1) ∷ []
  pub has_upgrade : under.upgrades ≡ upgrade_row ∷ []
  pub revoked_both : AreBothSound under (revoked (1 ∷ 2 ∷ []) under)
  pub revoked_locks : (revoked (1 ∷ 2 ∷ []) under).posses ≡ append_lock (writer ∷ []) true ∷ replace_lock true ∷ []
  pub revoked_pendings : (revoked (1 ∷ 2 ∷ []) under).pendings ≡ []
  pub revoked_upgrades : (revoked (1 ∷ 2 ∷ []) under).upgrades ≡ []
  pub left_one : AreBothSound under (left_lock 1 writer under)
  pub left_locks : (left_lock 1 writer under).posses ≡ replace_lock false ∷ []
  pub left_pendings : (left_lock 1 writer under).pendings ≡ []
  pub left_upgrades : (left_lock 1 writer under).upgrades ≡ upgrade_row ∷ []
  pub left_all : AreBothSound under (left_all_locks replacer under)
  pub all_locks : (left_all_locks replacer under).posses ≡ append_lock (writer ∷ []) false ∷ []
  pub all_pendings : (left_all_locks replacer under).pendings ≡ pending_row (hour_id 1) (hour_id 1) ∷ []
  pub all_upgrades : (left_all_locks replacer under).upgrades ≡ []

-- ---- locks are joined and granted

abbrev pub third_hour : Extent
third_hour = record { start = pos 7200000; end = pos 10800000 }

-- a third lock: it appends in another hour of the day that is replaced
abbrev pub third_lock : PosseRow
third_lock = record {
  number = 3;
  lock_kind = LockKinds.Append;
  group = writer;
  source = source;
  span = third_hour;
  version = pos 0;
  priority = 75;
  members = writer ∷ [];
  revoked = false;
  since = 1;
}

-- a task of a priority above both, and what it wants
abbrev pub strong_row : TaskRow
strong_row = record { task = codes "x"; group = codes "x"; source = source; kind = TaskKinds.Batch; priority = 90; status = Statuses.Running; wants = [] }

abbrev pub want_third : Want
want_third = record { lock_kind = LockKinds.Shared; span = third_hour }

-- the n-th lock that it gets: the first of number 3, each of the next version
abbrev pub strong_lock : ℕ → ℤ → Want → PosseRow
strong_lock number version w = record {
  number = number;
  lock_kind = w.lock_kind;
  group = codes "x";
  source = source;
  span = w.span;
  version = version;
  priority = 90;
  members = codes "x" ∷ [];
  revoked = false;
  since = 1;
}

abbrev pub first_version : ℤ
first_version = pos 1711929600001

abbrev pub second_version : ℤ
second_version = pos 1711929600002

-- the hour is granted to it: both locks are revoked
abbrev pub one_granted : Granted
one_granted = record {
  locks = 3 ∷ [];
  joins = [];
  rows = strong_lock 3 first_version want_hour ∷ [];
  revoked = 1 ∷ 2 ∷ [];
  after = record { clock = now; last = first_version; next_lock = 4; since = 1 };
}

-- and so is the third hour, after it
abbrev pub two_granted : Granted
two_granted = record {
  locks = 3 ∷ 4 ∷ [];
  joins = [];
  rows = strong_lock 3 first_version want_hour ∷ strong_lock 4 second_version want_third ∷ [];
  revoked = 1 ∷ 2 ∷ [];
  after = record { clock = now; last = second_version; next_lock = 5; since = 1 };
}

pub record LocksAreGained : Type 0 where
  pub joined : AreBothSound under (joined_locks (1 ∷ []) (codes "x") under)
  pub joined_members : (joined_locks (1 ∷ []) (codes "x") under).posses ≡ append_lock (writer ∷ codes "x" ∷ []) false ∷ replace_lock false ∷ []
  pub is_grant : IsGrant under third_lock now
  pub third : AreBothSound under (granted third_lock now under)
  pub third_locks : (granted third_lock now under).posses ≡ append_lock (writer ∷ []) false ∷ replace_lock false ∷ third_lock ∷ []
  pub one_is : grant under.posses (counters_at under now) strong_row want_hour ≡ Ok one_granted
  pub one : AreBothSound under (book_granted under strong_row.task one_granted)
  pub one_locks : (book_granted under strong_row.task one_granted).posses ≡ append_lock (writer ∷ []) true ∷ replace_lock true ∷ strong_lock 3 first_version want_hour ∷ []
  pub one_pendings : (book_granted under strong_row.task one_granted).pendings ≡ []
  pub two_are : grant_all under.posses (counters_at under now) strong_row (want_hour ∷ want_third ∷ []) ≡ Ok two_granted
  pub two : AreBothSound under (book_granted under strong_row.task two_granted)
  pub two_locks : (book_granted under strong_row.task two_granted).posses ≡ append_lock (writer ∷ []) true ∷ replace_lock true ∷ strong_lock 3 first_version want_hour ∷ strong_lock 4 second_version want_third ∷ []
  pub two_upgrades : (book_granted under strong_row.task two_granted).upgrades ≡ []

-- ---- other tables

-- the clock goes on, and the tasks go
pub record OthersAreChanged : Type 0 where
  pub both : AreBothSound under (with_others first_version [] [] [] [] under)
  pub clock_is : (with_others first_version [] [] [] [] under).clock ≡ first_version
  pub tasks_are : (with_others first_version [] [] [] [] under).tasks ≡ []
  pub locks_are : (with_others first_version [] [] [] [] under).posses ≡ append_lock (writer ∷ []) false ∷ replace_lock false ∷ []
