-- The shape of the tasks and locks of a book. Each part reads only the tables that it names, so a change of other tables leaves it as it is.
use Rattle.std.specs.Prelude.{◌&&◌, ◌<◌, ◌≡◌, List, false, int_le, length, nat_le, nat_lt, pos, true, ℕ, ℤ}
use Rattle.std.specs.List.{AllByRecursion, list_all}
use Rattle.iv_time.specs.Range.{is_instant}
use Rattle.book_rows.specs.Lists.{Pairs}
use Rattle.book_rows.specs.Locks.{HasDistinctNumbers}
use Rattle.book_rows.specs.Outcome.{number_limit, row_limit}
use Rattle.book_rows.specs.Rules.{AreCompatible}
use Rattle.book_rows.specs.Shape.{AreDistinct, HaveMembers, fits_version, is_posse_row, is_task_row, same_task, same_version}
use Rattle.book_rows.specs.declared.rows.Book.{Book}
use Rattle.book_rows.specs.declared.rows.PosseRow.{PosseRow}
use Rattle.book_rows.specs.declared.rows.TaskRow.{TaskRow}

-- neither table has too many rows, and the number of the next lock isn't too great
pub record HasRoom (next : ℕ) (ts : List TaskRow) (qs : List PosseRow) : Type 0 where
  pub tasks : nat_lt row_limit (length ts) ≡ false
  pub locks : nat_lt row_limit (length qs) ≡ false
  pub numbers : nat_lt number_limit next ≡ false

-- the clock is an instant, and the last version is one that isn't negative
pub record AreInstants (moment version : ℤ) : Type 0 where
  pub clock : is_instant moment ≡ true
  pub last : is_instant version && int_le (pos 0) version ≡ true

-- each task is within its limits, and no two have one id
pub record AreTaskRows (ts : List TaskRow) : Type 0 where
  pub rows : list_all is_task_row ts ≡ true
  pub keys : AreDistinct same_task ts

-- each lock is within its limits; numbers are distinct, ascend and are below the next one; versions are at most the last
-- one, fit the lock's kind, and are distinct where no lock appends; none was made after more publications than there are
pub record AreLockRows (last : ℤ) (next pubs : ℕ) (qs : List PosseRow) : Type 0 where
  pub rows : list_all is_posse_row qs ≡ true
  pub numbers : HasDistinctNumbers qs
  pub ascending : Pairs (λ p q. p.number < q.number) qs
  pub below : AllByRecursion (λ p. p.number < next) qs
  pub versions : list_all (λ q. int_le q.version last) qs ≡ true
  pub kinds : list_all fits_version qs ≡ true
  pub distinct : AreDistinct same_version qs
  pub since : list_all (λ q. nat_le q.since pubs) qs ≡ true

-- all of it, and each lock has members, which are distinct running tasks of its group, source and priority
pub record AreInShape (clock last : ℤ) (next pubs : ℕ) (ts : List TaskRow) (qs : List PosseRow) : Type 0 where
  pub room : HasRoom next ts qs
  pub instants : AreInstants clock last
  pub tasks : AreTaskRows ts
  pub locks : AreLockRows last next pubs qs
  pub members : HaveMembers ts qs

abbrev pub IsLockShape : Book → Type 0
IsLockShape b = AreInShape b.clock b.last b.next_lock (length b.publications) b.tasks b.posses

-- tasks and locks are in shape, and any two valid locks are compatible
abbrev pub HasSoundLocks : Book → Type 0
HasSoundLocks b = IsLockShape b × AreCompatible b.posses
