-- Numbers of locks: each is given once, and a lock that is revoked is revoked until it is gone.
use Rattle.std.specs.Prelude.{◌<◌, ◌≡◌, ◌≤◌, ◌⊎◌, List, true, ℕ}
use Rattle.std.specs.List.{AllByRecursion}
use Rattle.book_rows.specs.Answer.{book_after, empty_book}
use Rattle.book_rows.specs.Lists.{In}
use Rattle.book_rows.specs.Live.{IsValid}
use Rattle.book_rows.specs.Locks.{HasDistinctNumbers}
use Rattle.book_rows.specs.Sound.{Sound}
use Rattle.book_rows.specs.declared.commands.Command.{Command}
use Rattle.book_rows.specs.declared.rows.Book.{Book}
use Rattle.book_rows.specs.declared.rows.PosseRow.{PosseRow}

-- no two locks have one number, and each number is below the next one
pub record AreNumbered (next : ℕ) (qs : List PosseRow) : Type 0 where
  pub distinct : HasDistinctNumbers qs
  pub below : AllByRecursion (λ q. q.number < next) qs

abbrev pub HasNumbers : Book → Type 0
HasNumbers b = AreNumbered b.next_lock b.posses

abbrev pub SoundHasNumbers : Type 0
SoundHasNumbers = (b : Book) → Sound b → HasNumbers b

-- of any commands whatever
abbrev pub ReachedHasNumbers : Type 0
ReachedHasNumbers = (cs : List Command) → HasNumbers (book_after empty_book cs)

-- ---- what becomes of a lock

-- the second is the first, later: with other members, and revoked where that was revoked
pub record IsLater (p q : PosseRow) : Type 0 where
  pub number_is : p.number ≡ q.number
  pub kind_is : p.lock_kind ≡ q.lock_kind
  pub group_is : p.group ≡ q.group
  pub source_is : p.source ≡ q.source
  pub span_is : p.span ≡ q.span
  pub version_is : p.version ≡ q.version
  pub priority_is : p.priority ≡ q.priority
  pub since_is : p.since ≡ q.since
  pub stays : p.revoked ≡ true → q.revoked ≡ true

-- a lock of the list, by now
pub record WasThere (qs : List PosseRow) (q : PosseRow) : Type 0 where
  pub lock : PosseRow
  pub among : In lock qs
  pub later : IsLater lock q

-- each lock after any commands was there before them, or has a number that wasn't given before them
abbrev pub LocksGoOn : Type 0
LocksGoOn = (b : Book) (cs : List Command) (q : PosseRow) → In q (book_after b cs).posses → WasThere b.posses q ⊎ (b.next_lock ≤ q.number)

-- the lock of a revoked lock's number is that lock still, and revoked
abbrev pub RevokedForGood : Type 0
RevokedForGood = (b : Book) (cs : List Command) (p q : PosseRow) → HasNumbers b → In p b.posses → p.revoked ≡ true → In q (book_after b cs).posses → q.number ≡ p.number → IsLater p q × (q.revoked ≡ true)

-- no lock has the number
abbrev pub HasNone : ℕ → Book → Type 0
HasNone n b = (q : PosseRow) → In q b.posses → q.number ≡ n → ⊥

-- a number that was given, and that no lock has any more, is given to none after any commands
abbrev pub NumbersGivenOnce : Type 0
NumbersGivenOnce = (b : Book) (cs : List Command) (n : ℕ) → n < b.next_lock → HasNone n b → HasNone n (book_after b cs)

-- ---- a number whose lock is revoked or gone

pub record IsOver (n : ℕ) (b : Book) : Type 0 where
  pub given : n < b.next_lock
  pub lost : (q : PosseRow) → In q b.posses → q.number ≡ n → q.revoked ≡ true

-- that of a revoked lock
abbrev pub RevokedIsOver : Type 0
RevokedIsOver = (b : Book) (q : PosseRow) → HasNumbers b → In q b.posses → q.revoked ≡ true → IsOver q.number b

-- after any commands it is so still
abbrev pub OverStays : Type 0
OverStays = (n : ℕ) (b : Book) (cs : List Command) → IsOver n b → IsOver n (book_after b cs)

-- a valid lock has the number
pub record HasValidLock (qs : List PosseRow) (n : ℕ) : Type 0 where
  pub lock : PosseRow
  pub is_valid : IsValid qs lock
  pub number_is : lock.number ≡ n
