-- Locks are revoked, left, joined and granted.
use Rattle.std.specs.Prelude.{◌+◌, ◌++◌, ◌∷◌, ◌≡◌, ◌⊎◌, List, [], int_lt, length, map, pos, true, ℕ, ℤ}
use Rattle.std.specs.List.{AllByRecursion}
use Rattle.book_rows.specs.Grant.{joined_in, revoked_in}
use Rattle.book_rows.specs.Lists.{stands_in}
use Rattle.book_rows.specs.Locks.{left_lock, stripped, stripped_upgrades}
use Rattle.book_rows.specs.Rules.{GoTogether}
use Rattle.book_rows.specs.declared.rows.Book.{Book}
use Rattle.book_rows.specs.declared.rows.PosseRow.{PosseRow}
use Rattle.book_rows.specs.declared.kinds.LockKind.TheVariants as LockKinds
use Rattle.laws_chunks.specs.ChunksSound.{AreChunksSound}

-- ---- locks are revoked

-- the book after the locks of these numbers are revoked: what they held goes
abbrev pub revoked : List ℕ → Book → Book
revoked ns b = record b { posses = map (revoked_in ns) b.posses; pendings = stripped (stands_in ns) b.pendings; upgrades = stripped_upgrades (stands_in ns) b.upgrades }

-- revoking locks, whichever, keeps the rules
abbrev pub RevokeKeeps : Type 0
RevokeKeeps = (ns : List ℕ) (b : Book) → AreChunksSound b → AreChunksSound (revoked ns b)

-- ---- a task leaves a lock, which ends where it was the last member

abbrev pub LeaveKeeps : Type 0
LeaveKeeps = (number : ℕ) (task : List ℕ) (b : Book) → AreChunksSound b → AreChunksSound (left_lock number task b)

-- ---- a task joins locks

abbrev pub joined_locks : List ℕ → List ℕ → Book → Book
joined_locks ns task b = record b { posses = map (joined_in ns task) b.posses }

abbrev pub JoinKeeps : Type 0
JoinKeeps = (ns task : List ℕ) (b : Book) → AreChunksSound b → AreChunksSound (joined_locks ns task b)

-- ---- a lock is granted

-- the next number, the number of publications, a new version, and a kind and span that go with each valid lock
pub record IsGrant (b : Book) (q : PosseRow) (last : ℤ) : Type 0 where
  pub number_is : q.number ≡ b.next_lock
  pub since_is : q.since ≡ length b.publications
  pub version_is : ((q.lock_kind ≡ LockKinds.Append) × (q.version ≡ pos 0) × (last ≡ b.last)) ⊎ ((int_lt b.last q.version ≡ true) × (last ≡ q.version) × (q.lock_kind ≡ LockKinds.Append → ⊥))
  pub goes : AllByRecursion (λ p. GoTogether p q) b.posses

abbrev pub granted : PosseRow → ℤ → Book → Book
granted q last b = record b { posses = b.posses ++ q ∷ []; last = last; next_lock = b.next_lock + 1 }

abbrev pub GrantKeeps : Type 0
GrantKeeps = (q : PosseRow) (last : ℤ) (b : Book) → IsGrant b q last → AreChunksSound b → AreChunksSound (granted q last b)
