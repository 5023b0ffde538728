-- How a request for a lock is decided.
use Rattle.std.specs.Prelude.{◌&&◌, ◌++◌, ◌+ℤ◌, ◌+◌, ◌==◌, ◌||◌, ◌∷◌, Bool, Err, List, None, Ok, Option, Result, Some, [], bytes_eq, cond, false, filter, length, map, nat_le, not, pos, ℕ, ℤ}
use Rattle.std.specs.Int.{int_max}
use Rattle.std.specs.Ordering.{int_eq}
use Rattle.iv_span.specs.Extent.{covers}
use Rattle.iv_time.specs.Range.{last_instant}
use Rattle.book_rows.specs.Kinds.{go_together, same_kind}
use Rattle.book_rows.specs.Lists.{ascending, merged, stands_in}
use Rattle.book_rows.specs.Locks.{is_lost, is_member, least, stripped, stripped_upgrades}
use Rattle.book_rows.specs.declared.answers.Counters.{Counters}
use Rattle.book_rows.specs.declared.answers.Granted.{Granted}
use Rattle.book_rows.specs.declared.answers.GrantedLock.{GrantedLock}
use Rattle.book_rows.specs.declared.kinds.LockKind.{LockKind}
use Rattle.book_rows.specs.declared.replies.Refusal.{Refusal}
use Rattle.book_rows.specs.declared.rows.Book.{Book}
use Rattle.book_rows.specs.declared.rows.PosseRow.{PosseRow}
use Rattle.book_rows.specs.declared.rows.TaskRow.{TaskRow}
use Rattle.book_rows.specs.declared.rows.Want.{Want}
use Rattle.book_rows.specs.declared.kinds.LockKind.TheVariants as LockKinds
use Rattle.book_rows.specs.declared.replies.Refusal.TheVariants as Refusals

-- a valid lock that the task may join
abbrev pub is_fit : TaskRow → Want → PosseRow → Bool
is_fit t w p = not p.revoked && bytes_eq p.source t.source && same_kind p.lock_kind w.lock_kind && bytes_eq p.group t.group && (p.priority == t.priority) && covers p.span w.span

-- a valid lock that doesn't go with the request
abbrev pub is_against : TaskRow → Want → PosseRow → Bool
is_against t w p = not p.revoked && bytes_eq p.source t.source && not (go_together p.lock_kind p.span w.lock_kind w.span)

-- and whose priority isn't lower
abbrev pub blocks : TaskRow → Want → PosseRow → Bool
blocks t w p = is_against t w p && nat_le t.priority p.priority

-- the version of a new lock, if there is one left
abbrev pub version_for : LockKind → Counters → Option ℤ
version_for LockKinds.Append k = Some (pos 0)
version_for _ k = cond (int_eq k.last last_instant) None (Some (int_max k.clock (k.last +ℤ pos 1)))

-- the last version after a new lock
abbrev pub last_after : LockKind → Counters → ℤ → ℤ
last_after LockKinds.Append k version = k.last
last_after _ k version = version

-- the task joins a lock that is there
abbrev pub joins_row : Counters → TaskRow → PosseRow → Granted
joins_row k t p = record {
  locks = p.number ∷ [];
  joins = cond (is_member t.task p) [] (p.number ∷ []);
  rows = [];
  revoked = [];
  after = k;
}

-- a new lock
abbrev pub new_row : Counters → TaskRow → Want → ℤ → PosseRow
new_row k t w version = record {
  number = k.next_lock;
  lock_kind = w.lock_kind;
  group = t.group;
  source = t.source;
  span = w.span;
  version = version;
  priority = t.priority;
  members = t.task ∷ [];
  revoked = false;
  since = k.since;
}

-- the numbers of the locks in the way, ascending
abbrev pub numbers_against : TaskRow → Want → List PosseRow → List ℕ
numbers_against t w ps = ascending (map (λ p. p.number) (filter (is_against t w) ps))

abbrev pub makes_row : List PosseRow → Counters → TaskRow → Want → ℤ → Granted
makes_row ps k t w version = record {
  locks = k.next_lock ∷ [];
  joins = [];
  rows = new_row k t w version ∷ [];
  revoked = numbers_against t w ps;
  after = record k { last = last_after w.lock_kind k version; next_lock = k.next_lock + 1 };
}

-- the lock that is granted: the one that is there, or the new one
abbrev pub joins_lock : Counters → TaskRow → PosseRow → GrantedLock
joins_lock k t p = record { number = p.number; span = p.span; version = p.version; granted = joins_row k t p }

abbrev pub makes_lock : List PosseRow → Counters → TaskRow → Want → ℤ → GrantedLock
makes_lock ps k t w version = record { number = k.next_lock; span = w.span; version = version; granted = makes_row ps k t w version }

-- the cases in their order: a lost lock, a lock to join, a lock that blocks, and the version that is left
abbrev pub grant_by : Option PosseRow → Option PosseRow → Option PosseRow → Option ℤ → List PosseRow → Counters → TaskRow → Want → Result GrantedLock Refusal
grant_by (Some lost) fit block version ps k t w = Err (Refusals.LockRevoked lost.number)
grant_by None (Some fit) block version ps k t w = Ok (joins_lock k t fit)
grant_by None None (Some block) version ps k t w = Err (Refusals.LockConflict block.number)
grant_by None None None None ps k t w = Err Refusals.ClockEnd
grant_by None None None (Some version) ps k t w = Ok (makes_lock ps k t w version)

-- the lock that a task is granted for one request, or why it is refused
abbrev pub grant_lock : List PosseRow → Counters → TaskRow → Want → Result GrantedLock Refusal
grant_lock ps k t w =
    grant_by (least (is_lost t.task t.source w.span) ps) (least (is_fit t w) ps) (least (blocks t w) ps) (version_for w.lock_kind k) ps k t w

abbrev pub granted_of : Result GrantedLock Refusal → Result Granted Refusal
granted_of (Err why) = Err why
granted_of (Ok lock) = Ok lock.granted

-- what a request of a task for one lock makes of the locks, or why it is refused
abbrev pub grant : List PosseRow → Counters → TaskRow → Want → Result Granted Refusal
grant ps k t w = granted_of (grant_lock ps k t w)

-- the lock after those of these numbers are revoked
abbrev pub revoked_in : List ℕ → PosseRow → PosseRow
revoked_in ns p = record p { revoked = p.revoked || stands_in ns p.number }

-- the lock after a task joins these: once for each time that its number stands there
abbrev pub joined_in : List ℕ → List ℕ → PosseRow → PosseRow
joined_in ns task p = record p { members = p.members ++ map (λ n. task) (filter (λ n. n == p.number) ns) }

-- the locks after what was granted
abbrev pub posses_after : List PosseRow → List ℕ → Granted → List PosseRow
posses_after ps task g = map (joined_in g.joins task) (map (revoked_in g.revoked) ps) ++ g.rows

-- ---- several requests, each on the outcome of those before

-- what two grants make, one after the other
abbrev pub both_granted : List ℕ → Granted → Granted → Granted
both_granted task g h = record {
  locks = g.locks ++ h.locks;
  joins = g.joins ++ h.joins;
  rows = map (joined_in h.joins task) (map (revoked_in h.revoked) g.rows) ++ h.rows;
  revoked = merged g.revoked h.revoked;
  after = h.after;
}

abbrev pub granted_then : List ℕ → Granted → Result Granted Refusal → Result Granted Refusal
granted_then task g (Err why) = Err why
granted_then task g (Ok h) = Ok (both_granted task g h)

abbrev pub nothing_granted : Counters → Granted
nothing_granted k = record { locks = []; joins = []; rows = []; revoked = []; after = k }

-- the requests that follow, where the one before was granted
abbrev pub continued : List ℕ → Result Granted Refusal → (Granted → Result Granted Refusal) → Result Granted Refusal
continued task (Err why) rest = Err why
continued task (Ok g) rest = granted_then task g (rest g)

abbrev pub grant_all : List PosseRow → Counters → TaskRow → List Want → Result Granted Refusal
grant_all ps k t [] = Ok (nothing_granted k)
grant_all ps k t (w ∷ ws) = continued t.task (grant ps k t w) (λ g. grant_all (posses_after ps t.task g) g.after t ws)

-- ---- the book

-- the moment of a command: its own, or the clock where that is later
abbrev pub moment : Book → ℤ → ℤ
moment b now = int_max now b.clock

abbrev pub counters_at : Book → ℤ → Counters
counters_at b now = record { clock = moment b now; last = b.last; next_lock = b.next_lock; since = length b.publications }

-- the book after what was granted to a task: what the revoked locks held goes
abbrev pub book_granted : Book → List ℕ → Granted → Book
book_granted b task g = record b {
  clock = g.after.clock;
  last = g.after.last;
  next_lock = g.after.next_lock;
  posses = posses_after b.posses task g;
  pendings = stripped (stands_in g.revoked) b.pendings;
  upgrades = stripped_upgrades (stands_in g.revoked) b.upgrades;
}
