-- What the deciders ask of a book, where its tasks and locks are in shape.
use Rattle.std.proofs.Common.{IfSome, List, None, Ok, Option, Some, [], ap, arith, int_le, length, nat_lt, neg_ℤ, pos, true, ℕ, ℤ, ◌+◌, ◌^◌, ◌∙◌, ◌∷◌, ◌≡◌, ◌≤◌}
use Rattle.std.proofs.lemmas.Bool.{and_parts, leb-true, lt-ltb, ltb-false}
use Rattle.iv_time.specs.Range.{IsInstant, is_instant}
use Rattle.book_rows.specs.Grant.{counters_at, granted_of, moment}
use Rattle.book_rows.specs.Outcome.{number_limit}
use Rattle.book_rows.specs.Shape.{is_task_row}
use Rattle.book_rows.specs.Sound.{Sound}
use Rattle.book_rows.specs.declared.answers.Granted.{Granted}
use Rattle.book_rows.specs.declared.answers.GrantedLock.{GrantedLock}
use Rattle.book_rows.specs.declared.rows.Book.{Book}
use Rattle.book_rows.specs.declared.rows.TaskRow.{TaskRow}
use Rattle.book_rows.specs.declared.rows.Want.{Want}
use Rattle.laws_locks.specs.LockShape.{HasSoundLocks}
use Rattle.laws_locks.proofs.WholeShape.{shape_has_lock_shape}
use Rattle.laws_locks.proofs.Instants.{later_is_instant, le_is}
use Rattle.lockbox.specs.Decided.{AreBelow, AreCounters, WasDecided, decided, decided_lock}
use Rattle.lockbox.proofs.OneRequest.{lock_is_decided}
use Rattle.book_core.specs.Decisions.{IsGranted}

pub is_within : (z : ℤ) → is_instant z ≡ true → IsInstant z
is_within z h =
    let ends = and_parts (int_le (neg_ℤ (pos 62167219200000)) z) (int_le z (pos 253402300799999)) h in
    (le_is (neg_ℤ (pos 62167219200000)) z ends.0, le_is z (pos 253402300799999) ends.1)

-- the locks of a sound book are in shape
pub have_shape : (b : Book) → Sound b → HasSoundLocks b
have_shape b s = (shape_has_lock_shape b s.shape, s.compatible_locks)

pub may_count : (b : Book) (now : ℤ) → HasSoundLocks b → is_instant now ≡ true → AreCounters (counters_at b now)
may_count b now h i =
    let last = and_parts (is_instant b.last) (int_le (pos 0) b.last) h.0.instants.last in
    record {
      clock_is = is_within (moment b now) (later_is_instant now b.clock i h.0.instants.clock);
      last_is = is_within b.last last.0;
      last_low = le_is (pos 0) b.last last.1;
    }

pub are_below : (b : Book) → HasSoundLocks b → AreBelow b.next_lock b.posses
are_below b h = h.0.locks.below

-- there are numbers for so many new locks
pub have_numbers : (b : Book) (n : ℕ) → HasSoundLocks b → n ≤ 64 → nat_lt (b.next_lock + n) (2 ^ 64) ≡ true
have_numbers b n h few =
    let low : b.next_lock ≤ number_limit = ltb-false number_limit b.next_lock h.0.room.numbers in
    lt-ltb (b.next_lock + n) (2 ^ 64) (omega arith)

pub few_wants : (t : TaskRow) → is_task_row t ≡ true → length t.wants ≤ 64
few_wants t h = leb-true (length t.wants) 64 (and_parts _ _ (and_parts _ _ h).0).1

-- ---- what was decided

pub was_decided : (b : Book) (now : ℤ) (t : TaskRow) (ws : List Want) (task : List ℕ) (g : Granted) → HasSoundLocks b → is_instant now ≡ true → t.task ≡ task → decided b.posses (counters_at b now) t ws ≡ Ok g
    → WasDecided b.posses g task
was_decided b now t ws task g h i own is = record {
  counters = counters_at b now;
  row = t;
  wants = ws;
  task_is = own;
  may_count = may_count b now h i;
  are_below = are_below b h;
  answer_is = is;
}

-- what one request is granted was decided of the list of that request
pub lock_was_decided : (b : Book) (now : ℤ) (t : TaskRow) (w : Want) (task : List ℕ) (lock : GrantedLock) → HasSoundLocks b → is_instant now ≡ true → t.task ≡ task → decided_lock b.posses (counters_at b now) t w ≡ Ok lock
    → WasDecided b.posses lock.granted task
lock_was_decided b now t w task lock h i own is =
    was_decided b now t (w ∷ []) task lock.granted h i own (lock_is_decided b.posses (counters_at b now) t w ∙ ap granted_of is)

pub was_granted : (b : Book) (now : ℤ) (t : TaskRow) (task : List ℕ) (o : Option Granted) → HasSoundLocks b → is_instant now ≡ true → t.task ≡ task
    → IsGranted o (decided b.posses (counters_at b now) t t.wants) → IfSome o (λ g. WasDecided b.posses g task)
was_granted b now t task None h i own is = tt
was_granted b now t task (Some g) h i own is = was_decided b now t t.wants task g h i own is
