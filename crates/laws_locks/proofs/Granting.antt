-- Locks are granted to a running task, and left.
use Rattle.std.proofs.Common.{Bool, Err, List, None, Ok, Option, Result, Some, [], ap, bytes_eq, cond, false, length, nat_lt, refl, subst, true, ℕ, ℤ, ◌&&◌, ◌∷◌, ◌≡◌}
use Rattle.std.proofs.lemmas.Bool.{and_parts}
use Rattle.iv_time.specs.Range.{is_instant}
use Rattle.seg_names.specs.Names.{is_task_id}
use Rattle.book_rows.specs.Form.{is_want}
use Rattle.book_rows.specs.Grant.{book_granted, counters_at, grant_lock, granted_of, posses_after}
use Rattle.book_rows.specs.Lists.{In}
use Rattle.book_rows.specs.LockSteps.{lock_outcome, lock_reply, locked, unlocked}
use Rattle.book_rows.specs.Locks.{is_member_of, left_lock, posse_of}
use Rattle.book_rows.specs.Outcome.{changed, number_limit, refused_or, repeated, row_limit, task_of}
use Rattle.book_rows.specs.Shape.{is_task_row}
use Rattle.book_rows.specs.Spans.{is_span}
use Rattle.book_rows.specs.declared.answers.Granted.{Granted}
use Rattle.book_rows.specs.declared.answers.GrantedLock.{GrantedLock}
use Rattle.book_rows.specs.declared.kinds.Table.TheVariants as Tables
use Rattle.book_rows.specs.declared.kinds.TaskStatus.TheVariants as Statuses
use Rattle.book_rows.specs.declared.replies.Refusal.{Refusal}
use Rattle.book_rows.specs.declared.replies.Reply.TheVariants as Replies
use Rattle.book_rows.specs.declared.rows.Book.{Book}
use Rattle.book_rows.specs.declared.rows.TaskRow.{TaskRow}
use Rattle.book_rows.specs.declared.rows.Want.{Want}
use Rattle.laws_locks.specs.Commands.{LockKeepsLocks, UnlockKeepsLocks}
use Rattle.laws_locks.specs.LockShape.{AreLockRows, HasSoundLocks}
use Rattle.laws_locks.specs.Moves.{GrantKeepsLocks}
use Rattle.laws_locks.proofs.Grounds.{IsAtWork, IsGround, ground_all, ground_granted}
use Rattle.laws_locks.proofs.Instants.{later_is_instant}
use Rattle.laws_locks.proofs.Leaves.{leave_keeps}
use Rattle.laws_locks.proofs.Lists.{In-list_all, found_In}
use Rattle.laws_locks.proofs.Rooms.{fitted_keeps, lock_room, running_keeps}

-- a running task of the book is at work
pub at_work : (b : Book) (t : TaskRow) → HasSoundLocks b → In t b.tasks → t.status ≡ Statuses.Running → IsAtWork b.tasks t
at_work b t h i runs = record {
  limits = In-list_all is_task_row t b.tasks i h.0.tasks.rows;
  row = t;
  among = i;
  task_is = refl;
  runs = runs;
  group_is = refl;
  source_is = refl;
  priority_is = refl;
}

-- what holds of the locks as a command begins
pub ground_of : (b : Book) (now : ℤ) → HasSoundLocks b → is_instant now ≡ true → IsGround b.tasks (length b.publications) (counters_at b now) b.posses
ground_of b now h i = record {
  since = refl;
  instants = record { clock = later_is_instant now b.clock i h.0.instants.clock; last = h.0.instants.last };
  rows = h.0.locks;
  members = h.0.members;
  compatible = h.1;
}

-- what holds of the book as it ends, where there is room for the locks and their numbers
pub sound_of : (b : Book) (task : List ℕ) (g : Granted) → HasSoundLocks b → IsGround b.tasks (length b.publications) g.after (posses_after b.posses task g)
    → (nat_lt row_limit (length (posses_after b.posses task g)) ≡ false) × (nat_lt number_limit g.after.next_lock ≡ false) → HasSoundLocks (book_granted b task g)
sound_of b task g h after rooms = (
  record {
    room = record { tasks = h.0.room.tasks; locks = rooms.0; numbers = rooms.1 };
    instants = after.instants;
    tasks = h.0.tasks;
    locks = subst (λ (n : ℕ). AreLockRows g.after.last g.after.next_lock n (posses_after b.posses task g)) after.since after.rows;
    members = after.members;
  },
  after.compatible,
)

-- ---- any number of wants

pub grant_keeps_locks : GrantKeepsLocks
grant_keeps_locks b t wants now g h among runs wanted i e room =
    sound_of b t.task g h (ground_all b.tasks (length b.publications) t wants b.posses (counters_at b now) g (at_work b t h among runs) wanted (ground_of b now h i) e) (lock_room [] (book_granted b t.task g) room)

-- ---- one lock

locked_keeps : (r : Result GrantedLock Refusal) (b : Book) (t : TaskRow) (w : Want) (now : ℤ) → HasSoundLocks b → In t b.tasks → t.status ≡ Statuses.Running → is_want w ≡ true → is_instant now ≡ true
    → grant_lock b.posses (counters_at b now) t w ≡ r → HasSoundLocks (refused_or r b (lock_outcome b t)).book
locked_keeps (Err why) b t w now h among runs wanted i e = h
locked_keeps (Ok l) b t w now h among runs wanted i e =
    fitted_keeps HasSoundLocks (Tables.Locks ∷ Tables.Numbers ∷ []) b (book_granted b t.task l.granted) (lock_reply l) h
    (λ room. sound_of b t.task l.granted h (ground_granted b.tasks (length b.publications) b.posses (counters_at b now) t w l.granted (at_work b t h among runs) wanted (ground_of b now h i) (ap granted_of e)) (lock_room [] (book_granted b t.task l.granted) room))

pub lock_keeps_locks : LockKeepsLocks
lock_keeps_locks task kind span now b form h =
    let fits = and_parts (is_task_id task && is_span span) (is_instant now) form in
    let w : Want = record { lock_kind = kind; span = span } in
    running_keeps HasSoundLocks (task_of task b.tasks) b (locked b w now) h
    (λ t found runs. locked_keeps (grant_lock b.posses (counters_at b now) t w) b t w now h (found_In (λ t. bytes_eq t.task task) t b.tasks found).0 runs (and_parts (is_task_id task) (is_span span) fits.0).1 fits.1 refl)

-- ---- a lock is left

unlock_by_keeps : (member : Bool) (b : Book) (task : List ℕ) (lock : ℕ) → HasSoundLocks b → HasSoundLocks (cond member (changed (left_lock lock task b) (Replies.Unlock true)) (repeated b (Replies.Unlock false))).book
unlock_by_keeps true b task lock h = leave_keeps lock task b h
unlock_by_keeps false b task lock h = h

unlocked_keeps : (o : Option TaskRow) (b : Book) (task : List ℕ) (lock : ℕ) → HasSoundLocks b → HasSoundLocks (unlocked o b task lock).book
unlocked_keeps None b task lock h = h
unlocked_keeps (Some t) b task lock h = unlock_by_keeps (is_member_of (posse_of lock b.posses) task) b task lock h

pub unlock_keeps_locks : UnlockKeepsLocks
unlock_keeps_locks task lock b form h = unlocked_keeps (task_of task b.tasks) b task lock h
