-- What comes of `allocate`, where a new id is decided before anything changes.
use Rattle.std.specs.Prelude.{◌≡◌, List, None, Option, Result, [], cond, false, map, ℕ, ℤ}
use Rattle.std.specs.Option.{option_copied}
use Rattle.seg_names.specs.declared.seg_id.SegId.{SegId}
use Rattle.book_rows.specs.Allocation.{allotted, allotted_id, place}
use Rattle.book_rows.specs.Grant.{book_granted, counters_at, moment}
use Rattle.book_rows.specs.Lists.{on_ok}
use Rattle.book_rows.specs.LockSteps.{IdRequest, pending_for}
use Rattle.book_rows.specs.Locks.{is_member_of, joined, posse_of}
use Rattle.book_rows.specs.Outcome.{Outcome, changed, is_full, no_room, refused_or, repeated}
use Rattle.book_rows.specs.declared.answers.GrantedLock.{GrantedLock}
use Rattle.book_rows.specs.declared.answers.NewPending.{NewPending}
use Rattle.book_rows.specs.declared.answers.Place.{Place}
use Rattle.book_rows.specs.declared.kinds.Table.{Table}
use Rattle.book_rows.specs.declared.kinds.Table.TheVariants as Tables
use Rattle.book_rows.specs.declared.replies.Refusal.{Refusal}
use Rattle.book_rows.specs.declared.replies.Reply.TheVariants as Replies
use Rattle.book_rows.specs.declared.rows.Book.{Book}
use Rattle.book_rows.specs.declared.rows.TaskRow.{TaskRow}
use Rattle.lockbox.specs.Decided.{WasDecided, decided_lock, if_room}
use Rattle.seg_alloc.specs.Room.{own_tables}
use Rattle.book_core.specs.declared.allocating.IdRequest.{IdRequest as Asked}
use Rattle.book_core.specs.declared.allocating.NewId.{NewId}

-- what is asked for
abbrev pub request_of : Asked → IdRequest
request_of r = record {
  lock_kind = r.lock_kind;
  sequence = r.sequence.now;
  previous = option_copied r.previous;
  at = r.at;
  granularity = r.granularity;
  now = r.moment;
}

-- ---- an id that is known

-- it is answered with its lock, which the task joins where it is no member yet
abbrev pub join_id : Book → ℤ → List ℕ → SegId → ℕ → Outcome
join_id b now task id lock =
    cond (is_member_of (posse_of lock b.posses) task) (repeated b (Replies.Allocate id lock []))
    (changed (record b { clock = moment b now; posses = map (joined lock task) b.posses }) (Replies.Allocate id lock []))

-- ---- a new id

-- the first of its tables that would be too full after it
abbrev pub room_under : Book → List ℕ → GrantedLock → NewPending → Option Table
room_under b task lock n = no_room own_tables (allotted n (book_granted b task lock.granted))

-- under this lock, in this place
abbrev pub id_under : Book → IdRequest → TaskRow → Place → GrantedLock → Result NewId Refusal
id_under b r t place lock = if_room (room_under b t.task lock (pending_for t r place lock)) (record { lock = lock; pending = pending_for t r place lock })

-- in this place, under the lock that is granted on its span
abbrev pub id_in : Book → IdRequest → TaskRow → Place → Result NewId Refusal
id_in b r t place = on_ok (decided_lock b.posses (counters_at b r.now) t (record { lock_kind = r.lock_kind; span = place.span })) (λ lock. id_under b r t place lock)

-- the place first, then the lock, then the room
abbrev pub new_id : Book → IdRequest → TaskRow → Result NewId Refusal
new_id b r t = on_ok (place b.segments b.pendings t.source r.at r.granularity) (λ place. id_in b r t place)

-- the id is given to its pending
abbrev pub given_id : NewId → Book → Outcome
given_id n b = changed (allotted n.pending b) (Replies.Allocate (allotted_id b.chunks n.pending) n.pending.posse n.lock.granted.revoked)

-- after the lock is granted to the task
abbrev pub made_id : Book → List ℕ → NewId → Outcome
made_id b task n = given_id n (book_granted b task n.lock.granted)

abbrev pub id_outcome : Result NewId Refusal → Book → List ℕ → Outcome
id_outcome o b task = refused_or o b (made_id b task)

-- ---- what was decided

-- the tables have room for the pending
pub record MayAllot (b : Book) (n : NewPending) : Type 0 where
  pub parts : is_full Tables.Parts b ≡ false
  pub room : no_room own_tables (allotted n b) ≡ None

-- the id may be given to a task of this id: its lock was granted, and there is room
pub record IsMade (b : Book) (task : List ℕ) (n : NewId) : Type 0 where
  pub decided : WasDecided b.posses n.lock.granted task
  pub room : room_under b task n.lock n.pending ≡ None
