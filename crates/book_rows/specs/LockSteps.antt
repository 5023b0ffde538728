-- What `lock`, `unlock` and `allocate` make of the book.
use Rattle.std.specs.Prelude.{◌∷◌, List, None, Option, Some, [], cond, false, map, true, unwrap_or, ℕ, ℤ}
use Rattle.iv_time.specs.declared.granularity.Granularity.{Granularity}
use Rattle.seg_names.specs.declared.seg_id.SegId.{SegId}
use Rattle.book_rows.specs.Allocation.{allotted, allotted_id, known_fault, known_pending, place}
use Rattle.book_rows.specs.Grant.{book_granted, counters_at, grant_lock, moment}
use Rattle.book_rows.specs.Locks.{is_member_of, joined, left_lock, posse_of}
use Rattle.book_rows.specs.Outcome.{Outcome, changed, fitted, refused, refused_or, repeated, unless}
use Rattle.book_rows.specs.declared.answers.GrantedLock.{GrantedLock}
use Rattle.book_rows.specs.declared.answers.NewPending.{NewPending}
use Rattle.book_rows.specs.declared.answers.Place.{Place}
use Rattle.book_rows.specs.declared.kinds.LockKind.{LockKind}
use Rattle.book_rows.specs.declared.replies.Reply.{Reply}
use Rattle.book_rows.specs.declared.rows.Book.{Book}
use Rattle.book_rows.specs.declared.rows.PendingRow.{PendingRow}
use Rattle.book_rows.specs.declared.rows.TaskRow.{TaskRow}
use Rattle.book_rows.specs.declared.rows.Want.{Want}
use Rattle.book_rows.specs.declared.replies.Refusal.TheVariants as Refusals
use Rattle.book_rows.specs.declared.replies.Reply.TheVariants as Replies
use Rattle.book_rows.specs.declared.kinds.Table.TheVariants as Tables

-- ---- lock

-- the reply names the lock's own span, which may be wider than the one that was asked for
abbrev pub lock_reply : GrantedLock → Reply
lock_reply lock = Replies.Lock lock.number lock.granted.revoked lock.span lock.version

abbrev pub lock_outcome : Book → TaskRow → GrantedLock → Outcome
lock_outcome b t lock = fitted (Tables.Locks ∷ Tables.Numbers ∷ []) b (book_granted b t.task lock.granted) (lock_reply lock)

abbrev pub locked : Book → Want → ℤ → TaskRow → Outcome
locked b w now t = refused_or (grant_lock b.posses (counters_at b now) t w) b (lock_outcome b t)

-- ---- unlock

abbrev pub unlocked : Option TaskRow → Book → List ℕ → ℕ → Outcome
unlocked None b task lock = refused b Refusals.TaskUnknown
unlocked (Some t) b task lock =
    cond (is_member_of (posse_of lock b.posses) task) (changed (left_lock lock task b) (Replies.Unlock true)) (repeated b (Replies.Unlock false))

-- ---- allocate

-- what a task asks for with `allocate`
pub record IdRequest : Type 0 where
  pub lock_kind : LockKind
  pub sequence : List ℕ
  pub previous : Option SegId
  pub at : ℤ
  pub granularity : Granularity
  pub now : ℤ

-- ---- an id that is known

abbrev pub join_known : Book → ℤ → List ℕ → PendingRow → Outcome
join_known b now task p =
    cond (is_member_of (posse_of p.posse b.posses) task)
    (repeated b (Replies.Allocate p.id p.posse []))
    (changed (record b { clock = moment b now; posses = map (joined p.posse task) b.posses }) (Replies.Allocate p.id p.posse []))

abbrev pub known : Book → IdRequest → TaskRow → PendingRow → Outcome
known b r t p = unless (known_fault b.posses t r.lock_kind r.at p) b (join_known b r.now t.task p)

-- ---- a new id

-- the pending to be added in the place, under the lock that was granted
abbrev pub pending_for : TaskRow → IdRequest → Place → GrantedLock → NewPending
pending_for t r place lock = record {
  source = t.source;
  span = place.span;
  version = unwrap_or place.version lock.version;
  posse = lock.number;
  sequence = r.sequence;
  previous = r.previous;
}

abbrev pub allotted_outcome : Book → TaskRow → GrantedLock → NewPending → Outcome
allotted_outcome b t lock n =
    fitted (Tables.Locks ∷ Tables.Numbers ∷ Tables.Chunks ∷ Tables.Parts ∷ Tables.Pendings ∷ []) b (allotted n (book_granted b t.task lock.granted))
    (Replies.Allocate (allotted_id b.chunks n) n.posse lock.granted.revoked)

-- the place was found on the book before, and now the lock on its span is asked for
abbrev pub placed : Book → IdRequest → TaskRow → Place → Outcome
placed b r t place =
    refused_or (grant_lock b.posses (counters_at b r.now) t (record { lock_kind = r.lock_kind; span = place.span })) b
    (λ lock. allotted_outcome b t lock (pending_for t r place lock))

abbrev pub allocate_by : Option PendingRow → Book → IdRequest → TaskRow → Outcome
allocate_by (Some p) b r t = known b r t p
allocate_by None b r t = refused_or (place b.segments b.pendings t.source r.at r.granularity) b (placed b r t)

abbrev pub allocated : Book → IdRequest → TaskRow → Outcome
allocated b r t = allocate_by (known_pending b.pendings t.source r.sequence r.previous) b r t
