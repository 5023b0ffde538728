-- What allocate answers: an id is allocated once.
use Rattle.std.proofs.Common.{◌≡◌, ◌⊎◌, ℕ, ℤ, Bool, true, false, cond, List, [], ◌∷◌, map, Some, None, Option, Result, Ok, Err, refl, sym, ◌∙◌, inl, inr, subst}
use Rattle.std.proofs.lemmas.Bool.{false≢true}
use Rattle.seg_names.specs.declared.seg_id.SegId.{SegId}
use Rattle.book_rows.specs.Allocation.{allotted, allotted_id, allotted_row, is_known, known_fault, known_pending, place}
use Rattle.book_rows.specs.Answer.{book_after}
use Rattle.book_rows.specs.Grant.{book_granted, counters_at, grant_lock, moment}
use Rattle.book_rows.specs.LockSteps.{IdRequest, allocate_by, allocated, allotted_outcome, join_known, known, pending_for, placed}
use Rattle.book_rows.specs.Lists.{In}
use Rattle.book_rows.specs.Locks.{is_member_of, joined, posse_of}
use Rattle.book_rows.specs.Outcome.{Outcome, changed, fitted_by, no_room, refused_or, repeated, running, running_as, task_of, unless}
use Rattle.book_rows.specs.declared.answers.GrantedLock.{GrantedLock}
use Rattle.book_rows.specs.declared.answers.NewPending.{NewPending}
use Rattle.book_rows.specs.declared.answers.Place.{Place}
use Rattle.book_rows.specs.declared.commands.Command.{Command}
use Rattle.book_rows.specs.declared.kinds.Table.{Table}
use Rattle.book_rows.specs.declared.kinds.Table.TheVariants as Tables
use Rattle.book_rows.specs.declared.kinds.TaskStatus.{TaskStatus}
use Rattle.book_rows.specs.declared.kinds.TaskStatus.TheVariants as Statuses
use Rattle.book_rows.specs.declared.replies.Refusal.{Refusal}
use Rattle.book_rows.specs.declared.replies.Refusal.TheVariants as Refusals
use Rattle.book_rows.specs.declared.replies.Reply.TheVariants as Replies
use Rattle.book_rows.specs.declared.rows.Book.{Book}
use Rattle.book_rows.specs.declared.rows.PendingRow.{PendingRow}
use Rattle.book_rows.specs.declared.rows.TaskRow.{TaskRow}
use Rattle.laws_chunks.proofs.LookUps.{find_some}
use Rattle.laws_chunks.proofs.Members.{In-right}
use Rattle.book_rows.specs.Form.{AllKeepForm}
use Rattle.laws_revocation.specs.GivenIds.{AllocateAnswers, AllocatedOnce, IsAnswered, IsAnsweredByNone, is_given}
use Rattle.laws_revocation.specs.LockNumbers.{HasNumbers}
use Rattle.laws_revocation.specs.LostLocks.{IsNotPending}
use Rattle.laws_revocation.proofs.ChunkSearch.{allotted_is_new}
use Rattle.laws_revocation.proofs.GivenOnce.{given_ids_come_no_more, given_stays}

-- ---- what allocate answers

-- an outcome that answers an id answers that of a pending
abbrev Answers : Book → Outcome → Type 0
Answers b o = (a : SegId) (n : ℕ) (revoked : List ℕ) → o.reply ≡ Replies.Allocate a n revoked → IsAnswered b o.book a n

-- a refusal answers none
not_refused : (why : Refusal) (a : SegId) (n : ℕ) (revoked : List ℕ) → Replies.Refused why ≡ Replies.Allocate a n revoked → ⊥
not_refused why a n revoked e = cc

-- a known pending answers its id and lock
known_answers : (b after : Book) (p : PendingRow) → In p b.pendings → In p after.pendings → (a : SegId) (n : ℕ) (revoked : List ℕ) → Replies.Allocate p.id p.posse [] ≡ Replies.Allocate a n revoked → IsAnswered b after a n
known_answers b after p i j a n revoked e =
    let id : p.id ≡ a = cc in
    let lock : p.posse ≡ n = cc in
    record { pending = p; among = j; id_is = id; posse_is = lock; was = inl i }

module _ (b : Book) (t : TaskRow) where
  join_answers : (now : ℤ) (p : PendingRow) (member : Bool) → In p b.pendings
      → Answers b (cond member (repeated b (Replies.Allocate p.id p.posse [])) (changed (record b { clock = moment b now; posses = map (joined p.posse t.task) b.posses }) (Replies.Allocate p.id p.posse [])))
  join_answers now p true i a n revoked e = known_answers b b p i i a n revoked e
  join_answers now p false i a n revoked e = known_answers b (record b { clock = moment b now; posses = map (joined p.posse t.task) b.posses }) p i i a n revoked e

  unless_answers : (o : Option Refusal) (out : Outcome) → Answers b out → Answers b (unless o b out)
  unless_answers (Some why) out h a n revoked e = absurd (not_refused why a n revoked e)
  unless_answers None out h a n revoked e = h a n revoked e

  known_id_answers : (r : IdRequest) (p : PendingRow) → In p b.pendings → Answers b (known b r t p)
  known_id_answers r p i = unless_answers (known_fault b.posses t r.lock_kind r.at p) (join_known b r.now t.task p) (join_answers r.now p (is_member_of (posse_of p.posse b.posses) t.task) i)

  -- a new pending answers its id and lock
  new_answers : (after : Book) (m : NewPending) (gone : List ℕ) → (after.chunks ≡ b.chunks) → (room : Option Table)
      → Answers b (fitted_by room b (changed (allotted m after) (Replies.Allocate (allotted_id after.chunks m) m.posse gone)))
  new_answers after m gone same (Some table) a n revoked e = cc
  new_answers after m gone same None a n revoked e =
      let id : allotted_id after.chunks m ≡ a = cc in
      let lock : m.posse ≡ n = cc in
      let new : PendingRow = allotted_row (allotted_id after.chunks m) m in
      record {
        pending = new;
        among = In-right new after.pendings (new ∷ []) (inl refl);
        id_is = id;
        posse_is = lock;
        was = inr (subst (λ (x : SegId). is_given b.chunks x ≡ false) id (subst (λ cs. is_given cs (allotted_id after.chunks m) ≡ false) same (allotted_is_new m after.chunks)));
      }

  granted_answers : (o : Result GrantedLock Refusal) (r : IdRequest) (x : Place) → Answers b (refused_or o b (λ l. allotted_outcome b t l (pending_for t r x l)))
  granted_answers (Err why) r x = λ a n revoked e. absurd (not_refused why a n revoked e)
  granted_answers (Ok l) r x =
      let m : NewPending = pending_for t r x l in
      new_answers (book_granted b t.task l.granted) m l.granted.revoked refl (no_room (Tables.Locks ∷ Tables.Numbers ∷ Tables.Chunks ∷ Tables.Parts ∷ Tables.Pendings ∷ []) (allotted m (book_granted b t.task l.granted)))

  placed_answers : (o : Result Place Refusal) (r : IdRequest) → Answers b (refused_or o b (placed b r t))
  placed_answers (Err why) r = λ a n revoked e. absurd (not_refused why a n revoked e)
  placed_answers (Ok x) r = granted_answers (grant_lock b.posses (counters_at b r.now) t (record { lock_kind = r.lock_kind; span = x.span })) r x

  allocated_answers : (o : Option PendingRow) (r : IdRequest) → known_pending b.pendings t.source r.sequence r.previous ≡ o → Answers b (allocate_by o b r t)
  allocated_answers (Some p) r e = known_id_answers r p (find_some (is_known t.source r.sequence r.previous) b.pendings p e).0
  allocated_answers None r e = placed_answers (place b.segments b.pendings t.source r.at r.granularity) r

  status_answers : (s : TaskStatus) (out : Outcome) → Answers b out → Answers b (running_as s b out)
  status_answers Statuses.Running out h = h
  status_answers Statuses.Waiting out h = λ a n revoked e. absurd (not_refused (Refusals.TaskNotRunning Statuses.Waiting) a n revoked e)
  status_answers Statuses.Success out h = λ a n revoked e. absurd (not_refused (Refusals.TaskNotRunning Statuses.Success) a n revoked e)
  status_answers Statuses.Failed out h = λ a n revoked e. absurd (not_refused (Refusals.TaskNotRunning Statuses.Failed) a n revoked e)

running_answers : (o : Option TaskRow) (b : Book) (f : TaskRow → Outcome) → ((t : TaskRow) → Answers b (f t)) → Answers b (running o b f)
running_answers None b f h = λ a n revoked e. absurd (not_refused Refusals.TaskUnknown a n revoked e)
running_answers (Some t) b f h = status_answers b t t.status (f t) (h t)

pub allocate_answers : AllocateAnswers
allocate_answers b task kind sequence previous at granularity now a n revoked e =
    let r : IdRequest = record { lock_kind = kind; sequence = sequence; previous = previous; at = at; granularity = granularity; now = now } in
    running_answers (task_of task b.tasks) b (allocated b r) (λ t. allocated_answers b t (known_pending b.pendings t.source sequence previous) r refl) a n revoked e

-- ---- an id is allocated once

pub not_answered : (b : Book) (a : SegId) → is_given b.chunks a ≡ true → IsNotPending b a → IsAnsweredByNone b a
not_answered b a given none task kind sequence previous at granularity now n revoked e =
    let w = allocate_answers b task kind sequence previous at granularity now a n revoked e in
    either w.pending w.id_is w.was where
      either : (p : PendingRow) → p.id ≡ a → In p b.pendings ⊎ (is_given b.chunks a ≡ false) → ⊥
      either p id (inl i) = none p i id
      either p id (inr off) = false≢true (sym off ∙ given)

pub still_not_pending : (b : Book) (cs : List Command) (a : SegId) → AllKeepForm cs → HasNumbers b → is_given b.chunks a ≡ true → IsNotPending b a → IsNotPending (book_after b cs) a
still_not_pending b cs a forms numbers given none p i e = none p (given_ids_come_no_more b cs p forms numbers (subst (λ (x : SegId). is_given b.chunks x ≡ true) (sym e) given) i) e

pub allocated_once : AllocatedOnce
allocated_once b cs a forms numbers given none =
    let gone = still_not_pending b cs a forms numbers given none in
    (gone, not_answered (book_after b cs) a (given_stays b cs a given) gone)
