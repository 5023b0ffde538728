-- An id that is allocated comes to what the rules say.
use Rattle.std.proofs.Common.{Bool, Err, IfOk, List, None, Ok, Option, Result, Some, [], ap, arith, cond, false, is_some, length, map, nat_lt, refl, subst, sym, true, ℕ, ℤ, ◌&&◌, ◌∙◌, ◌≡◌}
use Rattle.std.proofs.lemmas.Bool.{and_parts, false≢true}
use Rattle.iv_span.specs.Extent.{has}
use Rattle.iv_time.specs.Range.{is_instant}
use Rattle.seg_names.specs.declared.seg_id.SegId.{SegId}
use Rattle.book_rows.specs.Allocation.{fits_request, known_fault, known_pending, lost_fault, place}
use Rattle.book_rows.specs.Grant.{book_granted, counters_at, grant_lock, moment, posses_after}
use Rattle.book_rows.specs.Lists.{on_ok}
use Rattle.book_rows.specs.LockSteps.{IdRequest, allocate_by, allocated, allotted_outcome, join_known, pending_for, placed}
use Rattle.book_rows.specs.Locks.{is_lost, is_member_of, joined, least, posse_of}
use Rattle.book_rows.specs.Outcome.{all_tables, fitted_by, is_full, number_limit, refused, refused_or, row_limit, unless}
use Rattle.book_rows.specs.Sound.{Sound}
use Rattle.book_rows.specs.declared.answers.GrantedLock.{GrantedLock}
use Rattle.book_rows.specs.declared.answers.NewPending.{NewPending}
use Rattle.book_rows.specs.declared.answers.Place.{Place}
use Rattle.book_rows.specs.declared.kinds.LockKind.{LockKind}
use Rattle.book_rows.specs.declared.kinds.Table.{Table}
use Rattle.book_rows.specs.declared.kinds.Table.TheVariants as Tables
use Rattle.book_rows.specs.declared.replies.Refusal.{Refusal}
use Rattle.book_rows.specs.declared.replies.Refusal.TheVariants as Refusals
use Rattle.book_rows.specs.declared.replies.Reply.TheVariants as Replies
use Rattle.book_rows.specs.declared.rows.Book.{Book}
use Rattle.book_rows.specs.declared.rows.PendingRow.{PendingRow}
use Rattle.book_rows.specs.declared.rows.PosseRow.{PosseRow}
use Rattle.book_rows.specs.declared.rows.TaskRow.{TaskRow}
use Rattle.book_rows.specs.declared.rows.Want.{Want}
use Rattle.laws_locks.specs.LockShape.{HasSoundLocks}
use Rattle.laws_locks.proofs.Lists.{none_found}
use Rattle.lockbox.specs.Decided.{WasDecided, decided_lock, if_room, lock_with_room}
use Rattle.seg_alloc.specs.Answers.{known_answer, known_unless}
use Rattle.book_core.specs.Allocations.{IsMade, MayAllot, given_id, id_in, id_outcome, id_under, join_id, made_id, new_id, room_under}
use Rattle.book_core.specs.Done.{IsDone}
use Rattle.book_core.specs.declared.allocating.NewId.{NewId}
use Rattle.book_core.specs.declared.outcomes.Outcome.{Outcome}
use Rattle.book_core.proofs.Conditions.{have_numbers, lock_was_decided}
use Rattle.book_core.proofs.Deciding.{lock_decided_is}

-- ---- an id that is known

module _ (b : Book) (r : IdRequest) (t : TaskRow) where
  abbrev answer : Option PendingRow → Result (Option (SegId × ℕ)) Refusal
  answer o = known_answer o b.posses t r.lock_kind r.at

  told : (fault : Option Refusal) (p : PendingRow) (id : SegId) (lock : ℕ) → known_unless fault p ≡ Ok (Some (id, lock)) → unless fault b (join_known b r.now t.task p) ≡ join_id b r.now t.task id lock
  told (Some why) p id lock e = cc
  told None p id lock e =
      let same : ◌≡◌ {A = SegId × ℕ} (p.id, p.posse) (id, lock) = cc in
      ap (λ (x : SegId × ℕ). join_id b r.now t.task x.0 x.1) same

  pub known_is : (o : Option PendingRow) (id : SegId) (lock : ℕ) → answer o ≡ Ok (Some (id, lock)) → allocate_by o b r t ≡ join_id b r.now t.task id lock
  known_is None id lock e = cc
  known_is (Some p) id lock e = told (known_fault b.posses t r.lock_kind r.at p) p id lock e

  stopped : (fault : Option Refusal) (p : PendingRow) (why : Refusal) → known_unless fault p ≡ Err why → unless fault b (join_known b r.now t.task p) ≡ refused b why
  stopped (Some other) p why e =
      let same : other ≡ why = cc in
      ap (λ (w : Refusal). refused b w) same
  stopped None p why e = cc

  pub known_refused : (o : Option PendingRow) (why : Refusal) → answer o ≡ Err why → allocate_by o b r t ≡ refused b why
  known_refused None why e = cc
  known_refused (Some p) why e = stopped (known_fault b.posses t r.lock_kind r.at p) p why e

-- the task has joined its lock
pub join_done : (d : Outcome) (b with_task after : Book) (now : ℤ) (task : List ℕ) (id : SegId) (lock : ℕ) → is_member_of (posse_of lock b.posses) task ≡ false → with_task ≡ record b { posses = map (joined lock task) b.posses }
    → after ≡ record with_task { clock = moment with_task now } → d ≡ record { reply = Replies.Allocate id lock []; changes = true } → IsDone d after (join_id b now task id lock)
join_done d b with_task after now task id lock off joins moves is =
    rw off (record {
      reply = ap (λ (x : Outcome). x.reply) is;
      changes = ap (λ (x : Outcome). x.changes) is;
      book = moves ∙ ap (λ (x : Book). record x { clock = moment x now }) joins;
    })

-- ---- the lock of a known id is there

fits_some : (t : TaskRow) (kind : LockKind) (o : Option PosseRow) → fits_request t kind o ≡ true → is_some o ≡ true
fits_some t kind None h = absurd (false≢true h)
fits_some t kind (Some q) h = refl

passes : (x : Bool) (lost : Option Refusal) (why : Refusal) (p : PendingRow) (id : SegId) (lock : ℕ) → known_unless (cond x lost (Some why)) p ≡ Ok (Some (id, lock)) → x ≡ true
passes true lost why p id lock e = refl
passes false lost why p id lock e = cc

own_lock : (fault : Option Refusal) (p : PendingRow) (id : SegId) (lock : ℕ) → known_unless fault p ≡ Ok (Some (id, lock)) → p.posse ≡ lock
own_lock (Some why) p id lock e = cc
own_lock None p id lock e =
    let same : ◌≡◌ {A = SegId × ℕ} (p.id, p.posse) (id, lock) = cc in
    ap (λ (x : SegId × ℕ). x.1) same

pub lock_is_there : (ps : List PosseRow) (t : TaskRow) (kind : LockKind) (at : ℤ) (o : Option PendingRow) (id : SegId) (lock : ℕ) → known_answer o ps t kind at ≡ Ok (Some (id, lock)) → is_some (posse_of lock ps) ≡ true
lock_is_there ps t kind at None id lock e = cc
lock_is_there ps t kind at (Some p) id lock e =
    let fits = passes (has p.id.span at && fits_request t kind (posse_of p.posse ps)) (lost_fault (least (is_lost t.task t.source p.id.span) ps)) (Refusals.SequenceMismatch p.id) p id lock e in
    subst (λ (n : ℕ). is_some (posse_of n ps) ≡ true) (own_lock (known_fault ps t kind at p) p id lock e)
    (fits_some t kind (posse_of p.posse ps) (and_parts (has p.id.span at) (fits_request t kind (posse_of p.posse ps)) fits).1)

-- ---- none is known

unknown_by : (fault : Option Refusal) (p : PendingRow) → known_unless fault p ≡ Ok None → ⊥
unknown_by (Some why) p e = cc
unknown_by None p e = cc

pub is_unknown : (o : Option PendingRow) (ps : List PosseRow) (t : TaskRow) (kind : LockKind) (at : ℤ) → known_answer o ps t kind at ≡ Ok None → o ≡ None
is_unknown None ps t kind at e = refl
is_unknown (Some p) ps t kind at e = absurd (unknown_by (known_fault ps t kind at p) p e)

-- ---- a new id

unroomed : (o : Option Table) (b : Book) (task : List ℕ) (n : NewId) → fitted_by o b (made_id b task n) ≡ id_outcome (if_room o n) b task
unroomed (Some table) b task n = refl
unroomed None b task n = refl

module _ (b : Book) (r : IdRequest) (t : TaskRow) where
  abbrev new_under : Place → GrantedLock → NewId
  new_under x lock = record { lock = lock; pending = pending_for t r x lock }

  -- the room of the lock comes before that of the id
  roomed : (many high : Bool) (x : Place) (lock : GrantedLock) → fitted_by (cond many (Some Tables.Locks) (cond high (Some Tables.Numbers) (room_under b t.task lock (pending_for t r x lock)))) b (made_id b t.task (new_under x lock))
      ≡ id_outcome (on_ok (if_room (cond many (Some Tables.Locks) (cond high (Some Tables.Numbers) None)) lock) (λ l. id_under b r t x l)) b t.task
  roomed true high x lock = refl
  roomed false true x lock = refl
  roomed false false x lock = unroomed (room_under b t.task lock (pending_for t r x lock)) b t.task (new_under x lock)

  by_lock : (o : Result GrantedLock Refusal) (x : Place) → refused_or o b (λ l. allotted_outcome b t l (pending_for t r x l)) ≡ id_outcome (on_ok (lock_with_room b.posses t.task o) (λ l. id_under b r t x l)) b t.task
  by_lock (Err why) x = refl
  by_lock (Ok lock) x = roomed (nat_lt row_limit (length (posses_after b.posses t.task lock.granted))) (nat_lt number_limit lock.granted.after.next_lock) x lock

  in_place : HasSoundLocks b → (x : Place) → placed b r t x ≡ id_outcome (id_in b r t x) b t.task
  in_place h x =
      let w : Want = record { lock_kind = r.lock_kind; span = x.span } in
      by_lock (grant_lock b.posses (counters_at b r.now) t w) x
      ∙ ap (λ (o : Result GrantedLock Refusal). id_outcome (on_ok o (λ l. id_under b r t x l)) b t.task) (sym (lock_decided_is b.posses (counters_at b r.now) t w (have_numbers b 1 h (omega arith))))

  by_place : HasSoundLocks b → (o : Result Place Refusal) → refused_or o b (placed b r t) ≡ id_outcome (on_ok o (λ x. id_in b r t x)) b t.task
  by_place h (Err why) = refl
  by_place h (Ok x) = in_place h x

  pub new_is : HasSoundLocks b → known_pending b.pendings t.source r.sequence r.previous ≡ None → allocated b r t ≡ id_outcome (new_id b r t) b t.task
  new_is h none = ap (λ (o : Option PendingRow). allocate_by o b r t) none ∙ by_place h (place b.segments b.pendings t.source r.at r.granularity)

-- ---- whether there is room

pub clash : (o : Option Table) (table : Table) → o ≡ None → o ≡ Some table → ⊥
clash o table e f = cc

-- the pending's own room is that of the id
pub roomed_id : (b : Book) (r : IdRequest) (t : TaskRow) (x : Place) (lock : GrantedLock) (n : NewPending) (o : Result NewId Refusal) → n ≡ pending_for t r x lock
    → o ≡ if_room (room_under b t.task lock n) (record { lock = lock; pending = n }) → o ≡ id_under b r t x lock
roomed_id b r t x lock n o is e =
    let with_pending : NewPending → NewId = λ m. record { lock = lock; pending = m } in
    e ∙ ap (λ (m : NewPending). if_room (room_under b t.task lock m) (with_pending m)) is

-- ---- what was decided may be done

ok_of : {X Y : Type 0} (o : Result X Refusal) (f : X → Result Y Refusal) (y : Y) → on_ok o f ≡ Ok y → (x : X) × (o ≡ Ok x) × (f x ≡ Ok y)
ok_of (Err why) f y e = absurd (cc)
ok_of (Ok x) f y e = (x, refl, e)

room_of : {X : Type 0} (o : Option Table) (x y : X) → if_room o x ≡ Ok y → (o ≡ None) × (x ≡ y)
room_of (Some table) x y e = absurd (cc)
room_of None x y e = (refl, cc)

made : (b : Book) (r : IdRequest) (t : TaskRow) (task : List ℕ) (n : NewId) → HasSoundLocks b → is_instant r.now ≡ true → t.task ≡ task → new_id b r t ≡ Ok n → IsMade b task n
made b r t task n h i own e =
    let x = ok_of (place b.segments b.pendings t.source r.at r.granularity) (λ x. id_in b r t x) n e in
    let w : Want = record { lock_kind = r.lock_kind; span = x.0.span } in
    let l = ok_of (decided_lock b.posses (counters_at b r.now) t w) (λ l. id_under b r t x.0 l) n x.2 in
    let fits = room_of (room_under b t.task l.0 (pending_for t r x.0 l.0)) (record { lock = l.0; pending = pending_for t r x.0 l.0 }) n l.2 in
    record {
      decided = subst (λ (m : NewId). WasDecided b.posses m.lock.granted task) fits.1 (lock_was_decided b r.now t w task l.0 h i own l.1);
      room = subst (λ (m : NewId). room_under b task m.lock m.pending ≡ None) fits.1
          (subst (λ (id : List ℕ). room_under b id l.0 (pending_for t r x.0 l.0) ≡ None) own fits.0);
    }

pub all_made : (b : Book) (r : IdRequest) (t : TaskRow) (task : List ℕ) (o : Result NewId Refusal) → HasSoundLocks b → is_instant r.now ≡ true → t.task ≡ task → o ≡ new_id b r t → IfOk o (λ n. IsMade b task n)
all_made b r t task (Err why) h i own e = tt
all_made b r t task (Ok n) h i own e = made b r t task n h i own (sym e)

-- it is given once the lock is granted
pub made_done : {E : Type 0} → (r : Result Outcome E) (b granted after : Book) (task : List ℕ) (n : NewId) → granted ≡ book_granted b task n.lock.granted → IfOk r (λ d. IsDone d after (given_id n granted)) → IfOk r (λ d. IsDone d after (made_id b task n))
made_done r b granted after task n grants done = subst (λ (x : Book). IfOk r (λ d. IsDone d after (given_id n x))) grants done

-- no chunk of a sound book has too many parts
pub parts_fit : (b : Book) → Sound b → is_full Tables.Parts b ≡ false
parts_fit b s = (none_found (λ table. is_full table b) all_tables s.shape.limits.room).1.1.1.1.0

pub may_allot : (b : Book) (task : List ℕ) (n : NewId) → Sound b → IsMade b task n → MayAllot (book_granted b task n.lock.granted) n.pending
may_allot b task n s m = record { parts = parts_fit b s; room = m.room }
