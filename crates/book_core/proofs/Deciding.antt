-- Requests that are decided with the room come to what the rules say.
use Rattle.std.proofs.Common.{◌≡◌, ◌+◌, ◌++◌, ◌∷◌, ◌∙◌, ◌^◌, ℕ, ℤ, Err, List, None, Ok, Option, Result, Some, [], ap, arith, length, nat_lt, refl, sym, true}
use Rattle.std.proofs.lemmas.Bool.{cond-true}
use Rattle.book_rows.specs.Grant.{book_granted, counters_at, grant_all, grant_lock}
use Rattle.book_rows.specs.LockSteps.{lock_outcome, locked}
use Rattle.book_rows.specs.Outcome.{Outcome, fitted_by, refused_or, running, running_as}
use Rattle.book_rows.specs.Shape.{is_task_row}
use Rattle.book_rows.specs.TaskSteps.{Managed, managed_by, managed_one, started_by, still_waits, with_status}
use Rattle.book_rows.specs.declared.answers.Counters.{Counters}
use Rattle.book_rows.specs.declared.answers.Granted.{Granted}
use Rattle.book_rows.specs.declared.answers.GrantedLock.{GrantedLock}
use Rattle.book_rows.specs.declared.kinds.Table.{Table}
use Rattle.book_rows.specs.declared.kinds.TaskStatus.{TaskStatus}
use Rattle.book_rows.specs.declared.kinds.TaskStatus.TheVariants as Statuses
use Rattle.book_rows.specs.declared.replies.Refusal.{Refusal}
use Rattle.book_rows.specs.declared.rows.Book.{Book}
use Rattle.book_rows.specs.declared.rows.PosseRow.{PosseRow}
use Rattle.book_rows.specs.declared.rows.TaskRow.{TaskRow}
use Rattle.book_rows.specs.declared.rows.Want.{Want}
use Rattle.laws_locks.specs.LockShape.{HasSoundLocks}
use Rattle.lockbox.specs.Decided.{decided, decided_lock, if_room, lock_with_room, too_full, with_room}
use Rattle.book_core.specs.Decisions.{IsGranted, decided_outcome, granted_outcome}
use Rattle.book_core.specs.Managed.{started_with}
use Rattle.book_core.proofs.Conditions.{few_wants, have_numbers}

decided_is : (ps : List PosseRow) (k : Counters) (t : TaskRow) (ws : List Want) → nat_lt (k.next_lock + length ws) (2 ^ 64) ≡ true → decided ps k t ws ≡ with_room ps t.task (grant_all ps k t ws)
decided_is ps k t ws few = cond-true (nat_lt (k.next_lock + length ws) (2 ^ 64)) _ _ few

-- ---- one lock

roomed_outcome : (o : Option Table) (b : Book) (task : List ℕ) (lock : GrantedLock) → fitted_by o b (granted_outcome b task lock) ≡ decided_outcome (if_room o lock) b task
roomed_outcome (Some table) b task lock = refl
roomed_outcome None b task lock = refl

by_lock : (o : Result GrantedLock Refusal) (b : Book) (t : TaskRow) → refused_or o b (lock_outcome b t) ≡ decided_outcome (lock_with_room b.posses t.task o) b t.task
by_lock (Err why) b t = refl
by_lock (Ok lock) b t = roomed_outcome (too_full b.posses t.task lock.granted) b t.task lock

pub lock_decided_is : (ps : List PosseRow) (k : Counters) (t : TaskRow) (w : Want) → nat_lt (k.next_lock + 1) (2 ^ 64) ≡ true → decided_lock ps k t w ≡ lock_with_room ps t.task (grant_lock ps k t w)
lock_decided_is ps k t w few = cond-true (nat_lt (k.next_lock + 1) (2 ^ 64)) _ _ few

locked_is : (b : Book) (w : Want) (now : ℤ) (t : TaskRow) → HasSoundLocks b → locked b w now t ≡ decided_outcome (decided_lock b.posses (counters_at b now) t w) b t.task
locked_is b w now t h =
    by_lock (grant_lock b.posses (counters_at b now) t w) b t
    ∙ ap (λ (o : Result GrantedLock Refusal). decided_outcome o b t.task) (sym (lock_decided_is b.posses (counters_at b now) t w (have_numbers b 1 h (omega arith))))

pub run_is : (o : Option TaskRow) (t : TaskRow) (b : Book) (f : TaskRow → Outcome) → Some t ≡ o → t.status ≡ Statuses.Running → running o b f ≡ f t
run_is o t b f found on = ap (λ (x : Option TaskRow). running x b f) (sym found) ∙ ap (λ (s : TaskStatus). running_as s b (f t)) on

-- the running task of this row and id asks for a lock
pub lock_is : (b : Book) (w : Want) (now : ℤ) (o : Option TaskRow) (t : TaskRow) (task : List ℕ) → HasSoundLocks b → Some t ≡ o → t.task ≡ task → t.status ≡ Statuses.Running
    → running o b (locked b w now) ≡ decided_outcome (decided_lock b.posses (counters_at b now) t w) b task
lock_is b w now o t task h found own on =
    run_is o t b (locked b w now) found on
    ∙ (locked_is b w now t h ∙ ap (λ (id : List ℕ). decided_outcome (decided_lock b.posses (counters_at b now) t w) b id) own)

-- ---- all locks of a task that waits

abbrev decided_managed : Result Granted Refusal → TaskRow → Managed → Managed
decided_managed (Err why) t m = still_waits t m
decided_managed (Ok g) t m = record m { book = with_status t.task Statuses.Running (book_granted m.book t.task g); running = m.running ++ t.task ∷ [] }

roomed_managed : (o : Option Table) (t : TaskRow) (g : Granted) (m : Managed) → started_by o t (with_status t.task Statuses.Running (book_granted m.book t.task g)) m ≡ decided_managed (if_room o g) t m
roomed_managed (Some table) t g m = refl
roomed_managed None t g m = refl

managed_by_is : (r : Result Granted Refusal) (t : TaskRow) (m : Managed) → managed_by r t m ≡ decided_managed (with_room m.book.posses t.task r) t m
managed_by_is (Err why) t m = refl
managed_by_is (Ok g) t m = roomed_managed (too_full m.book.posses t.task g) t g m

managed_one_is : (now : ℤ) (t : TaskRow) (m : Managed) → HasSoundLocks m.book → is_task_row t ≡ true → managed_one now t m ≡ decided_managed (decided m.book.posses (counters_at m.book now) t t.wants) t m
managed_one_is now t m h fits =
    managed_by_is (grant_all m.book.posses (counters_at m.book now) t t.wants) t m
    ∙ ap (λ (r : Result Granted Refusal). decided_managed r t m)
    (sym (decided_is m.book.posses (counters_at m.book now) t t.wants (have_numbers m.book (length t.wants) h (few_wants t fits))))

granted_managed : (o : Option Granted) (r : Result Granted Refusal) (t : TaskRow) (m : Managed) → IsGranted o r → started_with o t.task m ≡ decided_managed r t m
granted_managed None r t m h = ap (λ (x : Result Granted Refusal). decided_managed x t m) (sym h.1)
granted_managed (Some g) r t m h = ap (λ (x : Result Granted Refusal). decided_managed x t m) (sym h)

pub started_is : (now : ℤ) (t : TaskRow) (task : List ℕ) (o : Option Granted) (m : Managed) → HasSoundLocks m.book → is_task_row t ≡ true → t.task ≡ task
    → IsGranted o (decided m.book.posses (counters_at m.book now) t t.wants) → started_with o task m ≡ managed_one now t m
started_is now t task o m h fits own is =
    ap (λ (id : List ℕ). started_with o id m) (sym own)
    ∙ (granted_managed o (decided m.book.posses (counters_at m.book now) t t.wants) t m is ∙ sym (managed_one_is now t m h fits))
