-- The waiting tasks, each found by its id as the tasks before it start.
use Rattle.std.proofs.Common.{◌≡◌, ◌∙◌, ◌++◌, ◌∷◌, ℕ, ℤ, Err, List, None, Ok, Option, Result, Some, [], ap, bytes_eq, false, filter, inl, inr, map, refl, sym}
use Rattle.std.proofs.lemmas.Bool.{cases_Bool, cond-false, cond-true}
use Rattle.std.proofs.lemmas.Slice.Eq.{bytes_eq-Decides}
use Rattle.book_rows.specs.Grant.{book_granted, counters_at, grant_all, moment}
use Rattle.book_rows.specs.Lists.{In}
use Rattle.book_rows.specs.Outcome.{no_room, task_of}
use Rattle.book_rows.specs.Shape.{AreDistinct, same_task}
use Rattle.book_rows.specs.TaskSteps.{Managed, is_waiting, managed, managed_all, managed_by, managed_one, started_by, status_set, with_status}
use Rattle.book_rows.specs.declared.answers.Granted.{Granted}
use Rattle.book_rows.specs.declared.kinds.Table.{Table}
use Rattle.book_rows.specs.declared.kinds.Table.TheVariants as Tables
use Rattle.book_rows.specs.declared.kinds.TaskStatus.{TaskStatus}
use Rattle.book_rows.specs.declared.kinds.TaskStatus.TheVariants as Statuses
use Rattle.book_rows.specs.declared.replies.Refusal.{Refusal}
use Rattle.book_rows.specs.declared.rows.Book.{Book}
use Rattle.book_rows.specs.declared.rows.TaskRow.{TaskRow}
use Rattle.laws_locks.specs.LockShape.{HasSoundLocks}
use Rattle.laws_locks.proofs.Lists.{In-all, In-filter, pairs_filter}
use Rattle.laws_locks.proofs.TaskRows.{bytes_differ, set_other}
use Rattle.task_queue.specs.Waiting.{waiting_ids}
use Rattle.book_core.specs.Managed.{managed_ids, managed_named}

-- ---- look-ups

-- a task of the list is the one of its id
pub found_first : (ts : List TaskRow) (t : TaskRow) → AreDistinct same_task ts → In t ts → task_of t.task ts ≡ Some t
found_first [] t d i = absurd i
found_first (u ∷ us) t d (inl same) =
    let own : u.task ≡ t.task = ap (λ (x : TaskRow). x.task) (sym same) in
    cond-true (bytes_eq u.task t.task) (Some u) (task_of t.task us) ((bytes_eq-Decides u.task t.task).1 own) ∙ ap (λ (x : TaskRow). Some x) (sym same)
found_first (u ∷ us) t d (inr i) =
    let off : bytes_eq u.task t.task ≡ false = In-all (λ v. same_task u v ≡ false) t us i d.0 in
    cond-false (bytes_eq u.task t.task) (Some u) (task_of t.task us) off ∙ found_first us t d.1 i

some_is : (t u : TaskRow) → Some t ≡ Some u → t ≡ u
some_is t u e = cc

-- another status of one task leaves the look-up of another
found_still : (task : List ℕ) (status : TaskStatus) (u : TaskRow) (ts : List TaskRow) → bytes_eq u.task task ≡ false → task_of u.task ts ≡ Some u → task_of u.task (map (status_set task status) ts) ≡ Some u
found_still task status u [] off e = e
found_still task status u (t ∷ ts) off e = elim (cases_Bool (bytes_eq t.task u.task)) [
  | inl on ↦ rw on (ap (λ (x : TaskRow). Some (status_set task status x)) (some_is t u (rw on at e)) ∙ ap (λ (x : TaskRow). Some x) (sym (set_other task status u off)))
  | inr past ↦ rw past (found_still task status u ts off (rw past at e))
]

-- ---- one task starts or waits

abbrev is_started : TaskRow → Granted → Book → Book
is_started t g b = with_status t.task Statuses.Running (book_granted b t.task g)

started_named : (o : Option Table) (t u : TaskRow) (g : Granted) (m : Managed) → bytes_eq u.task t.task ≡ false → task_of u.task m.book.tasks ≡ Some u
    → task_of u.task (started_by o t (is_started t g m.book) m).book.tasks ≡ Some u
started_named (Some table) t u g m off e = e
started_named None t u g m off e = found_still t.task Statuses.Running u m.book.tasks off e

named_after : (r : Result Granted Refusal) (t u : TaskRow) (m : Managed) → bytes_eq u.task t.task ≡ false → task_of u.task m.book.tasks ≡ Some u → task_of u.task (managed_by r t m).book.tasks ≡ Some u
named_after (Err why) t u m off e = e
named_after (Ok g) t u m off e = started_named (no_room (Tables.Locks ∷ Tables.Numbers ∷ []) (is_started t g m.book)) t u g m off e

-- ---- all of them

-- each is found in the book so far, and no two are of one id
record AreNamed (ts : List TaskRow) (m : Managed) : Type 0 where
  found : (t : TaskRow) → In t ts → task_of t.task m.book.tasks ≡ Some t
  distinct : AreDistinct same_task ts

ids_are : (now : ℤ) (ts : List TaskRow) (m : Managed) → AreNamed ts m → managed_ids now (map (λ (t : TaskRow). t.task) ts) m ≡ managed_all now ts m
ids_are now [] m h = refl
ids_are now (t ∷ ts) m h =
    ap (λ (o : Option TaskRow). managed_ids now (map (λ (t : TaskRow). t.task) ts) (managed_named now o m)) (h.found t (inl refl))
    ∙ ids_are now ts (managed_one now t m) (record {
      found = λ u i. named_after (grant_all m.book.posses (counters_at m.book now) t t.wants) t u m (bytes_differ t.task u.task (In-all (λ v. same_task t v ≡ false) u ts i h.distinct.0)) (h.found u (inr i));
      distinct = h.distinct.1;
    })

pub managed_more : (now : ℤ) (ids : List (List ℕ)) (task : List ℕ) (m : Managed) → managed_ids now (ids ++ task ∷ []) m ≡ managed_named now (task_of task (managed_ids now ids m).book.tasks) (managed_ids now ids m)
managed_more now [] task m = refl
managed_more now (id ∷ ids) task m = managed_more now ids task (managed_named now (task_of id m.book.tasks) m)

pub managed_is : (b : Book) (now : ℤ) → HasSoundLocks b → managed_ids now (waiting_ids b.tasks) (record { book = record b { clock = moment b now }; running = []; waiting = [] }) ≡ managed b now
managed_is b now h =
    ids_are now (filter is_waiting b.tasks) (record { book = record b { clock = moment b now }; running = []; waiting = [] }) (record {
      found = λ t i. found_first b.tasks t h.0.tasks.keys (In-filter is_waiting t b.tasks i).0;
      distinct = pairs_filter _ is_waiting b.tasks h.0.tasks.keys;
    })
