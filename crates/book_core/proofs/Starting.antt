-- Each waiting task that starts keeps the shape of tasks and locks, and that valid locks are compatible.
use Rattle.std.proofs.Common.{◌≡◌, ◌∷◌, ℕ, ℤ, Err, List, None, Ok, Option, Result, Some, [], ap, bytes_eq, refl, subst, sym, true}
use Rattle.iv_time.specs.Range.{is_instant}
use Rattle.book_rows.specs.Grant.{counters_at, grant_all}
use Rattle.book_rows.specs.Lists.{In}
use Rattle.book_rows.specs.Outcome.{no_room, task_of}
use Rattle.book_rows.specs.TaskSteps.{Managed, managed_by, started_by}
use Rattle.book_rows.specs.declared.answers.Granted.{Granted}
use Rattle.book_rows.specs.declared.kinds.Table.{Table}
use Rattle.book_rows.specs.declared.kinds.Table.TheVariants as Tables
use Rattle.book_rows.specs.declared.replies.Refusal.{Refusal}
use Rattle.book_rows.specs.declared.rows.Book.{Book}
use Rattle.book_rows.specs.declared.rows.TaskRow.{TaskRow}
use Rattle.laws_locks.specs.LockShape.{HasSoundLocks}
use Rattle.laws_locks.proofs.Lists.{found_In}
use Rattle.laws_locks.proofs.Managing.{is_started, start_keeps}
use Rattle.book_core.specs.Managed.{managed_named, managed_with}
use Rattle.book_core.specs.declared.managing.Told.{Told}

-- ---- one task

started_keeps : (o : Option Table) (now : ℤ) (t : TaskRow) (g : Granted) (m : Managed) → no_room (Tables.Locks ∷ Tables.Numbers ∷ []) (is_started t g m.book) ≡ o → HasSoundLocks m.book → In t m.book.tasks → is_instant now ≡ true
    → grant_all m.book.posses (counters_at m.book now) t t.wants ≡ Ok g → HasSoundLocks (started_by o t (is_started t g m.book) m).book
started_keeps (Some table) now t g m room h among i e = h
started_keeps None now t g m room h among i e = start_keeps m.book t now g h among i e room

by_keeps : (r : Result Granted Refusal) (now : ℤ) (t : TaskRow) (m : Managed) → grant_all m.book.posses (counters_at m.book now) t t.wants ≡ r → HasSoundLocks m.book → In t m.book.tasks → is_instant now ≡ true
    → HasSoundLocks (managed_by r t m).book
by_keeps (Err why) now t m e h among i = h
by_keeps (Ok g) now t m e h among i = started_keeps (no_room (Tables.Locks ∷ Tables.Numbers ∷ []) (is_started t g m.book)) now t g m refl h among i e

-- ---- the task of an id

pub among_tasks : (task : List ℕ) (b : Book) (t : TaskRow) → task_of task b.tasks ≡ Some t → In t b.tasks
among_tasks task b t e = (found_In (λ t. bytes_eq t.task task) t b.tasks e).0

named_keeps : (o : Option TaskRow) (now : ℤ) (task : List ℕ) (m : Managed) → task_of task m.book.tasks ≡ o → HasSoundLocks m.book → is_instant now ≡ true → HasSoundLocks (managed_named now o m).book
named_keeps None now task m e h i = h
named_keeps (Some t) now task m e h i = by_keeps (grant_all m.book.posses (counters_at m.book now) t t.wants) now t m refl h (among_tasks task m.book t e) i

-- the book after it keeps both
pub after_keeps : (now : ℤ) (task : List ℕ) (b after : Book) (told tell : Told) → HasSoundLocks b → is_instant now ≡ true
    → managed_with after tell ≡ managed_named now (task_of task b.tasks) (managed_with b told) → HasSoundLocks after
after_keeps now task b after told tell h i same =
    subst (λ (x : Book). HasSoundLocks x) (sym (ap (λ (m : Managed). m.book) same)) (named_keeps (task_of task b.tasks) now task (managed_with b told) refl h i)
