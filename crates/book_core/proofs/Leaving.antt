-- Locks that are left or end, and what goes with them.
use Rattle.std.proofs.Common.{◌&&◌, ◌++◌, ◌==◌, ◌||◌, ◌≡◌, ◌∙◌, ◌∷◌, ℕ, Bool, List, None, Option, Some, [], ap, bytes_eq, cond, false, filter, is_some, map, not, refl, sym, true}
use Rattle.std.specs.List.{AllByRecursion}
use Rattle.std.proofs.lemmas.Bool.Decides.{Decides-eqb}
use Rattle.book_rows.specs.Lists.{stands_in}
use Rattle.book_rows.specs.Locks.{after_leave, ends, ends_at, left_all_locks, left_lock, left_locks, locks_of, stripped, stripped_upgrades}
use Rattle.book_rows.specs.Outcome.{task_of}
use Rattle.book_rows.specs.Reports.{Ended, ended}
use Rattle.book_rows.specs.TaskSteps.{after_end, all_failed, failed, status_set, with_ended, with_status}
use Rattle.book_rows.specs.declared.kinds.TaskStatus.{TaskStatus}
use Rattle.book_rows.specs.declared.rows.Book.{Book}
use Rattle.book_rows.specs.declared.rows.PendingRow.{PendingRow}
use Rattle.book_rows.specs.declared.rows.PosseRow.{PosseRow}
use Rattle.book_rows.specs.declared.rows.SequenceRow.{SequenceRow}
use Rattle.book_rows.specs.declared.rows.TaskRow.{TaskRow}
use Rattle.book_rows.specs.declared.rows.UpgradeRow.{UpgradeRow}
use Rattle.laws_locks.proofs.Lists.{both_true, none_found}
use Rattle.laws_locks.proofs.TaskRows.{set_other}
use Rattle.lock_posse.specs.Leaving.{ended_of, left_rows}
use Rattle.tab_pending.specs.PendingRows.{PendingRows}
use Rattle.book_core.specs.Ends.{ended_by_row}

-- ---- filters

module _ {X : Type 0} where
  all_stay : (p : X → Bool) → ((x : X) → p x ≡ true) → (xs : List X) → filter p xs ≡ xs
  all_stay p h [] = refl
  all_stay p h (x ∷ xs) = rw (h x) (ap (λ (rest : List X). x ∷ rest) (all_stay p h xs))

  -- what passes both tests passes one after the other
  one_meets : (x : X) (whole rest : List X) (p : X → Bool) (first second : Bool) → p x ≡ second → whole ≡ filter p rest → cond (first && second) (x ∷ whole) whole ≡ filter p (cond first (x ∷ rest) rest)
  one_meets x whole rest p false second e same = same
  one_meets x whole rest p true false e same = rw e same
  one_meets x whole rest p true true e same = rw e (ap (λ (xs : List X). x ∷ xs) same)

  filters_meet : (p q both : X → Bool) → ((x : X) → both x ≡ (p x && q x)) → (xs : List X) → filter both xs ≡ filter q (filter p xs)
  filters_meet p q both h [] = refl
  filters_meet p q both h (x ∷ xs) = rw (h x) (one_meets x (filter both xs) (filter p xs) q (p x) (q x) refl (filters_meet p q both h xs))

-- ---- one number more is gone

turned : (m n : ℕ) → (n == m) ≡ (m == n)
turned m n = both_true (n == m) (m == n) (λ e. (Decides-eqb m n).1 (sym ((Decides-eqb n m).0 e))) (λ e. (Decides-eqb n m).1 (sym ((Decides-eqb m n).0 e)))

gone_with : (here later : Bool) → not (here || later) ≡ (not (here && true) && not later)
gone_with true later = refl
gone_with false later = refl

gone_without : (here later : Bool) → not later ≡ (not (here && false) && not later)
gone_without true later = refl
gone_without false later = refl

-- where the lock of number n ends it goes with the later ones, and else those go alone
gone_by : (e : Bool) (n m : ℕ) (later : List ℕ) → not (stands_in (cond e (n ∷ later) later) m) ≡ (not ((m == n) && e) && not (stands_in later m))
gone_by true n m later = ap (λ (x : Bool). not (x || stands_in later m)) (turned m n) ∙ gone_with (m == n) (stands_in later m)
gone_by false n m later = gone_without (m == n) (stands_in later m)

-- ---- a task leaves its locks, one after another

-- the book with these locks, pendings and upgrade rows
abbrev left_tables : List ℕ → List ℕ → Book → Book
left_tables ns task b = record b {
  posses = left_rows ns task b.posses;
  pendings = stripped (stands_in (ended_of ns task b.posses)) b.pendings;
  upgrades = stripped_upgrades (stands_in (ended_of ns task b.posses)) b.upgrades;
}

left_are : (ns task : List ℕ) (b : Book) → left_locks ns task b ≡ left_tables ns task b
left_are [] task b = λ i. record b { pendings = sym (all_stay (λ (p : PendingRow). true) (λ p. refl) b.pendings) i; upgrades = sym (all_stay (λ (u : UpgradeRow). true) (λ u. refl) b.upgrades) i }
left_are (n ∷ ns) task b =
    let later : List ℕ = ended_of ns task (after_leave n task b.posses) in
    let e : Bool = ends n task b.posses in
    let more : left_tables ns task (left_lock n task b) ≡ left_tables (n ∷ ns) task b = λ i. record b {
      posses = left_rows ns task (after_leave n task b.posses);
      pendings = sym (filters_meet (λ (p : PendingRow). not (ends_at n task b.posses p.posse)) (λ p. not (stands_in later p.posse)) (λ p. not (stands_in (cond e (n ∷ later) later) p.posse)) (λ p. gone_by e n p.posse later) b.pendings) i;
      upgrades = sym (filters_meet (λ (u : UpgradeRow). not (ends_at n task b.posses u.posse)) (λ u. not (stands_in later u.posse)) (λ u. not (stands_in (cond e (n ∷ later) later) u.posse)) (λ u. gone_by e n u.posse later) b.upgrades) i;
    } in
    left_are ns task (left_lock n task b) ∙ more

pub all_left : (task : List ℕ) (b : Book) → left_all_locks task b ≡ left_tables (locks_of task b.posses) task b
all_left task b = left_are (locks_of task b.posses) task b

-- the task has left its locks, and what those held that ended is gone
pub leaving_done : (task : List ℕ) (b : Book) (ps : List PosseRow) (rows : PendingRows) (ns : List ℕ) → ps ≡ left_rows (locks_of task b.posses) task b.posses → ns ≡ ended_of (locks_of task b.posses) task b.posses
    → rows ≡ record { pendings = stripped (stands_in ns) b.pendings; upgrades = stripped_upgrades (stands_in ns) b.upgrades } → record b { posses = ps; pendings = rows.pendings; upgrades = rows.upgrades } ≡ left_all_locks task b
leaving_done task b ps rows ns left numbers gone =
    let here : record b { posses = ps; pendings = rows.pendings; upgrades = rows.upgrades }
    ≡ record b { posses = left_rows (locks_of task b.posses) task b.posses; pendings = stripped (stands_in ns) b.pendings; upgrades = stripped_upgrades (stands_in ns) b.upgrades } =
    λ i. record b { posses = left i; pendings = (gone i).pendings; upgrades = (gone i).upgrades } in
    here
    ∙ ap (λ (ms : List ℕ). record b { posses = left_rows (locks_of task b.posses) task b.posses; pendings = stripped (stands_in ms) b.pendings; upgrades = stripped_upgrades (stands_in ms) b.upgrades }) numbers
    ∙ sym (all_left task b)

-- ---- a task ends

-- leaving locks leaves the sequences, whatever they are
left_beside : (task : List ℕ) (us : List SequenceRow) (b : Book) → left_all_locks task (record b { sequences = us }) ≡ record (left_all_locks task b) { sequences = us }
left_beside task us b = all_left task (record b { sequences = us }) ∙ ap (λ (x : Book). record x { sequences = us }) (sym (all_left task b))

-- the sequences may look at who is left before the task leaves its locks
end_first : (e : Ended) (t : TaskRow) (status : TaskStatus) (b : Book)
    → with_ended e (with_status t.task status (left_all_locks t.task b)) ≡ all_failed e.tasks (with_status t.task status (left_all_locks t.task (record b { sequences = e.sequences })))
end_first e t status b = ap (λ (x : Book). all_failed e.tasks (with_status t.task status x)) (sym (left_beside t.task e.sequences b))

pub end_is : (t : TaskRow) (status : TaskStatus) (b : Book) (task : List ℕ) (o : Option TaskRow) → o ≡ Some t → t.task ≡ task
    → all_failed (ended_by_row o b).tasks (with_status task status (left_all_locks task (record b { sequences = (ended_by_row o b).sequences }))) ≡ after_end t status b
end_is t status b task o found own =
    ap (λ (x : Option TaskRow). all_failed (ended_by_row x b).tasks (with_status task status (left_all_locks task (record b { sequences = (ended_by_row x b).sequences })))) found
    ∙ ap (λ (id : List ℕ). all_failed (ended t.group t.task b.clock b.sequences).tasks (with_status id status (left_all_locks id (record b { sequences = (ended t.group t.task b.clock b.sequences).sequences })))) (sym own)
    ∙ sym (end_first (ended t.group t.task b.clock b.sequences) t status b)

-- ---- tasks fail

none_set : (task : List ℕ) (status : TaskStatus) (ts : List TaskRow) → AllByRecursion (λ t. bytes_eq t.task task ≡ false) ts → ts ≡ map (status_set task status) ts
none_set task status [] h = refl
none_set task status (t ∷ ts) h = λ i. set_other task status t h.0 i ∷ none_set task status ts h.1 i

none_there : (o : Option TaskRow) → is_some o ≡ false → o ≡ None
none_there None off = refl
none_there (Some t) off = absurd (cc)

-- no status is set where the task isn't there
pub unknown_stays : (task : List ℕ) (status : TaskStatus) (b : Book) → is_some (task_of task b.tasks) ≡ false → b ≡ with_status task status b
unknown_stays task status b off = λ i. record b { tasks = none_set task status b.tasks (none_found (λ (t : TaskRow). bytes_eq t.task task) b.tasks (none_there (task_of task b.tasks) off)) i }

pub all_failed_more : (tasks : List (List ℕ)) (task : List ℕ) (b : Book) → all_failed (tasks ++ task ∷ []) b ≡ failed task (all_failed tasks b)
all_failed_more [] task b = refl
all_failed_more (first ∷ rest) task b = all_failed_more rest task (failed first b)
