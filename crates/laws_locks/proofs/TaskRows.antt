-- Rows of tasks: a new one, and another status.
use Rattle.std.proofs.Common.{◌≡◌, ℕ, Bool, true, false, cond, List, [], ◌∷◌, ◌++◌, map, sym, ◌∙◌, inl, inr, ap, subst, bytes_eq}
use Rattle.std.proofs.lemmas.Bool.{false≢true, cases_Bool}
use Rattle.std.proofs.lemmas.Slice.Eq.{bytes_eq-Decides}
use Rattle.book_rows.specs.Lists.{In}
use Rattle.book_rows.specs.Shape.{is_task_row}
use Rattle.book_rows.specs.TaskSteps.{status_set}
use Rattle.book_rows.specs.declared.kinds.TaskStatus.{TaskStatus}
use Rattle.book_rows.specs.declared.rows.TaskRow.{TaskRow}
use Rattle.laws_locks.specs.LockShape.{AreTaskRows}
use Rattle.laws_locks.proofs.Lists.{map_In, pairs_map, pairs_push, pass_map, pass_push}
use Rattle.std.specs.List.{AllByRecursion}

pub bytes_differ : (xs ys : List ℕ) → bytes_eq xs ys ≡ false → bytes_eq ys xs ≡ false
bytes_differ xs ys off = elim (cases_Bool (bytes_eq ys xs)) [
  | inr other ↦ other
  | inl on ↦ absurd (false≢true (sym off ∙ (bytes_eq-Decides xs ys).1 (sym ((bytes_eq-Decides ys xs).0 on))))
]

-- another status of whichever task
pub task_rows_set : (task : List ℕ) (status : TaskStatus) (ts : List TaskRow) → AreTaskRows ts → AreTaskRows (map (status_set task status) ts)
task_rows_set task status ts h = record {
  rows = pass_map is_task_row is_task_row (status_set task status) (λ t e. e) ts h.rows;
  keys = pairs_map _ _ (status_set task status) (λ t u e. e) ts h.keys;
}

-- a task more, of an id that no other has
pub task_rows_push : (ts : List TaskRow) (t : TaskRow) → AreTaskRows ts → is_task_row t ≡ true → AllByRecursion (λ u. bytes_eq u.task t.task ≡ false) ts → AreTaskRows (ts ++ t ∷ [])
task_rows_push ts t h fits new = record { rows = pass_push is_task_row ts t h.rows fits; keys = pairs_push _ ts t h.keys new }

-- a task of another id stays as it is
pub set_other : (task : List ℕ) (status : TaskStatus) (t : TaskRow) → bytes_eq t.task task ≡ false → t ≡ status_set task status t
set_other task status t off = ap (λ (b : Bool). record t { status = cond b status t.status }) (sym off)

pub other_stays : (task : List ℕ) (status : TaskStatus) (t : TaskRow) (ts : List TaskRow) → bytes_eq t.task task ≡ false → In t ts → In t (map (status_set task status) ts)
other_stays task status t ts off i = subst (λ (u : TaskRow). In u (map (status_set task status) ts)) (sym (set_other task status t off)) (map_In (status_set task status) t ts i)
