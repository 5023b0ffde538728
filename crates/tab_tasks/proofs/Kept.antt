-- A map in which each row stands under its own task.
use Rattle.std.proofs.Common.{◌≡◌, ◌++◌, ◌∙◌, ◌∷◌, Bool, IfSome, List, None, Option, Some, [], ap, ap₂, bytes_eq, cond, false, inl, inr, map, option_copied, refl, subst, sym, true, ℕ}
use Rattle.std.specs.Cmp.Lexicographic.{nat_list_eq_equiv}
use Rattle.std.specs.List.{AllByRecursion}
use Rattle.std.specs.Map.{keys_of, lookup, set_value, values_of}
use Rattle.std.proofs.lemmas.Bool.{cases_Bool}
use Rattle.std.proofs.lemmas.Option.{none-some}
use Rattle.std.proofs.lemmas.Slice.Eq.{bytes_eq-Decides}
use denote.Ref.{Bor}
use Rattle.book_rows.specs.Outcome.{task_of}
use Rattle.book_rows.specs.Shape.{AreDistinct, same_task}
use Rattle.book_rows.specs.TaskSteps.{status_set}
use Rattle.book_rows.specs.declared.kinds.TaskStatus.{TaskStatus}
use Rattle.book_rows.specs.declared.rows.TaskRow.{TaskRow}
use Rattle.tab_tasks.specs.Entries.{HasOwnKeys, IsKept, set_in}

-- ---- the head and the rest

own_head : (e : List ℕ × TaskRow) (es : List (List ℕ × TaskRow)) → HasOwnKeys (e ∷ es) → e.0 ≡ e.1.task
own_head e es h = cc

own_rest : (e : List ℕ × TaskRow) (es : List (List ℕ × TaskRow)) → HasOwnKeys (e ∷ es) → HasOwnKeys es
own_rest e es h = cc

-- whether an entry stands under the task is whether its row is of the task
same_test : (task : List ℕ) (e : List ℕ × TaskRow) → e.0 ≡ e.1.task → bytes_eq task e.0 ≡ bytes_eq e.1.task task
same_test task e own = ap (bytes_eq task) own ∙ nat_list_eq_equiv.symm task e.1.task

-- ---- look-ups

-- what the map finds is the row of the task
pub found : (task : List ℕ) (es : List (List ℕ × TaskRow)) → HasOwnKeys es → lookup (bytes_eq task) es ≡ task_of task (values_of es)
found task [] h = refl
found task (e ∷ es) h =
    ap (λ b. cond b (Some e.1) (lookup (bytes_eq task) es)) (same_test task e (own_head e es h))
    ∙ ap (λ r. cond (bytes_eq e.1.task task) (Some e.1) r) (found task es (own_rest e es h))

-- the row of the task is of the task
own_row : (task : List ℕ) (ts : List TaskRow) (t : TaskRow) → Some t ≡ task_of task ts → t.task ≡ task
own_row task [] t h = absurd (none-some t (sym h))
own_row task (u ∷ us) t h =
    elim (cases_Bool (bytes_eq u.task task)) [
      | inl on ↦
          let same : Some t ≡ Some u = rw on at h in
          let row : t ≡ u = cc in
          ap (λ (x : TaskRow). x.task) row ∙ (bytes_eq-Decides u.task task).0 on
      | inr off ↦ own_row task us t (rw off at h)
    ]

pub is_of_task : (task : List ℕ) (ts : List TaskRow) (r : Option (Bor TaskRow)) → option_copied r ≡ task_of task ts → IfSome r (λ row. row.now.task ≡ task)
is_of_task task ts None h = tt
is_of_task task ts (Some row) h = own_row task ts row.now h

-- the map has no entry under a new row's task
pub absent : (task : List ℕ) (row : TaskRow) (es : List (List ℕ × TaskRow)) → HasOwnKeys es → task ≡ row.task → task_of row.task (values_of es) ≡ None
    → lookup (bytes_eq task) es ≡ None
absent task row es h same none = found task es h ∙ ap (λ (key : List ℕ). task_of key (values_of es)) same ∙ none

-- ---- a row more

pub values_push : (es : List (List ℕ × TaskRow)) (task : List ℕ) (row : TaskRow) → values_of (es ++ (task, row) ∷ []) ≡ values_of es ++ row ∷ []
values_push [] task row = refl
values_push (e ∷ es) task row = ap (λ ts. e.1 ∷ ts) (values_push es task row)

own_push : (es : List (List ℕ × TaskRow)) (task : List ℕ) (row : TaskRow) → task ≡ row.task → HasOwnKeys es → HasOwnKeys (es ++ (task, row) ∷ [])
own_push [] task row same h = ap (λ t. t ∷ []) same
own_push (e ∷ es) task row same h = ap₂ (λ a b. a ∷ b) (own_head e es h) (own_push es task row same (own_rest e es h))

all_push : (P : TaskRow → Type 0) (ts : List TaskRow) (row : TaskRow) → AllByRecursion P ts → P row → AllByRecursion P (ts ++ row ∷ [])
all_push P [] row h p = (p, tt)
all_push P (t ∷ ts) row h p = (h.0, all_push P ts row h.1 p)

distinct_push : (ts : List TaskRow) (row : TaskRow) → task_of row.task ts ≡ None → AreDistinct same_task ts → AreDistinct same_task (ts ++ row ∷ [])
distinct_push [] row none h = (tt, tt)
distinct_push (t ∷ ts) row none h =
    elim (cases_Bool (bytes_eq t.task row.task)) [
      | inl on ↦ absurd (none-some t (sym (rw on at none)))
      | inr off ↦
          let rest : task_of row.task ts ≡ None = rw off at none in
          (all_push (λ u. same_task t u ≡ false) ts row h.0 off, distinct_push ts row rest h.1)
    ]

pub kept_push : (es : List (List ℕ × TaskRow)) (task : List ℕ) (row : TaskRow) → IsKept es → task ≡ row.task → task_of row.task (values_of es) ≡ None
    → IsKept (es ++ (task, row) ∷ [])
kept_push es task row h same none = record {
  own = own_push es task row same h.own;
  distinct = subst (AreDistinct same_task) (sym (values_push es task row)) (distinct_push (values_of es) row none h.distinct);
}

-- ---- another status

abbrev set_by : TaskRow → TaskStatus → Bool → TaskRow
set_by t status b = record t { status = cond b status t.status }

-- the other rows stay
others_stay : (task : List ℕ) (status : TaskStatus) (t : TaskRow) (ts : List TaskRow) → bytes_eq t.task task ≡ true → AllByRecursion (λ u. same_task t u ≡ false) ts
    → map (status_set task status) ts ≡ ts
others_stay task status t [] on h = refl
others_stay task status t (u ∷ us) on h =
    let off : bytes_eq u.task task ≡ false = nat_list_eq_equiv.symm u.task task ∙ sym (nat_list_eq_equiv.congr t.task task u.task on) ∙ h.0 in
    ap₂ (λ a b. a ∷ b) (ap (set_by u status) off) (others_stay task status t us on h.1)

pub values_set_in : (task : List ℕ) (status : TaskStatus) (es : List (List ℕ × TaskRow)) → HasOwnKeys es → AreDistinct same_task (values_of es)
    → values_of (set_in task status es) ≡ map (status_set task status) (values_of es)
values_set_in task status [] own h = refl
values_set_in task status (e ∷ es) own h =
    elim (cases_Bool (bytes_eq task e.0)) [
      | inl on ↦
          let hit : bytes_eq e.1.task task ≡ true = sym (same_test task e (own_head e es own)) ∙ on in
          rw on (ap₂ (λ a b. a ∷ b) (sym (ap (set_by e.1 status) hit)) (sym (others_stay task status e.1 (values_of es) hit h.0)))
      | inr off ↦
          let miss : bytes_eq e.1.task task ≡ false = sym (same_test task e (own_head e es own)) ∙ off in
          rw off (ap₂ (λ a b. a ∷ b) (sym (ap (set_by e.1 status) miss)) (values_set_in task status es (own_rest e es own) h.1))
    ]

keys_set_in : (task : List ℕ) (status : TaskStatus) (es : List (List ℕ × TaskRow)) → keys_of (set_in task status es) ≡ keys_of es
keys_set_in task status [] = refl
keys_set_in task status (e ∷ es) =
    elim (bytes_eq task e.0) as (λ b. keys_of (cond b ((e.0, record e.1 { status = status }) ∷ es) (e ∷ set_in task status es)) ≡ e.0 ∷ keys_of es) [
      | true ↦ refl
      | false ↦ ap (λ ks. e.0 ∷ ks) (keys_set_in task status es)
    ]

tasks_set : (task : List ℕ) (status : TaskStatus) (ts : List TaskRow) → map (λ t. t.task) (map (status_set task status) ts) ≡ map (λ t. t.task) ts
tasks_set task status [] = refl
tasks_set task status (t ∷ ts) = ap (λ keys. t.task ∷ keys) (tasks_set task status ts)

others_set : (task : List ℕ) (status : TaskStatus) (t : TaskRow) (ts : List TaskRow) → AllByRecursion (λ u. same_task t u ≡ false) ts
    → AllByRecursion (λ u. same_task t u ≡ false) (map (status_set task status) ts)
others_set task status t [] h = tt
others_set task status t (u ∷ us) h = (h.0, others_set task status t us h.1)

distinct_set : (task : List ℕ) (status : TaskStatus) (ts : List TaskRow) → AreDistinct same_task ts → AreDistinct same_task (map (status_set task status) ts)
distinct_set task status [] h = tt
distinct_set task status (t ∷ ts) h = (others_set task status t ts h.0, distinct_set task status ts h.1)

pub kept_set_in : (task : List ℕ) (status : TaskStatus) (es : List (List ℕ × TaskRow)) → IsKept es → IsKept (set_in task status es)
kept_set_in task status es h =
    let values : values_of (set_in task status es) ≡ map (status_set task status) (values_of es) = values_set_in task status es h.own h.distinct in
    record {
      own = keys_set_in task status es ∙ h.own ∙ sym (ap (map (λ t. t.task)) values ∙ tasks_set task status (values_of es));
      distinct = subst (AreDistinct same_task) (sym values) (distinct_set task status (values_of es) h.distinct);
    }

-- ---- a write to the row that was found

write_by : (task : List ℕ) (status : TaskStatus) (e : List ℕ × TaskRow) (es : List (List ℕ × TaskRow)) (r : TaskRow) (b : Bool)
    → Some r ≡ cond b (Some e.1) (lookup (bytes_eq task) es)
    → (Some r ≡ lookup (bytes_eq task) es → set_value (bytes_eq task) es (record r { status = status }) ≡ set_in task status es)
    → cond b ((e.0, record r { status = status }) ∷ es) (e ∷ set_value (bytes_eq task) es (record r { status = status })) ≡ cond b ((e.0, record e.1 { status = status }) ∷ es) (e ∷ set_in task status es)
write_by task status e es r true h rest =
    let same : r ≡ e.1 = cc in
    ap (λ (x : TaskRow). (e.0, record x { status = status }) ∷ es) same
write_by task status e es r false h rest = ap (λ xs. e ∷ xs) (rest h)

pub write_found : (task : List ℕ) (status : TaskStatus) (es : List (List ℕ × TaskRow)) (r : TaskRow) → Some r ≡ lookup (bytes_eq task) es
    → set_value (bytes_eq task) es (record r { status = status }) ≡ set_in task status es
write_found task status [] r h = cc
write_found task status (e ∷ es) r h = write_by task status e es r (bytes_eq task e.0) h (write_found task status es r)

none_by : (task : List ℕ) (status : TaskStatus) (e : List ℕ × TaskRow) (es : List (List ℕ × TaskRow)) (b : Bool) → None ≡ cond b (Some e.1) (lookup (bytes_eq task) es)
    → (None ≡ lookup (bytes_eq task) es → set_in task status es ≡ es) → cond b ((e.0, record e.1 { status = status }) ∷ es) (e ∷ set_in task status es) ≡ e ∷ es
none_by task status e es true h rest = cc
none_by task status e es false h rest = ap (λ xs. e ∷ xs) (rest h)

pub none_set_in : (task : List ℕ) (status : TaskStatus) (es : List (List ℕ × TaskRow)) → None ≡ lookup (bytes_eq task) es → set_in task status es ≡ es
none_set_in task status [] h = refl
none_set_in task status (e ∷ es) h = none_by task status e es (bytes_eq task e.0) h (none_set_in task status es)
