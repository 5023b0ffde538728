-- A tick comes to what the rules say.
use Rattle.std.proofs.Common.{◌++◌, ◌+◌, ◌-◌, ◌<◌, ◌≡◌, ◌≤◌, ◌∙◌, ◌∷◌, ◌⊎◌, Bool, Err, IfOk, List, None, Ok, OnOk, Option, Result, Some, [], ap, arith, bytes_eq, cond, false, get_or, inl, inr, length, map, nat_lt, refl, subst, sym, take, true, ℕ, ℤ}
use Rattle.std.proofs.lemmas.Bool.{lt-ltb, ltb-false, ltb-true}
use Rattle.std.proofs.lemmas.List.{length-append, length-map}
use Rattle.book_rows.specs.Outcome as rules
use Rattle.book_rows.specs.Outcome.{all_tables, fitted_by, is_full, no_room, row_limit, task_of}
use Rattle.book_rows.specs.Shape.{AreDistinct, same_task}
use Rattle.book_rows.specs.Sound.{Sound}
use Rattle.book_rows.specs.SupSteps.{after_tick, tick_outcome, with_tasks}
use Rattle.book_rows.specs.TaskSteps.{all_failed, status_set}
use Rattle.book_rows.specs.Ticks.{Ticking}
use Rattle.book_rows.specs.declared.kinds.Table.{Table}
use Rattle.book_rows.specs.declared.kinds.Table.TheVariants as Tables
use Rattle.book_rows.specs.declared.kinds.TaskStatus.TheVariants as Statuses
use Rattle.book_rows.specs.declared.replies.Refusal.{Refusal}
use Rattle.book_rows.specs.declared.replies.Refusal.TheVariants as Refusals
use Rattle.book_rows.specs.declared.replies.Reply.{Reply}
use Rattle.book_rows.specs.declared.replies.Reply.TheVariants as Replies
use Rattle.book_rows.specs.declared.rows.Book.{Book}
use Rattle.book_rows.specs.declared.rows.SequenceRow.{SequenceRow}
use Rattle.book_rows.specs.declared.rows.TaskRow.{TaskRow}
use Rattle.laws_locks.proofs.Lists.{both_true, none_found}
use Rattle.laws_sequences.proofs.LiveSteps.{sequences_stay}
use Rattle.laws_sequences.proofs.Lines.{all_failed_keeps}
use Rattle.publish_rows.proofs.NewRows.{found_nowhere, next_apart}
use Rattle.sup_core.specs.Ticking.{tick_fault}
use Rattle.sup_core.specs.declared.answers.SupFault.{SupFault}
use Rattle.sup_core.specs.declared.answers.SupFault.TheVariants as Faults
use Rattle.book_core.specs.Done.{IsDone}
use Rattle.overlord_core.specs.Supervised.{IsTickRefusal, may_refuse_tick}
use Rattle.book_core.specs.declared.outcomes.Outcome.{Outcome}

-- ---- whether there is room

-- so many more fit where there is room for no more than what is left
room_left : (n more : ℕ) → n ≤ row_limit → nat_lt row_limit (n + more) ≡ nat_lt (row_limit - n) more
room_left n more few =
    both_true (nat_lt row_limit (n + more)) (nat_lt (row_limit - n) more)
    (λ e. let over : row_limit < n + more = ltb-true row_limit (n + more) e in lt-ltb (row_limit - n) more (omega arith))
    (λ e. let over : row_limit - n < more = ltb-true (row_limit - n) more e in lt-ltb row_limit (n + more) (omega arith))

pub few_tasks : (b : Book) → Sound b → length b.tasks ≤ row_limit
few_tasks b s = ltb-false row_limit (length b.tasks) (none_found (λ table. is_full table b) all_tables s.shape.limits.room).0

as_many_failed : (tasks : List (List ℕ)) (b : Book) → length (all_failed tasks b).tasks ≡ length b.tasks
as_many_failed tasks b = all_failed_keeps (λ c. length c.tasks ≡ length b.tasks) (λ n task c e. e) (λ task c e. length-map c.tasks (status_set task Statuses.Failed) ∙ e) tasks b refl

module _ (b : Book) (k : Ticking) (now : ℤ) where
  abbrev start : Book
  start = record b { clock = now; sequences = k.rows }

  abbrev done : rules.Outcome
  done = rules.changed (after_tick k now b) (Replies.Tick k.told.abandoned k.told.opened k.told.paused)

  abbrev table_by : Bool → Bool → Option Table
  table_by tasks sequences = cond tasks (Some Tables.Tasks) (cond sequences (Some Tables.Sequences) None)

  abbrev fault_by : Bool → Bool → Option SupFault
  fault_by tasks sequences = cond tasks (Some (Faults.Full Tables.Tasks)) (cond sequences (Some (Faults.Full Tables.Sequences)) None)

  abbrev tasks_over : Bool
  tasks_over = nat_lt (row_limit - length b.tasks) (length k.told.submitted)

  abbrev sequences_over : Bool
  sequences_over = nat_lt row_limit (length k.rows)

  tasks_are : length b.tasks ≤ row_limit → nat_lt row_limit (length (after_tick k now b).tasks) ≡ tasks_over
  tasks_are few =
      ap (nat_lt row_limit) (length-append (all_failed k.told.ended start).tasks k.told.submitted ∙ ap (λ (n : ℕ). n + length k.told.submitted) (as_many_failed k.told.ended start))
      ∙ room_left (length b.tasks) (length k.told.submitted) few

  sequences_are : nat_lt row_limit (length (after_tick k now b).sequences) ≡ sequences_over
  sequences_are = ap (λ (us : List SequenceRow). nat_lt row_limit (length us)) (sequences_stay k.told.ended start)

  room_is : length b.tasks ≤ row_limit → tick_outcome b k now ≡ fitted_by (table_by tasks_over sequences_over) b done
  room_is few =
      ap (λ (x : Bool). fitted_by (table_by x (nat_lt row_limit (length (after_tick k now b).sequences))) b done) (tasks_are few)
      ∙ ap (λ (x : Bool). fitted_by (table_by tasks_over x) b done) sequences_are

  has_room : (tasks sequences : Bool) → fault_by tasks sequences ≡ None → fitted_by (table_by tasks sequences) b done ≡ done
  has_room true sequences passes = absurd (cc)
  has_room false true passes = absurd (cc)
  has_room false false passes = refl

  -- the tick is done
  pub tick_is : length b.tasks ≤ row_limit → tick_fault (row_limit - length b.tasks) k ≡ None → tick_outcome b k now ≡ done
  tick_is few passes = room_is few ∙ has_room tasks_over sequences_over passes

  full_why : (table : Table) (fault : SupFault) (why : Refusal) → Some (Faults.Full table) ≡ Some fault → IsTickRefusal fault why → rules.refused b (Refusals.TableFull table) ≡ rules.refused b why
  full_why table fault why is h =
      let same : fault ≡ Faults.Full table = cc in
      ap (λ (w : Refusal). rules.refused b w) (sym (subst (λ (f : SupFault). IsTickRefusal f why) same h))

  no_space : (tasks sequences : Bool) (fault : SupFault) (why : Refusal) → fault_by tasks sequences ≡ Some fault → IsTickRefusal fault why → fitted_by (table_by tasks sequences) b done ≡ rules.refused b why
  no_space true sequences fault why is h = full_why Tables.Tasks fault why is h
  no_space false true fault why is h = full_why Tables.Sequences fault why is h
  no_space false false fault why is h = absurd (cc)

  full_by : (tasks sequences : Bool) (fault : SupFault) → fault_by tasks sequences ≡ Some fault → may_refuse_tick fault ≡ true
  full_by true sequences fault is = let same : Faults.Full Tables.Tasks ≡ fault = cc in subst (λ (f : SupFault). may_refuse_tick f ≡ true) same refl
  full_by false true fault is = let same : Faults.Full Tables.Sequences ≡ fault = cc in subst (λ (f : SupFault). may_refuse_tick f ≡ true) same refl
  full_by false false fault is = absurd (cc)

  -- only a table that is too full refuses it
  pub tick_may_refuse : (fault : SupFault) → (fault ≡ Faults.OutOfMemory) ⊎ (tick_fault (row_limit - length b.tasks) k ≡ Some fault) → may_refuse_tick fault ≡ true
  tick_may_refuse fault (inl none) = subst (λ (f : SupFault). may_refuse_tick f ≡ true) (sym none) refl
  tick_may_refuse fault (inr is) = full_by tasks_over sequences_over fault is

  pub tick_refused : (fault : SupFault) (why : Refusal) → length b.tasks ≤ row_limit → (fault ≡ Faults.OutOfMemory) ⊎ (tick_fault (row_limit - length b.tasks) k ≡ Some fault) → IsTickRefusal fault why → tick_outcome b k now ≡ rules.refused b why
  tick_refused fault why few (inl none) h = absurd (subst (λ (f : SupFault). IsTickRefusal f why) none h)
  tick_refused fault why few (inr is) h = room_is few ∙ no_space tasks_over sequences_over fault why is h

-- what was told and done is the outcome
pub ticked_done : {E : Type 0} (r : Result Outcome E) (now after : Book) (reply : Reply) → IfOk r (λ o. o ≡ record { reply = reply; changes = true }) → OnOk r (now ≡ after) → IfOk r (λ o. IsDone o now (rules.changed after reply))
ticked_done (Err e) now after reply is left = tt
ticked_done (Ok o) now after reply is left = record { reply = ap (λ (x : Outcome). x.reply) is; changes = ap (λ (x : Outcome). x.changes) is; book = left }

-- ---- the new tasks

pub task_is_new : (old added rows : List TaskRow) (t : TaskRow) → AreDistinct same_task (old ++ rows) → added ≡ take (length added) rows → length added < length rows → t ≡ get_or rows (length added) t
    → task_of t.task (old ++ added) ≡ None
task_is_new old added rows t distinct so_far within is =
    found_nowhere (λ (u : TaskRow). bytes_eq u.task t.task) (old ++ added) (next_apart (λ (u v : TaskRow). same_task u v ≡ false) old added rows t distinct so_far within is)
