-- Tables with one more row than before.
use Rattle.std.proofs.Common.{◌≡◌, ◌+◌, ◌∙◌, ℕ, Bool, true, false, cond, List, [], ◌∷◌, ◌++◌, length, nat_lt, refl, sym, ap, subst, length-append}
use Rattle.std.specs.Prelude.{None, Option, Some}
use Rattle.book_rows.specs.Outcome.{changed, fitted, fitted_by, is_full, no_room}
use Rattle.book_rows.specs.Over.{Inserting}
use Rattle.book_rows.specs.Publications.{Publish, drop_publication, in_spans, repeat_of}
use Rattle.book_rows.specs.PublishSteps.{over_running, published_or}
use Rattle.book_rows.specs.Rewrite.{after_drop, after_insert}
use Rattle.book_rows.specs.TaskSteps.{submitted, waiting_row}
use Rattle.book_rows.specs.declared.kinds.Table.{Table}
use Rattle.book_rows.specs.declared.kinds.Table.TheVariants as Tables
use Rattle.book_rows.specs.declared.kinds.TaskKind.TheVariants as TaskKinds
use Rattle.book_rows.specs.declared.kinds.TaskStatus.TheVariants as Statuses
use Rattle.book_rows.specs.declared.replies.Refusal.TheVariants as Refusals
use Rattle.book_rows.specs.declared.replies.Reply.{Reply}
use Rattle.book_rows.specs.declared.replies.Reply.TheVariants as Replies
use Rattle.book_rows.specs.declared.rows.Book.{Book}
use Rattle.book_rows.specs.declared.rows.Publication.{Publication}
use Rattle.book_rows.specs.declared.rows.TaskRow.{TaskRow}
use Rattle.cases_rules.specs.FullCases.{FullDrop, FullInsert, FullTasks, LastDrop, LastInsert, LastTask, LockedBeforeFull, RepeatBeforeFull, TakenBeforeFull, day_and_publications, of_day, with_tasks}
use Rattle.cases_rules.specs.LimitCases.{with_publications}
use Rattle.scenes.specs.Script.{a, day, id, now, w, x}

pub one_more : {A : Type 0} (rows : List A) (row : A) (n : ℕ) → length rows ≡ n → length (rows ++ row ∷ []) ≡ n + 1
one_more rows row n e = rw (length-append rows (row ∷ []), e) refl

-- a table that is too full refuses, and one with room lets the command through
one_full : (table : Table) (b after : Book) (r : Reply) → is_full table after ≡ true → (fitted (table ∷ []) b after r).reply ≡ Replies.Refused (Refusals.TableFull table)
one_full table b after r e =
    subst (λ (x : Bool). (fitted_by (cond x (Some table) (no_room [] after)) b (changed after r)).reply ≡ Replies.Refused (Refusals.TableFull table)) (sym e) refl

one_fits : (table : Table) (b after : Book) (r : Reply) → is_full table after ≡ false → (fitted (table ∷ []) b after r).reply ≡ r
one_fits table b after r e =
    subst (λ (x : Bool). (fitted_by (cond x (Some table) (no_room [] after)) b (changed after r)).reply ≡ r) (sym e) refl

row : TaskRow
row = waiting_row x x w TaskKinds.Batch 50 []

with_row : List TaskRow → Book
unfolding row
with_row ts = record (with_tasks ts) { tasks = ts ++ row ∷ [] }

pub full_tasks : FullTasks
unfolding row with_row
full_tasks ts none e =
    subst (λ (o : Option TaskRow). (submitted o (with_tasks ts) row).reply ≡ Replies.Refused (Refusals.TableFull Tables.Tasks)) (sym none)
    (one_full Tables.Tasks (with_tasks ts) (with_row ts) (Replies.Submit Statuses.Waiting x)
    (subst (λ (n : ℕ). nat_lt 262144 n ≡ true) (sym (one_more ts row 262144 e)) refl))

pub last_task : LastTask
unfolding row with_row
last_task ts none e =
    subst (λ (o : Option TaskRow). (submitted o (with_tasks ts) row).reply ≡ Replies.Submit Statuses.Waiting x) (sym none)
    (one_fits Tables.Tasks (with_tasks ts) (with_row ts) (Replies.Submit Statuses.Waiting x)
    (subst (λ (n : ℕ). nat_lt 262144 n ≡ false) (sym (one_more ts row 262143 e)) refl))

pub taken_before_full : TakenBeforeFull
unfolding row
taken_before_full ts t some e =
    subst (λ (o : Option TaskRow). (submitted o (with_tasks ts) row).reply ≡ Replies.Refused Refusals.TaskExists) (sym some) refl

with_drop : List Publication → Book
with_drop ms = after_drop w day (with_publications ms)

pub full_drop : FullDrop
unfolding with_drop
full_drop ms e =
    one_full Tables.Publications (with_publications ms) (with_drop ms) (Replies.Drop (length ms))
    (subst (λ (n : ℕ). nat_lt 262144 n ≡ true) (sym (one_more ms (drop_publication w day) 262144 e)) refl)

pub last_drop : LastDrop
unfolding with_drop
last_drop ms e =
    one_fits Tables.Publications (with_publications ms) (with_drop ms) (Replies.Drop (length ms))
    (subst (λ (n : ℕ). nat_lt 262144 n ≡ false) (sym (one_more ms (drop_publication w day) 262143 e)) refl)
    ∙ ap Replies.Drop e

holder : TaskRow
holder = record { task = a; group = a; source = w; kind = TaskKinds.Batch; priority = 50; status = Statuses.Running; wants = [] }

-- what it publishes
abbrev the_insert : Publish
the_insert = in_spans (day ∷ []) (id day now 0 ∷ []) [] None

with_insert : List Publication → Book
unfolding holder
with_insert ms = after_insert holder the_insert (record { span = day; lock = 1; version = now; since = 0 } ∷ []) (day_and_publications ms)

-- an insert that repeats none is decided by the room of the list of publications alone
decided : (ms : List Publication) (reply : Reply) → repeat_of of_day ms ≡ None
    → (over_running Inserting (day_and_publications ms) the_insert holder).reply ≡ reply
    → (published_or (repeat_of of_day ms) (day_and_publications ms) Statuses.Running Replies.Insert (over_running Inserting (day_and_publications ms) the_insert holder)).reply ≡ reply
unfolding holder
decided ms reply none e =
    subst (λ (o : Option ℕ). (published_or o (day_and_publications ms) Statuses.Running Replies.Insert (over_running Inserting (day_and_publications ms) the_insert holder)).reply ≡ reply)
    (sym none) e

room : List Publication → Bool → Reply
unfolding holder with_insert
room ms x = (fitted_by (cond x (Some Tables.Publications) (no_room (Tables.Offsets ∷ []) (with_insert ms))) (day_and_publications ms) (changed (with_insert ms) (Replies.Insert (length ms)))).reply

pub full_insert : FullInsert
unfolding holder with_insert room
full_insert ms none e =
    decided ms (Replies.Refused (Refusals.TableFull Tables.Publications)) none
    (subst (λ (x : Bool). room ms x ≡ Replies.Refused (Refusals.TableFull Tables.Publications))
    (sym (subst (λ (n : ℕ). nat_lt 262144 n ≡ true) (sym (one_more ms of_day 262144 e)) refl)) refl)

pub last_insert : LastInsert
unfolding holder with_insert room
last_insert ms none e =
    decided ms (Replies.Insert 262143) none
    (subst (λ (x : Bool). room ms x ≡ Replies.Insert (length ms))
    (sym (subst (λ (n : ℕ). nat_lt 262144 n ≡ false) (sym (one_more ms of_day 262143 e)) refl)) refl
    ∙ ap Replies.Insert e)

pub repeat_before_full : RepeatBeforeFull
unfolding holder
repeat_before_full ms some e =
    subst (λ (o : Option ℕ). (published_or o (day_and_publications ms) Statuses.Running Replies.Insert (over_running Inserting (day_and_publications ms) the_insert holder)).reply ≡ Replies.Insert 7)
    (sym some) refl

pub locked_before_full : LockedBeforeFull
locked_before_full ms e = refl
