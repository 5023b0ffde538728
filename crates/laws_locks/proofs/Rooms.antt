-- The outcome of a command that is refused, or that a table without room refuses.
use Rattle.std.proofs.Common.{◌≡◌, Bool, true, false, cond, List, [], ◌∷◌, Some, None, Option, refl, nat_lt, length}
use Rattle.book_rows.specs.Outcome.{Outcome, all_tables, changed, fitted, fitted_by, is_full, no_room, running, running_as, number_limit, row_limit}
use Rattle.book_rows.specs.declared.kinds.Table.{Table}
use Rattle.book_rows.specs.declared.kinds.Table.TheVariants as Tables
use Rattle.book_rows.specs.declared.kinds.TaskStatus.{TaskStatus}
use Rattle.book_rows.specs.declared.kinds.TaskStatus.TheVariants as Statuses
use Rattle.book_rows.specs.declared.replies.Reply.{Reply}
use Rattle.book_rows.specs.declared.rows.Book.{Book}
use Rattle.book_rows.specs.declared.rows.TaskRow.{TaskRow}
use Rattle.laws_locks.specs.LockShape.{HasRoom}

fitted_by_keeps : (P : Book → Type 0) (o : Option Table) (b : Book) (out : Outcome) → P b → (o ≡ None → P out.book) → P (fitted_by o b out).book
fitted_by_keeps P (Some table) b out h f = h
fitted_by_keeps P None b out h f = f refl

-- what holds of the book before, and of the one after where the tables have room for it, holds of the outcome
pub fitted_keeps : (P : Book → Type 0) (tables : List Table) (b after : Book) (reply : Reply) → P b → (no_room tables after ≡ None → P after) → P (fitted tables b after reply).book
fitted_keeps P tables b after reply h f = fitted_by_keeps P (no_room tables after) b (changed after reply) h f

-- the first table has room, and the others
pub has_room : (x : Bool) (t : Table) (rest : Option Table) → cond x (Some t) rest ≡ None → (x ≡ false) × (rest ≡ None)
has_room true t rest e = cc
has_room false t rest e = (refl, e)

pub task_room : (rest : List Table) (b : Book) → no_room (Tables.Tasks ∷ rest) b ≡ None → nat_lt row_limit (length b.tasks) ≡ false
task_room rest b e = (has_room (is_full Tables.Tasks b) Tables.Tasks (no_room rest b) e).0

-- the tables that a grant adds to, and others after them
pub lock_room : (rest : List Table) (b : Book) → no_room (Tables.Locks ∷ Tables.Numbers ∷ rest) b ≡ None → (nat_lt row_limit (length b.posses) ≡ false) × (nat_lt number_limit b.next_lock ≡ false)
lock_room rest b e =
    let locks = has_room (is_full Tables.Locks b) Tables.Locks (no_room (Tables.Numbers ∷ rest) b) e in
    (locks.0, (has_room (is_full Tables.Numbers b) Tables.Numbers (no_room rest b) locks.1).0)

pub running_as_keeps : (P : Book → Type 0) (s : TaskStatus) (b : Book) (out : Outcome) → P b → (s ≡ Statuses.Running → P out.book) → P (running_as s b out).book
running_as_keeps P Statuses.Running b out h f = f refl
running_as_keeps P Statuses.Waiting b out h f = h
running_as_keeps P Statuses.Success b out h f = h
running_as_keeps P Statuses.Failed b out h f = h

-- what is done for a running task
pub running_keeps : (P : Book → Type 0) (o : Option TaskRow) (b : Book) (f : TaskRow → Outcome) → P b → ((t : TaskRow) → o ≡ Some t → t.status ≡ Statuses.Running → P (f t).book) → P (running o b f).book
running_keeps P None b f h next = h
running_keeps P (Some t) b f h next = running_as_keeps P t.status b (f t) h (λ runs. next t refl runs)

-- ---- all tables

abbrev tables_after : List Table
tables_after =
    Tables.Chunks ∷ Tables.Parts ∷ Tables.Segments ∷ Tables.Pendings ∷ Tables.Upgrades ∷ Tables.Publications ∷ Tables.Offsets ∷ Tables.Supervisors ∷ Tables.Sequences ∷ []

-- the tables of tasks and locks have room where all have
pub all_room : (b : Book) → no_room all_tables b ≡ None → HasRoom b.next_lock b.tasks b.posses
all_room b e =
    let tasks = has_room (is_full Tables.Tasks b) Tables.Tasks (no_room (Tables.Locks ∷ Tables.Numbers ∷ tables_after) b) e in
    let locks = lock_room tables_after b tasks.1 in
    record { tasks = tasks.0; locks = locks.0; numbers = locks.1 }
