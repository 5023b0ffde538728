-- The clock is stepped: tasks fail, and tasks are added.
use Rattle.std.proofs.Common.{◌≡◌, ℕ, ℤ, true, false, List, [], ◌∷◌, ◌++◌, map, refl, length, nat_lt, sym, subst}
use Rattle.std.specs.List.{AllByRecursion, list_all}
use Rattle.std.proofs.lemmas.Bool.{and_from, and_parts}
use Rattle.iv_time.specs.Range.{is_instant}
use Rattle.book_rows.specs.Grant.{moment}
use Rattle.book_rows.specs.Locks.{left_all_locks, left_lock, left_locks, locks_of}
use Rattle.book_rows.specs.Outcome.{row_limit}
use Rattle.book_rows.specs.Shape.{AreDistinct, is_task_row, same_task}
use Rattle.book_rows.specs.SupSteps.{after_tick, tick_outcome, with_tasks}
use Rattle.book_rows.specs.TaskSteps.{all_failed, failed, status_set}
use Rattle.book_rows.specs.Ticks.{Ticking, ticked}
use Rattle.book_rows.specs.declared.kinds.Table.TheVariants as Tables
use Rattle.book_rows.specs.declared.kinds.TaskStatus.{TaskStatus}
use Rattle.book_rows.specs.declared.kinds.TaskStatus.TheVariants as Statuses
use Rattle.book_rows.specs.declared.replies.Reply.TheVariants as Replies
use Rattle.book_rows.specs.declared.rows.Book.{Book}
use Rattle.book_rows.specs.declared.rows.TaskRow.{TaskRow}
use Rattle.laws_locks.specs.Commands.{TickKeepsLocks}
use Rattle.laws_locks.specs.LockShape.{AreTaskRows, HasSoundLocks}
use Rattle.laws_locks.proofs.Ending.{end_task_keeps}
use Rattle.laws_locks.proofs.Instants.{later_is_instant}
use Rattle.laws_locks.proofs.Members.{members_more}
use Rattle.laws_locks.proofs.Rooms.{fitted_keeps, task_room}

-- ---- another status of tasks that others follow

module _ (task : List ℕ) (status : TaskStatus) (rows : List TaskRow) where
  set_first : (P : TaskRow → Type 0) → ((u : TaskRow) → P u → P (status_set task status u)) → (ts : List TaskRow) → AllByRecursion P (ts ++ rows) → AllByRecursion P (map (status_set task status) ts ++ rows)
  set_first P f [] h = h
  set_first P f (t ∷ ts) h = (f t h.0, set_first P f ts h.1)

  limits_set : (ts : List TaskRow) → list_all is_task_row (ts ++ rows) ≡ true → list_all is_task_row (map (status_set task status) ts ++ rows) ≡ true
  limits_set [] h = h
  limits_set (t ∷ ts) h =
      let both = and_parts (is_task_row t) (list_all is_task_row (ts ++ rows)) h in
      and_from (is_task_row t) (list_all is_task_row (map (status_set task status) ts ++ rows)) both.0 (limits_set ts both.1)

  keys_set : (ts : List TaskRow) → AreDistinct same_task (ts ++ rows) → AreDistinct same_task (map (status_set task status) ts ++ rows)
  keys_set [] h = h
  keys_set (t ∷ ts) h = (set_first (λ u. same_task t u ≡ false) (λ u e. e) ts h.0, keys_set ts h.1)

  pub followed : (ts : List TaskRow) → AreTaskRows (ts ++ rows) → AreTaskRows (map (status_set task status) ts ++ rows)
  followed ts h = record { rows = limits_set ts h.rows; keys = keys_set ts h.keys }

-- ---- several tasks fail

-- leaving locks touches no task
pub tasks_left : (ns task : List ℕ) (b : Book) → (left_locks ns task b).tasks ≡ b.tasks
tasks_left [] task b = refl
tasks_left (n ∷ ns) task b = tasks_left ns task (left_lock n task b)

failed_followed : (task : List ℕ) (rows : List TaskRow) (b : Book) → AreTaskRows (b.tasks ++ rows) → AreTaskRows ((failed task b).tasks ++ rows)
failed_followed task rows b h =
    followed task Statuses.Failed rows (left_all_locks task b).tasks (subst (λ (ts : List TaskRow). AreTaskRows (ts ++ rows)) (sym (tasks_left (locks_of task b.posses) task b)) h)

all_followed : (tasks : List (List ℕ)) (rows : List TaskRow) (b : Book) → HasSoundLocks b → AreTaskRows (b.tasks ++ rows) → HasSoundLocks (all_failed tasks b) × AreTaskRows ((all_failed tasks b).tasks ++ rows)
all_followed [] rows b h more = (h, more)
all_followed (task ∷ rest) rows b h more = all_followed rest rows (failed task b) (end_task_keeps task Statuses.Failed b h) (failed_followed task rows b more)

-- ---- tasks are added

added_keeps : (rows : List TaskRow) (b : Book) → nat_lt row_limit (length (b.tasks ++ rows)) ≡ false → HasSoundLocks b → AreTaskRows (b.tasks ++ rows) → HasSoundLocks (with_tasks rows b)
added_keeps rows b room h more = (
  record {
    room = record { tasks = room; locks = h.0.room.locks; numbers = h.0.room.numbers };
    instants = h.0.instants;
    tasks = more;
    locks = h.0.locks;
    members = members_more b.tasks rows b.posses h.0.members;
  },
  h.1,
)

-- ---- the command

clock_set : (b : Book) (k : Ticking) (now : ℤ) → is_instant now ≡ true → HasSoundLocks b → HasSoundLocks (record b { clock = now; sequences = k.rows })
clock_set b k now i h = (
  record { room = h.0.room; instants = record { clock = i; last = h.0.instants.last }; tasks = h.0.tasks; locks = h.0.locks; members = h.0.members },
  h.1,
)

ticked_keeps : (b : Book) (k : Ticking) (now : ℤ) → is_instant now ≡ true → AreTaskRows (b.tasks ++ k.told.submitted) → HasSoundLocks b → HasSoundLocks (tick_outcome b k now).book
ticked_keeps b k now i more h =
    let start : Book = record b { clock = now; sequences = k.rows } in
    let after = all_followed k.told.ended k.told.submitted start (clock_set b k now i h) more in
    fitted_keeps HasSoundLocks (Tables.Tasks ∷ Tables.Sequences ∷ []) b (after_tick k now b) (Replies.Tick k.told.abandoned k.told.opened k.told.paused) h
    (λ room. added_keeps k.told.submitted (all_failed k.told.ended start) (task_room (Tables.Sequences ∷ []) (after_tick k now b) room) after.0 after.1)

pub tick_keeps_locks : TickKeepsLocks
tick_keeps_locks now b form more h =
    ticked_keeps b (ticked b.offsets (moment b now) b.supervisors b.sequences) (moment b now) (later_is_instant now b.clock form h.0.instants.clock) more h
