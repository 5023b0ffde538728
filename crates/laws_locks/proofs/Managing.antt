-- The waiting tasks are started.
use Rattle.std.proofs.Common.{◌≡◌, ℕ, ℤ, true, false, List, [], ◌∷◌, map, filter, Some, None, Option, Result, Ok, Err, refl, sym, inl, inr, subst, bytes_eq, length}
use Rattle.std.specs.List.{list_all}
use Rattle.std.proofs.lemmas.Bool.{and_parts, cond-true}
use Rattle.std.proofs.lemmas.List.{length-map}
use Rattle.std.proofs.lemmas.Slice.Eq.{bytes_eq-Decides}
use Rattle.iv_time.specs.Range.{is_instant}
use Rattle.book_rows.specs.Form.{is_want}
use Rattle.book_rows.specs.Grant.{book_granted, counters_at, grant_all, moment}
use Rattle.book_rows.specs.Lists.{In}
use Rattle.book_rows.specs.Outcome.{no_room}
use Rattle.book_rows.specs.Shape.{AreDistinct, is_task_row, same_task}
use Rattle.book_rows.specs.TaskSteps.{Managed, is_waiting, managed_all, managed_by, managed_one, started_by, status_set, with_status}
use Rattle.book_rows.specs.declared.answers.Granted.{Granted}
use Rattle.book_rows.specs.declared.kinds.Table.{Table}
use Rattle.book_rows.specs.declared.kinds.Table.TheVariants as Tables
use Rattle.book_rows.specs.declared.kinds.TaskStatus.TheVariants as Statuses
use Rattle.book_rows.specs.declared.replies.Refusal.{Refusal}
use Rattle.book_rows.specs.declared.rows.Book.{Book}
use Rattle.book_rows.specs.declared.rows.TaskRow.{TaskRow}
use Rattle.laws_locks.specs.Commands.{ManageKeepsLocks}
use Rattle.laws_locks.specs.LockShape.{HasSoundLocks}
use Rattle.laws_locks.proofs.Grounds.{IsAtWork, ground_all}
use Rattle.laws_locks.proofs.Granting.{ground_of, sound_of}
use Rattle.laws_locks.proofs.Instants.{later_is_instant}
use Rattle.laws_locks.proofs.Lists.{In-all, In-filter, In-list_all, map_In, pairs_filter}
use Rattle.laws_locks.proofs.Members.{members_run}
use Rattle.laws_locks.proofs.Rooms.{lock_room}
use Rattle.laws_locks.proofs.TaskRows.{bytes_differ, other_stays, task_rows_set}

pub map_length : {X Y : Type 0} (f : X → Y) (xs : List X) → length (map f xs) ≡ length xs
map_length f xs = length-map xs f

-- ---- the task runs before it gets its locks: the book is the same, since no request looks at a status

run_keeps : (task : List ℕ) (b : Book) → HasSoundLocks b → HasSoundLocks (with_status task Statuses.Running b)
run_keeps task b h = (
  record {
    room = record { tasks = rw (map_length (status_set task Statuses.Running) b.tasks) h.0.room.tasks; locks = h.0.room.locks; numbers = h.0.room.numbers };
    instants = h.0.instants;
    tasks = task_rows_set task Statuses.Running b.tasks h.0.tasks;
    locks = h.0.locks;
    members = members_run task b.tasks b.posses h.0.members;
  },
  h.1,
)

runs_now : (t : TaskRow) → (status_set t.task Statuses.Running t).status ≡ Statuses.Running
runs_now t = cond-true (bytes_eq t.task t.task) Statuses.Running t.status ((bytes_eq-Decides t.task t.task).1 refl)

started_at_work : (b : Book) (t : TaskRow) → HasSoundLocks b → In t b.tasks → IsAtWork (map (status_set t.task Statuses.Running) b.tasks) t
started_at_work b t h i = record {
  limits = In-list_all is_task_row t b.tasks i h.0.tasks.rows;
  row = status_set t.task Statuses.Running t;
  among = map_In (status_set t.task Statuses.Running) t b.tasks i;
  task_is = refl;
  runs = runs_now t;
  group_is = refl;
  source_is = refl;
  priority_is = refl;
}

-- ---- one task

-- the book after the task got these locks and runs
abbrev pub is_started : TaskRow → Granted → Book → Book
is_started t g b = with_status t.task Statuses.Running (book_granted b t.task g)

pub start_keeps : (b : Book) (t : TaskRow) (now : ℤ) (g : Granted) → HasSoundLocks b → In t b.tasks → is_instant now ≡ true → grant_all b.posses (counters_at b now) t t.wants ≡ Ok g
    → no_room (Tables.Locks ∷ Tables.Numbers ∷ []) (is_started t g b) ≡ None → HasSoundLocks (is_started t g b)
start_keeps b t now g h among i e room =
    let runs : Book = with_status t.task Statuses.Running b in
    let sound : HasSoundLocks runs = run_keeps t.task b h in
    let work = started_at_work b t h among in
    sound_of runs t.task g sound
    (ground_all runs.tasks (length b.publications) t t.wants b.posses (counters_at b now) g work (and_parts _ (list_all is_want t.wants) work.limits).1 (ground_of runs now sound i) e) (lock_room [] (is_started t g b) room)

-- the book so far is sound, and the tasks that are still to come are in it, each once
record IsManaged (ts : List TaskRow) (m : Managed) : Type 0 where
  sound : HasSoundLocks m.book
  among : (t : TaskRow) → In t ts → In t m.book.tasks
  distinct : AreDistinct same_task ts

still : (t : TaskRow) (ts : List TaskRow) (m n : Managed) → n.book ≡ m.book → IsManaged (t ∷ ts) m → IsManaged ts n
still t ts m n same h = record {
  sound = subst (λ (b : Book). HasSoundLocks b) (sym same) h.sound;
  among = λ u i. subst (λ (b : Book). In u b.tasks) (sym same) (h.among u (inr i));
  distinct = h.distinct.1;
}

started_by_keeps : (o : Option Table) (now : ℤ) (t : TaskRow) (ts : List TaskRow) (g : Granted) (m : Managed) → no_room (Tables.Locks ∷ Tables.Numbers ∷ []) (is_started t g m.book) ≡ o → is_instant now ≡ true
    → grant_all m.book.posses (counters_at m.book now) t t.wants ≡ Ok g → IsManaged (t ∷ ts) m → IsManaged ts (started_by o t (is_started t g m.book) m)
started_by_keeps (Some table) now t ts g m room i e h = still t ts m _ refl h
started_by_keeps None now t ts g m room i e h = record {
  sound = start_keeps m.book t now g h.sound (h.among t (inl refl)) i e room;
  among = λ u j. other_stays t.task Statuses.Running u m.book.tasks (bytes_differ t.task u.task (In-all (λ u. same_task t u ≡ false) u ts j h.distinct.0)) (h.among u (inr j));
  distinct = h.distinct.1;
}

managed_by_keeps : (r : Result Granted Refusal) (now : ℤ) (t : TaskRow) (ts : List TaskRow) (m : Managed) → is_instant now ≡ true → grant_all m.book.posses (counters_at m.book now) t t.wants ≡ r → IsManaged (t ∷ ts) m
    → IsManaged ts (managed_by r t m)
managed_by_keeps (Err why) now t ts m i e h = still t ts m _ refl h
managed_by_keeps (Ok g) now t ts m i e h = started_by_keeps (no_room (Tables.Locks ∷ Tables.Numbers ∷ []) (is_started t g m.book)) now t ts g m refl i e h

-- ---- all of them

managed_all_keeps : (now : ℤ) (ts : List TaskRow) (m : Managed) → is_instant now ≡ true → IsManaged ts m → HasSoundLocks (managed_all now ts m).book
managed_all_keeps now [] m i h = h.sound
managed_all_keeps now (t ∷ ts) m i h =
    managed_all_keeps now ts (managed_one now t m) i (managed_by_keeps (grant_all m.book.posses (counters_at m.book now) t t.wants) now t ts m i refl h)

pub clock_keeps : (b : Book) (now : ℤ) → is_instant now ≡ true → HasSoundLocks b → HasSoundLocks (record b { clock = moment b now })
clock_keeps b now i h = (
  record {
    room = h.0.room;
    instants = record { clock = later_is_instant now b.clock i h.0.instants.clock; last = h.0.instants.last };
    tasks = h.0.tasks;
    locks = h.0.locks;
    members = h.0.members;
  },
  h.1,
)

pub manage_keeps_locks : ManageKeepsLocks
manage_keeps_locks now b form h =
    managed_all_keeps now (filter is_waiting b.tasks) (record { book = record b { clock = moment b now }; running = []; waiting = [] }) form (record {
      sound = clock_keeps b now form h;
      among = λ t i. (In-filter is_waiting t b.tasks i).0;
      distinct = pairs_filter _ is_waiting b.tasks h.0.tasks.keys;
    })
