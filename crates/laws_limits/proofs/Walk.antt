-- A walk over the commands: what the small changes of a book keep, and each command's own change gives, holds of the book after.
use Rattle.std.proofs.Common.{◌≡◌, ℕ, ℤ, Bool, true, false, cond, List, [], ◌∷◌, ◌++◌, map, filter, Some, None, Option, Result, Ok, Err, refl, bytes_eq, length}
use Rattle.std.proofs.lemmas.Bool.{and_parts}
use Rattle.iv_span.specs.Extent.{Extent}
use Rattle.iv_time.specs.Range.{is_instant}
use Rattle.seg_names.specs.declared.seg_id.SegId.{SegId}
use Rattle.book_rows.specs.Allocation.{allotted, allotted_id, known_fault, known_pending, place}
use Rattle.book_rows.specs.Answer.{next}
use Rattle.book_rows.specs.Append.{after_append, append_fault}
use Rattle.book_rows.specs.Form.{KeepsForm, are_offsets}
use Rattle.book_rows.specs.Grant.{book_granted, counters_at, grant_all, grant_lock, moment}
use Rattle.book_rows.specs.Lists.{In, or_else}
use Rattle.book_rows.specs.LockSteps.{IdRequest, allocate_by, allocated, allotted_outcome, join_known, known, lock_outcome, lock_reply, locked, pending_for, placed, unlocked}
use Rattle.book_rows.specs.Locks.{is_member_of, joined, left_all_locks, left_lock, left_locks, locks_of, posse_of}
use Rattle.book_rows.specs.Outcome.{Outcome, changed, fitted, is_full, no_room, refused_or, repeated, task_of, unless}
use Rattle.book_rows.specs.Over.{Filling, Inserting, Replacing, Target, check_over, held_for, kind_of, lock_for, targets}
use Rattle.book_rows.specs.Publications.{Publish, appending, in_spans, publication_of, ranges_fault, repeat_of, without_since}
use Rattle.book_rows.specs.PublishSteps.{after_reset, append_running, appended, asked, commit_reply, dropped, over_checked, over_running, over_step, published_or, told_of}
use Rattle.book_rows.specs.Reports.{first_bad, reported}
use Rattle.book_rows.specs.Rewrite.{after_drop, after_insert, after_replace, drop_fault}
use Rattle.book_rows.specs.Sequences.{sequence_named, supervisor_of}
use Rattle.book_rows.specs.Shape.{is_supervisor_row}
use Rattle.book_rows.specs.SupSteps.{after_tick, report_as, report_by, report_fault, report_kept, report_step, row_reply, supervised}
use Rattle.book_rows.specs.TaskSteps.{Managed, after_end, all_failed, end_as, end_of_task, failed, is_waiting, managed_all, managed_by, managed_one, started_by, submitted, waiting_row, with_status}
use Rattle.book_rows.specs.Ticks.{Ticking, ticked}
use Rattle.book_rows.specs.declared.rows.PosseRow.{PosseRow}
use Rattle.book_rows.specs.declared.answers.Granted.{Granted}
use Rattle.book_rows.specs.declared.answers.GrantedLock.{GrantedLock}
use Rattle.book_rows.specs.declared.answers.NewPending.{NewPending}
use Rattle.book_rows.specs.declared.answers.Place.{Place}
use Rattle.book_rows.specs.declared.commands.Command.{Command}
use Rattle.book_rows.specs.declared.commands.Command.TheVariants as Commands
use Rattle.book_rows.specs.declared.kinds.LockKind.TheVariants as LockKinds
use Rattle.book_rows.specs.declared.kinds.PubKind.TheVariants as PubKinds
use Rattle.book_rows.specs.declared.kinds.SeqState.{SeqState}
use Rattle.book_rows.specs.declared.kinds.SeqState.TheVariants as States
use Rattle.book_rows.specs.declared.kinds.Table.{Table}
use Rattle.book_rows.specs.declared.kinds.Table.TheVariants as Tables
use Rattle.book_rows.specs.declared.kinds.TaskStatus.{TaskStatus}
use Rattle.book_rows.specs.declared.kinds.TaskStatus.TheVariants as Statuses
use Rattle.book_rows.specs.declared.replies.Refusal.{Refusal}
use Rattle.book_rows.specs.declared.replies.Reply.{Reply}
use Rattle.book_rows.specs.declared.replies.Reply.TheVariants as Replies
use Rattle.book_rows.specs.declared.rows.Book.{Book}
use Rattle.book_rows.specs.declared.rows.Offset.{Offset}
use Rattle.book_rows.specs.declared.rows.PendingRow.{PendingRow}
use Rattle.book_rows.specs.declared.rows.Ranges.{Ranges}
use Rattle.book_rows.specs.declared.rows.Report.{Report}
use Rattle.book_rows.specs.declared.rows.SequenceRow.{SequenceRow}
use Rattle.book_rows.specs.declared.rows.SupervisorRow.{SupervisorRow}
use Rattle.book_rows.specs.declared.rows.TaskRow.{TaskRow}
use Rattle.laws_locks.proofs.Lists.{found_In}
use Rattle.laws_locks.proofs.Rooms.{fitted_keeps, lock_room, running_as_keeps, running_keeps}
use Rattle.laws_locks.proofs.Targets.{fills, let_through}

-- the small changes, in whichever book they are made: the clock, a task's status, what was granted, a task that leaves or joins a lock
pub record Moves (P : Book → Type 0) : Type 0 where
  pub clock : (now : ℤ) (m : Book) → P m → P (record m { clock = now })
  pub status : (task : List ℕ) (status : TaskStatus) (m : Book) → P m → P (with_status task status m)
  pub granted : (task : List ℕ) (g : Granted) (m : Book) → is_full Tables.Locks (book_granted m task g) ≡ false → is_full Tables.Numbers (book_granted m task g) ≡ false → P m → P (book_granted m task g)
  pub left : (n : ℕ) (task : List ℕ) (m : Book) → P m → P (left_lock n task m)
  pub joined : (n : ℕ) (task : List ℕ) (m : Book) → P m → P (record m { posses = map (joined n task) m.posses })

-- the tables that an append, an insert, a replace and an allocation add to
abbrev pub append_tables : List Table
append_tables = Tables.Segments ∷ Tables.Upgrades ∷ Tables.Publications ∷ Tables.Offsets ∷ []

abbrev pub insert_tables : List Table
insert_tables = Tables.Chunks ∷ Tables.Parts ∷ Tables.Segments ∷ Tables.Publications ∷ Tables.Offsets ∷ []

abbrev pub replace_tables : List Table
replace_tables = Tables.Chunks ∷ Tables.Parts ∷ Tables.Segments ∷ Tables.Pendings ∷ Tables.Publications ∷ Tables.Offsets ∷ []

abbrev pub allot_tables : List Table
allot_tables = Tables.Locks ∷ Tables.Numbers ∷ Tables.Chunks ∷ Tables.Parts ∷ Tables.Pendings ∷ []

-- what a step of the clock makes of the sequences
abbrev pub tick_of : Book → ℤ → Ticking
tick_of b now = ticked b.offsets (moment b now) b.supervisors b.sequences

-- the task is one of the book's, and runs
pub record DoesRun (b : Book) (t : TaskRow) : Type 0 where
  pub among : In t b.tasks
  pub runs : t.status ≡ Statuses.Running

-- what each command makes of the book by itself
pub record Steps (P : Book → Type 0) (b : Book) : Type 0 where
  pub submits : (row : TaskRow) → no_room (Tables.Tasks ∷ []) (record b { tasks = b.tasks ++ row ∷ [] }) ≡ None → P (record b { tasks = b.tasks ++ row ∷ [] })
  pub allots : (task : List ℕ) (r : IdRequest) (t : TaskRow) (x : Place) (l : GrantedLock)
      → KeepsForm (Commands.Allocate task r.lock_kind r.sequence r.previous r.at r.granularity r.now) → DoesRun b t → place b.segments b.pendings t.source r.at r.granularity ≡ Ok x
      → grant_lock b.posses (counters_at b r.now) t (record { lock_kind = r.lock_kind; span = x.span }) ≡ Ok l → no_room allot_tables (allotted (pending_for t r x l) (book_granted b t.task l.granted)) ≡ None
      → P (book_granted b t.task l.granted) → P (allotted (pending_for t r x l) (book_granted b t.task l.granted))
  pub appends : (task : List ℕ) (ids : List SegId) (ranges : Option Ranges) (t : TaskRow) → KeepsForm (Commands.Append task ids ranges) → DoesRun b t → no_room append_tables (after_append t (appending ids ranges) b) ≡ None → P (after_append t (appending ids ranges) b)
  pub inserts : (task : List ℕ) (given : Publish) (t : TaskRow) (xs : List Target) → KeepsForm (Commands.Insert task given.spans given.ids given.tombstones given.ranges) → DoesRun b t → targets b.posses t LockKinds.Exclusive given.spans ≡ Ok xs
      → no_room insert_tables (after_insert t given xs b) ≡ None → P (after_insert t given xs b)
  pub replaces : (task : List ℕ) (given : Publish) (t : TaskRow) (xs : List Target) → KeepsForm (Commands.Replace task given.spans given.ids given.tombstones given.ranges) → DoesRun b t → targets b.posses t LockKinds.Replace given.spans ≡ Ok xs
      → no_room replace_tables (after_replace t given xs b) ≡ None → P (after_replace t given xs b)
  pub drops : (source : List ℕ) (span : Extent) → KeepsForm (Commands.Drop source span) → no_room (Tables.Publications ∷ []) (after_drop source span b) ≡ None → P (after_drop source span b)
  pub resets : (source stream : List ℕ) (offsets : List Offset) → KeepsForm (Commands.Reset source stream offsets) → no_room (Tables.Publications ∷ Tables.Offsets ∷ []) (after_reset source stream offsets b) ≡ None
      → P (after_reset source stream offsets b)
  pub supervises : (row : SupervisorRow) → is_supervisor_row row ≡ true → supervisor_of row.source b.supervisors ≡ None → no_room (Tables.Supervisors ∷ []) (record b { supervisors = b.supervisors ++ row ∷ [] }) ≡ None → P (record b { supervisors = b.supervisors ++ row ∷ [] })
  pub ticks : (now : ℤ) → is_instant now ≡ true → no_room (Tables.Tasks ∷ Tables.Sequences ∷ []) (after_tick (tick_of b now) (moment b now) b) ≡ None → P (after_tick (tick_of b now) (moment b now) b)
  pub ends : (t : TaskRow) (status : TaskStatus) → P (after_end t status b)
  pub reports : (t : TaskRow) (offsets : List Offset) → are_offsets offsets ≡ true → DoesRun b t → P (record b { sequences = map (reported t.group (record { task = t.task; offsets = offsets }) b.clock) b.sequences })

-- ---- several changes

module _ (P : Book → Type 0) (moves : Moves P) where
  pub leaves_all : (ns task : List ℕ) (m : Book) → P m → P (left_locks ns task m)
  leaves_all [] task m h = h
  leaves_all (n ∷ ns) task m h = leaves_all ns task (left_lock n task m) (moves.left n task m h)

  pub fails_all : (tasks : List (List ℕ)) (m : Book) → P m → P (all_failed tasks m)
  fails_all [] m h = h
  fails_all (task ∷ rest) m h = fails_all rest (failed task m) (moves.status task Statuses.Failed (left_all_locks task m) (leaves_all (locks_of task m.posses) task m h))

  -- ---- manage

  started_is : (o : Option Table) (t : TaskRow) (g : Granted) (m : Managed) → no_room (Tables.Locks ∷ Tables.Numbers ∷ []) (with_status t.task Statuses.Running (book_granted m.book t.task g)) ≡ o → P m.book
      → P (started_by o t (with_status t.task Statuses.Running (book_granted m.book t.task g)) m).book
  started_is (Some table) t g m e h = h
  started_is None t g m e h =
      let rooms = lock_room [] (with_status t.task Statuses.Running (book_granted m.book t.task g)) e in
      moves.status t.task Statuses.Running (book_granted m.book t.task g) (moves.granted t.task g m.book rooms.0 rooms.1 h)

  managed_is : (r : Result Granted Refusal) (t : TaskRow) (m : Managed) → P m.book → P (managed_by r t m).book
  managed_is (Err why) t m h = h
  managed_is (Ok g) t m h = started_is (no_room (Tables.Locks ∷ Tables.Numbers ∷ []) (with_status t.task Statuses.Running (book_granted m.book t.task g))) t g m refl h

  manages_all : (now : ℤ) (ts : List TaskRow) (m : Managed) → P m.book → P (managed_all now ts m).book
  manages_all now [] m h = h
  manages_all now (t ∷ ts) m h = manages_all now ts (managed_one now t m) (managed_is (grant_all m.book.posses (counters_at m.book now) t t.wants) t m h)

  -- ---- refusals

  unless_is : (o : Option Refusal) (b : Book) (out : Outcome) → P b → P out.book → P (unless o b out).book
  unless_is (Some why) b out h k = h
  unless_is None b out h k = k

  either_is : (x : Bool) (out other : Outcome) → P out.book → P other.book → P (cond x out other).book
  either_is true out other h k = h
  either_is false out other h k = k

  published_is : (k : Option ℕ) (b : Book) (status : TaskStatus) (reply : ℕ → Reply) (out : Outcome) → P b → (status ≡ Statuses.Running → P out.book) → P (published_or k b status reply out).book
  published_is (Some k) b status reply out h f = h
  published_is None b status reply out h f = running_as_keeps P status b out h f

  -- ---- any command

  module _ (b : Book) (h : P b) (steps : Steps P b) where
    found_task : (task : List ℕ) (t : TaskRow) → task_of task b.tasks ≡ Some t → In t b.tasks
    found_task task t e = (found_In (λ (u : TaskRow). bytes_eq u.task task) t b.tasks e).0

    submitted_is : (o : Option TaskRow) (row : TaskRow) → P (submitted o b row).book
    submitted_is (Some t) row = h
    submitted_is None row = fitted_keeps P (Tables.Tasks ∷ []) b (record b { tasks = b.tasks ++ row ∷ [] }) (Replies.Submit Statuses.Waiting row.task) h (steps.submits row)

    locked_is : (o : Result GrantedLock Refusal) (t : TaskRow) → P (refused_or o b (lock_outcome b t)).book
    locked_is (Err why) t = h
    locked_is (Ok l) t =
        fitted_keeps P (Tables.Locks ∷ Tables.Numbers ∷ []) b (book_granted b t.task l.granted) (lock_reply l) h
        (λ room. (let rooms = lock_room [] (book_granted b t.task l.granted) room in moves.granted t.task l.granted b rooms.0 rooms.1 h))

    unlocked_is : (o : Option TaskRow) (task : List ℕ) (lock : ℕ) → P (unlocked o b task lock).book
    unlocked_is None task lock = h
    unlocked_is (Some t) task lock =
        either_is (is_member_of (posse_of lock b.posses) task) (changed (left_lock lock task b) (Replies.Unlock true)) (repeated b (Replies.Unlock false)) (moves.left lock task b h) h

    known_is : (r : IdRequest) (t : TaskRow) (p : PendingRow) → P (known b r t p).book
    known_is r t p =
        unless_is (known_fault b.posses t r.lock_kind r.at p) b (join_known b r.now t.task p) h
        (either_is (is_member_of (posse_of p.posse b.posses) t.task) (repeated b (Replies.Allocate p.id p.posse []))
        (changed (record b { clock = moment b r.now; posses = map (joined p.posse t.task) b.posses }) (Replies.Allocate p.id p.posse [])) h
        (moves.joined p.posse t.task (record b { clock = moment b r.now }) (moves.clock (moment b r.now) b h)))

    module _ (task : List ℕ) (r : IdRequest) (form : KeepsForm (Commands.Allocate task r.lock_kind r.sequence r.previous r.at r.granularity r.now)) (t : TaskRow) (runs : DoesRun b t) where
      granted_is : (o : Result GrantedLock Refusal) (x : Place) → place b.segments b.pendings t.source r.at r.granularity ≡ Ok x → grant_lock b.posses (counters_at b r.now) t (record { lock_kind = r.lock_kind; span = x.span }) ≡ o
          → P (refused_or o b (λ l. allotted_outcome b t l (pending_for t r x l))).book
      granted_is (Err why) x placed e = h
      granted_is (Ok l) x placed e =
          let n : NewPending = pending_for t r x l in
          let granted : Book = book_granted b t.task l.granted in
          fitted_keeps P allot_tables b (allotted n granted) (Replies.Allocate (allotted_id b.chunks n) n.posse l.granted.revoked) h
          (λ room. (let rooms = lock_room (Tables.Chunks ∷ Tables.Parts ∷ Tables.Pendings ∷ []) (allotted n granted) room in
          steps.allots task r t x l form runs placed e room (moves.granted t.task l.granted b rooms.0 rooms.1 h)))

      placed_is : (o : Result Place Refusal) → place b.segments b.pendings t.source r.at r.granularity ≡ o → P (refused_or o b (placed b r t)).book
      placed_is (Err why) e = h
      placed_is (Ok x) e = granted_is (grant_lock b.posses (counters_at b r.now) t (record { lock_kind = r.lock_kind; span = x.span })) x e refl

      allocated_is : (o : Option PendingRow) → P (allocate_by o b r t).book
      allocated_is (Some p) = known_is r t p
      allocated_is None = placed_is (place b.segments b.pendings t.source r.at r.granularity) refl

    appended_is : (task : List ℕ) (ids : List SegId) (ranges : Option Ranges) (o : Option TaskRow) → KeepsForm (Commands.Append task ids ranges) → task_of task b.tasks ≡ o → P (appended o b (appending ids ranges)).book
    appended_is task ids ranges None form e = h
    appended_is task ids ranges (Some t) form e =
        published_is (repeat_of (publication_of PubKinds.Append t [] (appending ids ranges)) b.publications) b t.status Replies.Append (append_running b (appending ids ranges) t) h
        (λ runs. unless_is (or_else (append_fault b.posses b.pendings t.task ids) (ranges_fault b t ranges)) b (fitted append_tables b (after_append t (appending ids ranges) b) (Replies.Append (length b.publications))) h
        (fitted_keeps P append_tables b (after_append t (appending ids ranges) b) (Replies.Append (length b.publications)) h (steps.appends task ids ranges t form (record { among = found_task task t e; runs = runs }))))

    checked_is : (f : Filling) (task : List ℕ) (given : Publish) (t : TaskRow) (xs : List Target) → KeepsForm (fills f task given) → DoesRun b t → targets b.posses t (lock_for f) given.spans ≡ Ok xs → P (over_checked f b given t xs).book
    checked_is Inserting task given t xs form runs found =
        unless_is (ranges_fault b t given.ranges) b (fitted insert_tables b (after_insert t given xs b) (Replies.Insert (length b.publications))) h
        (fitted_keeps P insert_tables b (after_insert t given xs b) (Replies.Insert (length b.publications)) h (steps.inserts task given t xs form runs found))
    checked_is Replacing task given t xs form runs found =
        unless_is (ranges_fault b t given.ranges) b (fitted replace_tables b (after_replace t given xs b) (Replies.Replace (length b.publications))) h
        (fitted_keeps P replace_tables b (after_replace t given xs b) (Replies.Replace (length b.publications)) h (steps.replaces task given t xs form runs found))

    over_is : (r : Result (List Target) Refusal) (f : Filling) (task : List ℕ) (given : Publish) (t : TaskRow) → check_over f b given t ≡ r → KeepsForm (fills f task given) → DoesRun b t → P (refused_or r b (over_checked f b given t)).book
    over_is (Err why) f task given t e form runs = h
    over_is (Ok xs) f task given t e form runs = checked_is f task given t xs form runs (let_through f b given t xs e).held

    step_is : (f : Filling) (task : List ℕ) (given : Publish) (o : Option TaskRow) → KeepsForm (fills f task given) → task_of task b.tasks ≡ o → P (over_step f o b given).book
    step_is f task given None form e = h
    step_is f task given (Some t) form e =
        published_is (repeat_of (publication_of (kind_of f) t (without_since given.spans) given) b.publications) b t.status (commit_reply (kind_of f)) (over_running f b given t) h
        (λ runs. over_is (check_over f b given t) f task given t refl form (record { among = found_task task t e; runs = runs }))

    dropped_is : (source : List ℕ) (span : Extent) → KeepsForm (Commands.Drop source span) → P (dropped b source span).book
    dropped_is source span form =
        unless_is (drop_fault b.posses b.segments source span) b (fitted (Tables.Publications ∷ []) b (after_drop source span b) (Replies.Drop (length b.publications))) h
        (fitted_keeps P (Tables.Publications ∷ []) b (after_drop source span b) (Replies.Drop (length b.publications)) h (steps.drops source span form))

    supervised_is : (o : Option SupervisorRow) (row : SupervisorRow) → is_supervisor_row row ≡ true → supervisor_of row.source b.supervisors ≡ o → P (supervised o b row).book
    supervised_is (Some s) row fits e = h
    supervised_is None row fits e = fitted_keeps P (Tables.Supervisors ∷ []) b (record b { supervisors = b.supervisors ++ row ∷ [] }) (Replies.Supervise row.source) h (steps.supervises row fits e)

    ended_is : (s status : TaskStatus) (t : TaskRow) → P (end_as s status b t).book
    ended_is Statuses.Success Statuses.Success t = h
    ended_is Statuses.Success Statuses.Failed t = h
    ended_is Statuses.Success Statuses.Waiting t = h
    ended_is Statuses.Success Statuses.Running t = h
    ended_is Statuses.Failed Statuses.Success t = h
    ended_is Statuses.Failed Statuses.Failed t = h
    ended_is Statuses.Failed Statuses.Waiting t = h
    ended_is Statuses.Failed Statuses.Running t = h
    ended_is Statuses.Waiting Statuses.Success t = h
    ended_is Statuses.Waiting Statuses.Failed t = steps.ends t Statuses.Failed
    ended_is Statuses.Waiting Statuses.Waiting t = steps.ends t Statuses.Waiting
    ended_is Statuses.Waiting Statuses.Running t = steps.ends t Statuses.Running
    ended_is Statuses.Running Statuses.Success t = steps.ends t Statuses.Success
    ended_is Statuses.Running Statuses.Failed t = steps.ends t Statuses.Failed
    ended_is Statuses.Running Statuses.Waiting t = steps.ends t Statuses.Waiting
    ended_is Statuses.Running Statuses.Running t = steps.ends t Statuses.Running

    task_ended_is : (o : Option TaskRow) (status : TaskStatus) → P (end_of_task o b status).book
    task_ended_is None status = h
    task_ended_is (Some t) status = ended_is t.status status t

    module _ (t : TaskRow) (offsets : List Offset) (fits : are_offsets offsets ≡ true) (runs : DoesRun b t) where
      kept_is : (begin : Bool) (u : SequenceRow) → P (report_kept begin b t.group (record { task = t.task; offsets = offsets }) u).book
      kept_is begin u =
          let new : Report = record { task = t.task; offsets = offsets } in
          unless_is (report_fault (first_bad u.starts offsets)) b (changed (record b { sequences = map (reported t.group new b.clock) b.sequences }) (row_reply begin (reported t.group new b.clock u))) h
          (steps.reports t offsets fits runs)

      report_is : (s : SeqState) (begin : Bool) (u : SequenceRow) → P (report_as s begin b t.group (record { task = t.task; offsets = offsets }) u).book
      report_is States.Published begin u = h
      report_is States.Abandoned begin u = h
      report_is States.Closed begin u = h
      report_is States.Reading false u = h
      report_is States.Reading true u = kept_is true u
      report_is States.Paused begin u = kept_is begin u

      reported_is : (o : Option SequenceRow) (begin : Bool) → P (report_by o begin b t.group (record { task = t.task; offsets = offsets })).book
      reported_is None begin = h
      reported_is (Some u) begin = report_is u.state begin u

    asked_is : (r : Result PosseRow Refusal) → P (refused_or r b (told_of b)).book
    asked_is (Err why) = h
    asked_is (Ok n) = h

    -- the offsets of a report
    report_form : (task : List ℕ) (offsets : List Offset) → KeepsForm (Commands.Paused task offsets) → are_offsets offsets ≡ true
    report_form task offsets form = (and_parts _ (are_offsets offsets) form).1

    pub after_any : (c : Command) → KeepsForm c → P (next b c)
    after_any (Commands.Submit task group source kind priority locks) form = submitted_is (task_of task b.tasks) (waiting_row task group source kind priority locks)
    after_any (Commands.Manage now) form = manages_all now (filter is_waiting b.tasks) (record { book = record b { clock = moment b now }; running = []; waiting = [] }) (moves.clock (moment b now) b h)
    after_any (Commands.Lock task lock_kind span now) form =
        running_keeps P (task_of task b.tasks) b (locked b (record { lock_kind = lock_kind; span = span }) now) h
        (λ t found runs. locked_is (grant_lock b.posses (counters_at b now) t (record { lock_kind = lock_kind; span = span })) t)
    after_any (Commands.Unlock task lock) form = unlocked_is (task_of task b.tasks) task lock
    after_any (Commands.Allocate task lock_kind sequence previous at granularity now) form =
        let r : IdRequest = record { lock_kind = lock_kind; sequence = sequence; previous = previous; at = at; granularity = granularity; now = now } in
        running_keeps P (task_of task b.tasks) b (allocated b r) h
        (λ t found runs. allocated_is task r form t (record { among = found_task task t found; runs = runs }) (known_pending b.pendings t.source sequence previous))
    after_any (Commands.Append task ids ranges) form = appended_is task ids ranges (task_of task b.tasks) form refl
    after_any (Commands.Insert task spans ids tombstones ranges) form = step_is Inserting task (in_spans spans ids tombstones ranges) (task_of task b.tasks) form refl
    after_any (Commands.Replace task spans ids tombstones ranges) form = step_is Replacing task (in_spans spans ids tombstones ranges) (task_of task b.tasks) form refl
    after_any (Commands.End task status) form = task_ended_is (task_of task b.tasks) status
    after_any (Commands.Drop source span) form = dropped_is source span form
    after_any (Commands.Reset source stream offsets) form =
        fitted_keeps P (Tables.Publications ∷ Tables.Offsets ∷ []) b (after_reset source stream offsets b) (Replies.Reset (length b.publications)) h (steps.resets source stream offsets form)
    after_any (Commands.Supervise source stream partitions task_count replicas task_duration completion_timeout) form =
        supervised_is (supervisor_of source b.supervisors)
        (record { source = source; stream = stream; partitions = partitions; task_count = task_count; replicas = replicas; duration = task_duration; timeout = completion_timeout }) form refl
    after_any (Commands.Tick now) form =
        let k : Ticking = tick_of b now in
        fitted_keeps P (Tables.Tasks ∷ Tables.Sequences ∷ []) b (after_tick k (moment b now) b) (Replies.Tick k.told.abandoned k.told.opened k.told.paused) h (steps.ticks now form)
    after_any (Commands.Paused task offsets) form =
        running_keeps P (task_of task b.tasks) b (report_step false b offsets) h
        (λ t found runs. reported_is t offsets (report_form task offsets form) (record { among = found_task task t found; runs = runs }) (sequence_named t.group b.sequences) false)
    after_any (Commands.Checkpoint task offsets) form =
        running_keeps P (task_of task b.tasks) b (report_step true b offsets) h
        (λ t found runs. reported_is t offsets (report_form task offsets form) (record { among = found_task task t found; runs = runs }) (sequence_named t.group b.sequences) true)
    after_any (Commands.ToReplace task span) form =
        running_keeps P (task_of task b.tasks) b (asked b span) h (λ t found runs. asked_is (held_for b.posses t LockKinds.Replace span))
    after_any (Commands.Show what) form = h
