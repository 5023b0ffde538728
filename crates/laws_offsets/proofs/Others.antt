-- The commands that neither publish nor drop nor reset: what they keep of publications, stored offsets, tasks and supervisors.
use Rattle.std.proofs.Common.{◌≡◌, ℕ, ℤ, Bool, true, false, List, [], ◌∷◌, ◌++◌, filter, map, Some, None, Option, Result, Ok, Err, refl, ◌∙◌, sym, subst}
use Rattle.std.specs.List.{list_all}
use Rattle.std.proofs.lemmas.Bool.{false≢true}
use Rattle.book_rows.specs.Allocation.{allotted, allotted_id, known_fault, known_pending, place}
use Rattle.book_rows.specs.Answer.{next}
use Rattle.book_rows.specs.Grant.{book_granted, counters_at, grant_all, grant_lock, moment}
use Rattle.book_rows.specs.LockSteps.{IdRequest, allocate_by, allocated, allotted_outcome, join_known, known, lock_outcome, lock_reply, locked, pending_for, placed, unlocked}
use Rattle.book_rows.specs.Locks.{is_member_of, joined, left_all_locks, left_lock, left_locks, locks_of, posse_of}
use Rattle.book_rows.specs.Outcome.{Outcome, changed, fitted, no_room, refused_or, repeated, task_of}
use Rattle.book_rows.specs.Over.{held_for}
use Rattle.book_rows.specs.PublishSteps.{asked, told_of}
use Rattle.book_rows.specs.Reports.{ended, first_bad, reported}
use Rattle.book_rows.specs.Sequences.{sequence_named, supervisor_of}
use Rattle.book_rows.specs.SupSteps.{after_tick, report_as, report_by, report_fault, report_kept, report_step, row_reply, supervised, tick_outcome}
use Rattle.book_rows.specs.TaskSteps.{Managed, all_failed, end_as, end_of_task, end_running, failed, is_waiting, managed_all, managed_by, managed_one, started_by, status_set, submitted, waiting_row, with_status}
use Rattle.book_rows.specs.Ticks.{Ticking, ticked}
use Rattle.book_rows.specs.declared.rows.PosseRow.{PosseRow}
use Rattle.book_rows.specs.declared.answers.Granted.{Granted}
use Rattle.book_rows.specs.declared.answers.GrantedLock.{GrantedLock}
use Rattle.book_rows.specs.declared.answers.NewPending.{NewPending}
use Rattle.book_rows.specs.declared.answers.Place.{Place}
use Rattle.book_rows.specs.declared.commands.Command.{Command}
use Rattle.book_rows.specs.declared.commands.Command.TheVariants as Commands
use Rattle.book_rows.specs.declared.kinds.LockKind.TheVariants as LockKinds
use Rattle.book_rows.specs.declared.kinds.SeqState.{SeqState}
use Rattle.book_rows.specs.declared.kinds.SeqState.TheVariants as States
use Rattle.book_rows.specs.declared.kinds.Table.{Table}
use Rattle.book_rows.specs.declared.kinds.Table.TheVariants as Tables
use Rattle.book_rows.specs.declared.kinds.TaskStatus.{TaskStatus}
use Rattle.book_rows.specs.declared.kinds.TaskStatus.TheVariants as Statuses
use Rattle.book_rows.specs.declared.replies.Refusal.{Refusal}
use Rattle.book_rows.specs.declared.replies.Reply.{Reply}
use Rattle.book_rows.specs.declared.replies.Reply.TheVariants as Replies
use Rattle.book_rows.specs.declared.rows.Book.{Book}
use Rattle.book_rows.specs.declared.rows.Offset.{Offset}
use Rattle.book_rows.specs.declared.rows.OffsetRow.{OffsetRow}
use Rattle.book_rows.specs.declared.rows.PendingRow.{PendingRow}
use Rattle.book_rows.specs.declared.rows.Publication.{Publication}
use Rattle.book_rows.specs.declared.rows.Report.{Report}
use Rattle.book_rows.specs.declared.rows.SequenceRow.{SequenceRow}
use Rattle.book_rows.specs.declared.rows.SupervisorRow.{SupervisorRow}
use Rattle.book_rows.specs.declared.rows.TaskRow.{TaskRow}
use Rattle.book_rows.specs.declared.rows.Want.{Want}
use Rattle.laws_offsets.specs.Effects.{publishes_nothing}
use Rattle.laws_offsets.proofs.OpenedTasks.{opened_are_named}
use Rattle.laws_offsets.proofs.Outcomes.{either_is, fitted_is, running_is, unless_is}

-- a fact of publications, stored offsets, tasks and supervisors
abbrev pub Fact : Type 1
Fact = List Publication → List OffsetRow → List TaskRow → List SupervisorRow → Type 0

abbrev pub Of : Fact → Book → Type 0
Of fact b = fact b.publications b.offsets b.tasks b.supervisors

-- whatever test the sources of all supervisors pass, those of the tasks pass it too
abbrev pub AreOfSupervisors : List SupervisorRow → List TaskRow → Type 0
AreOfSupervisors ss ts = (named : List ℕ → Bool) → list_all (λ s. named s.source) ss ≡ true → list_all (λ t. named t.source) ts ≡ true

-- the source that a command brings with a task or a supervisor
abbrev pub new_source : Command → Option (List ℕ)
new_source (Commands.Submit task group source kind priority locks) = Some source
new_source (Commands.Supervise source stream partitions task_count replicas task_duration completion_timeout) = Some source
new_source _ = None

-- it holds where a task has another status, of a task or a supervisor more of the new source, and of tasks of the supervisors more
pub record IsKeptBy (fact : Fact) (new : Option (List ℕ)) : Type 0 where
  pub status : (task : List ℕ) (status : TaskStatus) (ms : List Publication) (os : List OffsetRow) (ts : List TaskRow) (ss : List SupervisorRow) → fact ms os ts ss → fact ms os (map (status_set task status) ts) ss
  pub submitted : (t : TaskRow) (ms : List Publication) (os : List OffsetRow) (ts : List TaskRow) (ss : List SupervisorRow) → new ≡ Some t.source → fact ms os ts ss → fact ms os (ts ++ t ∷ []) ss
  pub supervised : (s : SupervisorRow) (ms : List Publication) (os : List OffsetRow) (ts : List TaskRow) (ss : List SupervisorRow) → new ≡ Some s.source → fact ms os ts ss → fact ms os ts (ss ++ s ∷ [])
  pub opened : (rows : List TaskRow) (ms : List Publication) (os : List OffsetRow) (ts : List TaskRow) (ss : List SupervisorRow) → AreOfSupervisors ss rows → fact ms os ts ss → fact ms os (ts ++ rows) ss

-- ---- tasks that fail leave the supervisors

pub supervisors_left : (ns task : List ℕ) (b : Book) → (left_locks ns task b).supervisors ≡ b.supervisors
supervisors_left [] task b = refl
supervisors_left (n ∷ ns) task b = supervisors_left ns task (left_lock n task b)

supervisors_stay : (tasks : List (List ℕ)) (b : Book) → (all_failed tasks b).supervisors ≡ b.supervisors
supervisors_stay [] b = refl
supervisors_stay (task ∷ rest) b = supervisors_stay rest (failed task b) ∙ supervisors_left (locks_of task b.posses) task b

module _ (fact : Fact) (new : Option (List ℕ)) (kept : IsKeptBy fact new) where
  -- ---- tasks leave locks, and fail

  locks_left : (ns task : List ℕ) (b : Book) → Of fact b → Of fact (left_locks ns task b)
  locks_left [] task b h = h
  locks_left (n ∷ ns) task b h = locks_left ns task (left_lock n task b) h

  with_status_keeps : (task : List ℕ) (status : TaskStatus) (b : Book) → Of fact b → Of fact (with_status task status b)
  with_status_keeps task status b h = kept.status task status b.publications b.offsets b.tasks b.supervisors h

  -- a task leaves all its locks, and has another status
  status_keeps : (task : List ℕ) (status : TaskStatus) (b : Book) → Of fact b → Of fact (with_status task status (left_all_locks task b))
  status_keeps task status b h = with_status_keeps task status (left_all_locks task b) (locks_left (locks_of task b.posses) task b h)

  pub all_failed_keep : (tasks : List (List ℕ)) (b : Book) → Of fact b → Of fact (all_failed tasks b)
  all_failed_keep [] b h = h
  all_failed_keep (task ∷ rest) b h = all_failed_keep rest (failed task b) (status_keeps task Statuses.Failed b h)

  -- ---- waiting tasks start

  started_keeps : (o : Option Table) (t : TaskRow) (after : Book) (m : Managed) → Of fact m.book → Of fact after → Of fact (started_by o t after m).book
  started_keeps (Some table) t after m h k = h
  started_keeps None t after m h k = k

  managed_keeps : (r : Result Granted Refusal) (t : TaskRow) (m : Managed) → Of fact m.book → Of fact (managed_by r t m).book
  managed_keeps (Err why) t m h = h
  managed_keeps (Ok g) t m h =
      let granted : Book = book_granted m.book t.task g in
      let after : Book = with_status t.task Statuses.Running granted in
      started_keeps (no_room (Tables.Locks ∷ Tables.Numbers ∷ []) after) t after m h (with_status_keeps t.task Statuses.Running granted h)

  all_managed_keep : (now : ℤ) (ts : List TaskRow) (m : Managed) → Of fact m.book → Of fact (managed_all now ts m).book
  all_managed_keep now [] m h = h
  all_managed_keep now (t ∷ ts) m h = all_managed_keep now ts (managed_one now t m) (managed_keeps (grant_all m.book.posses (counters_at m.book now) t t.wants) t m h)

  -- ---- the outcomes of one command

  module _ (b : Book) (h : Of fact b) where
    abbrev Keeps : Outcome → Type 0
    Keeps o = Of fact o.book

    still : (r : Reply) → Keeps (repeated b r)
    still r = h

    -- a change that keeps it, where the tables have room for it
    fitted_keeps : (tables : List Table) (after : Book) (r : Reply) → Of fact after → Keeps (fitted tables b after r)
    fitted_keeps tables after r k = fitted_is b Keeps still tables after r (λ room. k)

    submitted_keeps : (o : Option TaskRow) (row : TaskRow) → new ≡ Some row.source → Keeps (submitted o b row)
    submitted_keeps (Some t) row is = h
    submitted_keeps None row is = fitted_keeps (Tables.Tasks ∷ []) (record b { tasks = b.tasks ++ row ∷ [] }) (Replies.Submit Statuses.Waiting row.task) (kept.submitted row b.publications b.offsets b.tasks b.supervisors is h)

    running_ended : (t : TaskRow) (status : TaskStatus) → Keeps (end_running b t status)
    running_ended t status =
        let e = ended t.group t.task b.clock b.sequences in
        all_failed_keep e.tasks (record (with_status t.task status (left_all_locks t.task b)) { sequences = e.sequences }) (status_keeps t.task status b h)

    ended_keeps : (s status : TaskStatus) (t : TaskRow) → Keeps (end_as s status b t)
    ended_keeps Statuses.Success Statuses.Success t = h
    ended_keeps Statuses.Success Statuses.Failed t = h
    ended_keeps Statuses.Success Statuses.Waiting t = h
    ended_keeps Statuses.Success Statuses.Running t = h
    ended_keeps Statuses.Failed Statuses.Success t = h
    ended_keeps Statuses.Failed Statuses.Failed t = h
    ended_keeps Statuses.Failed Statuses.Waiting t = h
    ended_keeps Statuses.Failed Statuses.Running t = h
    ended_keeps Statuses.Waiting Statuses.Success t = h
    ended_keeps Statuses.Waiting Statuses.Failed t = running_ended t Statuses.Failed
    ended_keeps Statuses.Waiting Statuses.Waiting t = running_ended t Statuses.Waiting
    ended_keeps Statuses.Waiting Statuses.Running t = running_ended t Statuses.Running
    ended_keeps Statuses.Running Statuses.Success t = running_ended t Statuses.Success
    ended_keeps Statuses.Running Statuses.Failed t = running_ended t Statuses.Failed
    ended_keeps Statuses.Running Statuses.Waiting t = running_ended t Statuses.Waiting
    ended_keeps Statuses.Running Statuses.Running t = running_ended t Statuses.Running

    task_ended : (o : Option TaskRow) (status : TaskStatus) → Keeps (end_of_task o b status)
    task_ended None status = h
    task_ended (Some t) status = ended_keeps t.status status t

    locked_keeps : (o : Result GrantedLock Refusal) (t : TaskRow) → Keeps (refused_or o b (lock_outcome b t))
    locked_keeps (Err why) t = h
    locked_keeps (Ok l) t = fitted_keeps (Tables.Locks ∷ Tables.Numbers ∷ []) (book_granted b t.task l.granted) (lock_reply l) h

    unlocked_keeps : (o : Option TaskRow) (task : List ℕ) (lock : ℕ) → Keeps (unlocked o b task lock)
    unlocked_keeps None task lock = h
    unlocked_keeps (Some t) task lock =
        either_is b Keeps still (is_member_of (posse_of lock b.posses) task) (changed (left_lock lock task b) (Replies.Unlock true)) (repeated b (Replies.Unlock false)) h h

    known_keeps : (r : IdRequest) (t : TaskRow) (p : PendingRow) → Keeps (known b r t p)
    known_keeps r t p =
        unless_is b Keeps still (known_fault b.posses t r.lock_kind r.at p) (join_known b r.now t.task p)
        (λ none. either_is b Keeps still (is_member_of (posse_of p.posse b.posses) t.task) (repeated b (Replies.Allocate p.id p.posse []))
        (changed (record b { clock = moment b r.now; posses = map (joined p.posse t.task) b.posses }) (Replies.Allocate p.id p.posse [])) h h)

    allocated_keeps : (o : Result GrantedLock Refusal) (r : IdRequest) (t : TaskRow) (x : Place) → Keeps (refused_or o b (λ l. allotted_outcome b t l (pending_for t r x l)))
    allocated_keeps (Err why) r t x = h
    allocated_keeps (Ok l) r t x =
        let n : NewPending = pending_for t r x l in
        fitted_keeps (Tables.Locks ∷ Tables.Numbers ∷ Tables.Chunks ∷ Tables.Parts ∷ Tables.Pendings ∷ []) (allotted n (book_granted b t.task l.granted)) (Replies.Allocate (allotted_id b.chunks n) n.posse l.granted.revoked) h

    placed_keeps : (o : Result Place Refusal) (r : IdRequest) (t : TaskRow) → Keeps (refused_or o b (placed b r t))
    placed_keeps (Err why) r t = h
    placed_keeps (Ok x) r t = allocated_keeps (grant_lock b.posses (counters_at b r.now) t (record { lock_kind = r.lock_kind; span = x.span })) r t x

    allocate_keeps : (o : Option PendingRow) (r : IdRequest) (t : TaskRow) → Keeps (allocate_by o b r t)
    allocate_keeps (Some p) r t = known_keeps r t p
    allocate_keeps None r t = placed_keeps (place b.segments b.pendings t.source r.at r.granularity) r t

    ticked_keeps : (k : Ticking) (now : ℤ) → AreOfSupervisors b.supervisors k.told.submitted → Keeps (tick_outcome b k now)
    ticked_keeps k now are =
        let start : Book = record b { clock = now; sequences = k.rows } in
        let failed : Book = all_failed k.told.ended start in
        fitted_keeps (Tables.Tasks ∷ Tables.Sequences ∷ []) (after_tick k now b) (Replies.Tick k.told.abandoned k.told.opened k.told.paused)
        (kept.opened k.told.submitted failed.publications failed.offsets failed.tasks failed.supervisors
        (subst (λ (ss : List SupervisorRow). AreOfSupervisors ss k.told.submitted) (sym (supervisors_stay k.told.ended start)) are) (all_failed_keep k.told.ended start h))

    supervised_keeps : (o : Option SupervisorRow) (row : SupervisorRow) → new ≡ Some row.source → Keeps (supervised o b row)
    supervised_keeps (Some s) row is = h
    supervised_keeps None row is = fitted_keeps (Tables.Supervisors ∷ []) (record b { supervisors = b.supervisors ++ row ∷ [] }) (Replies.Supervise row.source) (kept.supervised row b.publications b.offsets b.tasks b.supervisors is h)

    report_kept_keeps : (begin : Bool) (name : List ℕ) (new : Report) (u : SequenceRow) → Keeps (report_kept begin b name new u)
    report_kept_keeps begin name new u =
        unless_is b Keeps still (report_fault (first_bad u.starts new.offsets)) (changed (record b { sequences = map (reported name new b.clock) b.sequences }) (row_reply begin (reported name new b.clock u))) (λ none. h)

    report_as_keeps : (s : SeqState) (begin : Bool) (name : List ℕ) (new : Report) (u : SequenceRow) → Keeps (report_as s begin b name new u)
    report_as_keeps States.Published begin name new u = h
    report_as_keeps States.Abandoned begin name new u = h
    report_as_keeps States.Closed begin name new u = h
    report_as_keeps States.Reading false name new u = h
    report_as_keeps States.Reading true name new u = report_kept_keeps true name new u
    report_as_keeps States.Paused begin name new u = report_kept_keeps begin name new u

    report_by_keeps : (o : Option SequenceRow) (begin : Bool) (name : List ℕ) (new : Report) → Keeps (report_by o begin b name new)
    report_by_keeps None begin name new = h
    report_by_keeps (Some u) begin name new = report_as_keeps u.state begin name new u

    report_keeps : (begin : Bool) (offsets : List Offset) (t : TaskRow) → Keeps (report_step begin b offsets t)
    report_keeps begin offsets t = report_by_keeps (sequence_named t.group b.sequences) begin t.group (record { task = t.task; offsets = offsets })

    asked_keeps : (r : Result PosseRow Refusal) → Keeps (refused_or r b (told_of b))
    asked_keeps (Err why) = h
    asked_keeps (Ok n) = h

-- ---- any of these commands

pub others_keep : (fact : Fact) (b : Book) (c : Command) → IsKeptBy fact (new_source c) → publishes_nothing c ≡ true → Of fact b → Of fact (next b c)
others_keep fact b (Commands.Submit task group source kind priority locks) kept is h = submitted_keeps fact _ kept b h (task_of task b.tasks) (waiting_row task group source kind priority locks) refl
others_keep fact b (Commands.Manage now) kept is h =
    all_managed_keep fact _ kept now (filter is_waiting b.tasks) (record { book = record b { clock = moment b now }; running = []; waiting = [] }) h
others_keep fact b (Commands.Lock task lock_kind span now) kept is h =
    let w : Want = record { lock_kind = lock_kind; span = span } in
    running_is b (Keeps fact _ kept b h) (still fact _ kept b h) (task_of task b.tasks) (locked b w now) (λ t found. locked_keeps fact _ kept b h (grant_lock b.posses (counters_at b now) t w) t)
others_keep fact b (Commands.Unlock task lock) kept is h = unlocked_keeps fact _ kept b h (task_of task b.tasks) task lock
others_keep fact b (Commands.Allocate task lock_kind sequence previous at granularity now) kept is h =
    let r : IdRequest = record { lock_kind = lock_kind; sequence = sequence; previous = previous; at = at; granularity = granularity; now = now } in
    running_is b (Keeps fact _ kept b h) (still fact _ kept b h) (task_of task b.tasks) (allocated b r) (λ t found. allocate_keeps fact _ kept b h (known_pending b.pendings t.source sequence previous) r t)
others_keep fact b (Commands.End task status) kept is h = task_ended fact _ kept b h (task_of task b.tasks) status
others_keep fact b (Commands.Supervise source stream partitions task_count replicas task_duration completion_timeout) kept is h = supervised_keeps fact _ kept b h (supervisor_of source b.supervisors)
    (record { source = source; stream = stream; partitions = partitions; task_count = task_count; replicas = replicas; duration = task_duration; timeout = completion_timeout }) refl
others_keep fact b (Commands.Tick now) kept is h =
    ticked_keeps fact _ kept b h (ticked b.offsets (moment b now) b.supervisors b.sequences) (moment b now) (λ named all. opened_are_named named b.offsets (moment b now) b.supervisors b.sequences all)
others_keep fact b (Commands.Paused task offsets) kept is h = running_is b (Keeps fact _ kept b h) (still fact _ kept b h) (task_of task b.tasks) (report_step false b offsets) (λ t found. report_keeps fact _ kept b h false offsets t)
others_keep fact b (Commands.Checkpoint task offsets) kept is h = running_is b (Keeps fact _ kept b h) (still fact _ kept b h) (task_of task b.tasks) (report_step true b offsets) (λ t found. report_keeps fact _ kept b h true offsets t)
others_keep fact b (Commands.ToReplace task span) kept is h =
    running_is b (Keeps fact _ kept b h) (still fact _ kept b h) (task_of task b.tasks) (asked b span) (λ t found. asked_keeps fact _ kept b h (held_for b.posses t LockKinds.Replace span))
others_keep fact b (Commands.Show what) kept is h = h
others_keep fact b (Commands.Append task ids ranges) kept is h = absurd (false≢true is)
others_keep fact b (Commands.Insert task spans ids tombstones ranges) kept is h = absurd (false≢true is)
others_keep fact b (Commands.Replace task spans ids tombstones ranges) kept is h = absurd (false≢true is)
others_keep fact b (Commands.Drop source span) kept is h = absurd (false≢true is)
others_keep fact b (Commands.Reset source stream offsets) kept is h = absurd (false≢true is)
