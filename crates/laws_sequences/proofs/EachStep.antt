-- What holds under each small change of a book holds under every command.
use Rattle.std.proofs.Common.{◌≡◌, ℕ, ℤ, Bool, true, false, cond, List, [], ◌∷◌, ◌++◌, map, filter, Some, None, Option, Result, Ok, Err, refl, length, bytes_eq}
use Rattle.iv_span.specs.Extent.{Extent}
use Rattle.book_rows.specs.Allocation.{allotted, allotted_id, known_fault, known_pending, place}
use Rattle.book_rows.specs.Answer.{next}
use Rattle.book_rows.specs.Append.{after_append, append_fault}
use Rattle.book_rows.specs.Grant.{book_granted, counters_at, grant_all, grant_lock, moment}
use Rattle.book_rows.specs.Lists.{In, or_else}
use Rattle.book_rows.specs.LockSteps.{IdRequest, allocate_by, allocated, allotted_outcome, join_known, known, lock_outcome, lock_reply, locked, pending_for, placed, unlocked}
use Rattle.book_rows.specs.Locks.{is_member_of, joined, left_lock, posse_of}
use Rattle.book_rows.specs.Outcome.{Outcome, changed, fitted, no_room, refused_or, repeated, task_of, unless}
use Rattle.book_rows.specs.Over.{Filling, Inserting, Replacing, Target, check_over, held_for}
use Rattle.book_rows.specs.PublishSteps.{after_reset, append_running, asked, commit_reply, over_checked, over_running, publish_step, published_or, told_of}
use Rattle.book_rows.specs.Publications.{Publish, appending, in_spans, publication_of, ranges_fault, repeat_of, without_since}
use Rattle.book_rows.specs.Reports.{first_bad, reported}
use Rattle.book_rows.specs.Rewrite.{after_drop, after_insert, after_replace, drop_fault}
use Rattle.book_rows.specs.Sequences.{sequence_named, supervisor_of}
use Rattle.book_rows.specs.SupSteps.{after_tick, report_as, report_by, report_fault, report_kept, report_step, row_reply, supervised, tick_outcome}
use Rattle.book_rows.specs.TaskSteps.{Managed, after_end, end_as, end_of_task, is_waiting, managed, managed_all, managed_by, managed_one, started_by, submitted, waiting_row, with_status}
use Rattle.book_rows.specs.Ticks.{Ticking, ticked}
use Rattle.book_rows.specs.declared.answers.Granted.{Granted}
use Rattle.book_rows.specs.declared.answers.GrantedLock.{GrantedLock}
use Rattle.book_rows.specs.declared.answers.NewPending.{NewPending}
use Rattle.book_rows.specs.declared.answers.Place.{Place}
use Rattle.book_rows.specs.declared.commands.Command.{Command}
use Rattle.book_rows.specs.declared.commands.Command.TheVariants as Commands
use Rattle.book_rows.specs.declared.kinds.LockKind.TheVariants as LockKinds
use Rattle.book_rows.specs.declared.kinds.PubKind.{PubKind}
use Rattle.book_rows.specs.declared.kinds.PubKind.TheVariants as PubKinds
use Rattle.book_rows.specs.declared.kinds.SeqState.{SeqState}
use Rattle.book_rows.specs.declared.kinds.SeqState.TheVariants as States
use Rattle.book_rows.specs.declared.kinds.Table.{Table}
use Rattle.book_rows.specs.declared.kinds.Table.TheVariants as Tables
use Rattle.book_rows.specs.declared.kinds.TaskKind.{TaskKind}
use Rattle.book_rows.specs.declared.kinds.TaskStatus.{TaskStatus}
use Rattle.book_rows.specs.declared.kinds.TaskStatus.TheVariants as Statuses
use Rattle.book_rows.specs.declared.replies.Refusal.{Refusal}
use Rattle.book_rows.specs.declared.replies.Reply.{Reply}
use Rattle.book_rows.specs.declared.replies.Reply.TheVariants as Replies
use Rattle.book_rows.specs.declared.rows.Book.{Book}
use Rattle.book_rows.specs.declared.rows.Offset.{Offset}
use Rattle.book_rows.specs.declared.rows.PendingRow.{PendingRow}
use Rattle.book_rows.specs.declared.rows.PosseRow.{PosseRow}
use Rattle.book_rows.specs.declared.rows.Report.{Report}
use Rattle.book_rows.specs.declared.rows.SequenceRow.{SequenceRow}
use Rattle.book_rows.specs.declared.rows.SupervisorRow.{SupervisorRow}
use Rattle.book_rows.specs.declared.rows.TaskRow.{TaskRow}
use Rattle.book_rows.specs.declared.rows.Want.{Want}
use Rattle.laws_locks.proofs.Lists.{found_In}
use Rattle.laws_locks.proofs.Rooms.{fitted_keeps, running_as_keeps, running_keeps}
use Rattle.laws_offsets.proofs.Lists.{or_else_none}

abbrev pub supervisor_row : List ℕ → List ℕ → ℕ → ℕ → ℕ → ℤ → ℤ → SupervisorRow
supervisor_row source stream partitions task_count replicas duration timeout =
    record { source = source; stream = stream; partitions = partitions; task_count = task_count; replicas = replicas; duration = duration; timeout = timeout }

abbrev pub with_supervisor : SupervisorRow → Book → Book
with_supervisor row b = record b { supervisors = b.supervisors ++ row ∷ [] }

-- the changes of which the commands are made, each under what its command has checked, and where the command has that form
pub record KeepsSteps (Form : Command → Type 0) (P : Book → Type 0) : Type 0 where
  pub submits : (b : Book) (task group source : List ℕ) (kind : TaskKind) (priority : ℕ) (locks : List Want) → Form (Commands.Submit task group source kind priority locks) → task_of task b.tasks ≡ None → P b
      → P (record b { tasks = b.tasks ++ waiting_row task group source kind priority locks ∷ [] })
  pub manages : (b : Book) (now : ℤ) → P b → P (managed b now).book
  pub grants : (b : Book) (task : List ℕ) (g : Granted) → P b → P (book_granted b task g)
  pub leaves : (b : Book) (lock : ℕ) (task : List ℕ) → P b → P (left_lock lock task b)
  pub joins : (b : Book) (now : ℤ) (qs : List PosseRow) → P b → P (record b { clock = now; posses = qs })
  pub allots : (b : Book) (n : NewPending) → P b → P (allotted n b)
  pub appends : (b : Book) (t : TaskRow) (given : Publish) → In t b.tasks → ranges_fault b t given.ranges ≡ None → P b → P (after_append t given b)
  pub inserts : (b : Book) (t : TaskRow) (xs : List Target) (given : Publish) → In t b.tasks → ranges_fault b t given.ranges ≡ None → P b → P (after_insert t given xs b)
  pub replaces : (b : Book) (t : TaskRow) (xs : List Target) (given : Publish) → In t b.tasks → ranges_fault b t given.ranges ≡ None → P b → P (after_replace t given xs b)
  pub drops : (b : Book) (source : List ℕ) (span : Extent) → P b → P (after_drop source span b)
  pub resets : (b : Book) (source stream : List ℕ) (os : List Offset) → P b → P (after_reset source stream os b)
  pub ends : (b : Book) (task : List ℕ) (t : TaskRow) (status : TaskStatus) → Form (Commands.End task status) → In t b.tasks → P b → P (after_end t status b)
  pub reports : (b : Book) (t : TaskRow) (offsets : List Offset) (u : SequenceRow) → In t b.tasks → sequence_named t.group b.sequences ≡ Some u → first_bad u.starts offsets ≡ None → P b
      → P (record b { sequences = map (reported t.group (record { task = t.task; offsets = offsets }) b.clock) b.sequences })
  pub supervises : (b : Book) (source stream : List ℕ) (partitions task_count replicas : ℕ) (duration timeout : ℤ) → Form (Commands.Supervise source stream partitions task_count replicas duration timeout) → supervisor_of source b.supervisors ≡ None
      → no_room (Tables.Supervisors ∷ []) (with_supervisor (supervisor_row source stream partitions task_count replicas duration timeout) b) ≡ None → P b → P (with_supervisor (supervisor_row source stream partitions task_count replicas duration timeout) b)
  pub ticks : (b : Book) (now : ℤ) → no_room (Tables.Tasks ∷ Tables.Sequences ∷ []) (after_tick (ticked b.offsets now b.supervisors b.sequences) now b) ≡ None → P b → P (after_tick (ticked b.offsets now b.supervisors b.sequences) now b)

-- ---- managing, for a fact that knows of no other task

module _ (P : Book → Type 0) (clocks : (b : Book) (now : ℤ) → P b → P (record b { clock = now })) (grants : (b : Book) (task : List ℕ) (g : Granted) → P b → P (book_granted b task g)) (runs : (b : Book) (task : List ℕ) → P b → P (with_status task Statuses.Running b)) where
  started_keeps : (o : Option Table) (t : TaskRow) (after : Book) (m : Managed) → P m.book → P after → P (started_by o t after m).book
  started_keeps (Some table) t after m h k = h
  started_keeps None t after m h k = k

  managed_one_keeps : (r : Result Granted Refusal) (t : TaskRow) (m : Managed) → P m.book → P (managed_by r t m).book
  managed_one_keeps (Err why) t m h = h
  managed_one_keeps (Ok g) t m h =
      let after : Book = with_status t.task Statuses.Running (book_granted m.book t.task g) in
      started_keeps (no_room (Tables.Locks ∷ Tables.Numbers ∷ []) after) t after m h (runs (book_granted m.book t.task g) t.task (grants m.book t.task g h))

  each_managed : (now : ℤ) (ts : List TaskRow) (m : Managed) → P m.book → P (managed_all now ts m).book
  each_managed now [] m h = h
  each_managed now (t ∷ ts) m h = each_managed now ts (managed_one now t m) (managed_one_keeps (grant_all m.book.posses (counters_at m.book now) t t.wants) t m h)

  pub managed_keeps : (b : Book) (now : ℤ) → P b → P (managed b now).book
  managed_keeps b now h = each_managed now (filter is_waiting b.tasks) (record { book = record b { clock = moment b now }; running = []; waiting = [] }) (clocks b (moment b now) h)

-- ---- all commands

-- the task that is found is one of the book
pub found_task : (task : List ℕ) (b : Book) (t : TaskRow) → task_of task b.tasks ≡ Some t → In t b.tasks
found_task task b t e = (found_In (λ (u : TaskRow). bytes_eq u.task task) t b.tasks e).0

module _ (Form : Command → Type 0) (P : Book → Type 0) (k : KeepsSteps Form P) where
  -- ---- refusals

  unless_keeps : (o : Option Refusal) (b : Book) (out : Outcome) → P b → (o ≡ None → P out.book) → P (unless o b out).book
  unless_keeps (Some why) b out h f = h
  unless_keeps None b out h f = f refl

  either_keeps : (x : Bool) (out other : Outcome) → P out.book → P other.book → P (cond x out other).book
  either_keeps true out other h k = h
  either_keeps false out other h k = k

  -- ---- submit

  submitted_keeps : (o : Option TaskRow) (b : Book) (row : TaskRow) → P b → (o ≡ None → P (record b { tasks = b.tasks ++ row ∷ [] })) → P (submitted o b row).book
  submitted_keeps (Some t) b row h f = h
  submitted_keeps None b row h f = fitted_keeps P (Tables.Tasks ∷ []) b (record b { tasks = b.tasks ++ row ∷ [] }) (Replies.Submit Statuses.Waiting row.task) h (λ room. f refl)

  -- ---- lock, unlock and allocate

  locked_keeps : (o : Result GrantedLock Refusal) (b : Book) (t : TaskRow) → P b → P (refused_or o b (lock_outcome b t)).book
  locked_keeps (Err why) b t h = h
  locked_keeps (Ok l) b t h =
      fitted_keeps P (Tables.Locks ∷ Tables.Numbers ∷ []) b (book_granted b t.task l.granted) (lock_reply l) h (λ room. k.grants b t.task l.granted h)

  unlocked_keeps : (o : Option TaskRow) (b : Book) (task : List ℕ) (lock : ℕ) → P b → P (unlocked o b task lock).book
  unlocked_keeps None b task lock h = h
  unlocked_keeps (Some t) b task lock h =
      either_keeps (is_member_of (posse_of lock b.posses) task) (changed (left_lock lock task b) (Replies.Unlock true)) (repeated b (Replies.Unlock false)) (k.leaves b lock task h) h

  known_keeps : (b : Book) (r : IdRequest) (t : TaskRow) (p : PendingRow) → P b → P (known b r t p).book
  known_keeps b r t p h =
      unless_keeps (known_fault b.posses t r.lock_kind r.at p) b (join_known b r.now t.task p) h
      (λ none. either_keeps (is_member_of (posse_of p.posse b.posses) t.task) (repeated b (Replies.Allocate p.id p.posse []))
      (changed (record b { clock = moment b r.now; posses = map (joined p.posse t.task) b.posses }) (Replies.Allocate p.id p.posse [])) h (k.joins b (moment b r.now) (map (joined p.posse t.task) b.posses) h))

  allocated_keeps : (o : Result GrantedLock Refusal) (b : Book) (r : IdRequest) (t : TaskRow) (x : Place) → P b → P (refused_or o b (λ l. allotted_outcome b t l (pending_for t r x l))).book
  allocated_keeps (Err why) b r t x h = h
  allocated_keeps (Ok l) b r t x h =
      let n : NewPending = pending_for t r x l in
      let granted : Book = book_granted b t.task l.granted in
      fitted_keeps P (Tables.Locks ∷ Tables.Numbers ∷ Tables.Chunks ∷ Tables.Parts ∷ Tables.Pendings ∷ []) b (allotted n granted) (Replies.Allocate (allotted_id b.chunks n) n.posse l.granted.revoked) h
      (λ room. k.allots granted n (k.grants b t.task l.granted h))

  placed_keeps : (o : Result Place Refusal) (b : Book) (r : IdRequest) (t : TaskRow) → P b → P (refused_or o b (placed b r t)).book
  placed_keeps (Err why) b r t h = h
  placed_keeps (Ok x) b r t h = allocated_keeps (grant_lock b.posses (counters_at b r.now) t (record { lock_kind = r.lock_kind; span = x.span })) b r t x h

  allocate_keeps : (o : Option PendingRow) (b : Book) (r : IdRequest) (t : TaskRow) → P b → P (allocate_by o b r t).book
  allocate_keeps (Some p) b r t h = known_keeps b r t p h
  allocate_keeps None b r t h = placed_keeps (place b.segments b.pendings t.source r.at r.granularity) b r t h

  -- ---- publishing

  published_or_keeps : (n : Option ℕ) (b : Book) (status : TaskStatus) (reply : ℕ → Reply) (out : Outcome) → P b → P out.book → P (published_or n b status reply out).book
  published_or_keeps (Some n) b status reply out h after = h
  published_or_keeps None b status reply out h after = running_as_keeps P status b out h (λ runs. after)

  -- where nothing speaks against it and there is room
  publish_keeps : (o : Option Refusal) (tables : List Table) (b after : Book) (reply : Reply) → P b → (o ≡ None → P after) → P (unless o b (fitted tables b after reply)).book
  publish_keeps o tables b after reply h f = unless_keeps o b (fitted tables b after reply) h (λ none. fitted_keeps P tables b after reply h (λ room. f none))

  -- a publish of a task of the table, decided as it is
  step_keeps : (kind : PubKind) (o : Option TaskRow) (b : Book) (given : Publish) (decided : TaskRow → Outcome) → ((t : TaskRow) → o ≡ Some t → In t b.tasks) → P b → ((t : TaskRow) → In t b.tasks → P (decided t).book)
      → P (publish_step kind o b given decided).book
  step_keeps kind None b given decided i h each = h
  step_keeps kind (Some t) b given decided i h each =
      published_or_keeps (repeat_of (publication_of kind t (without_since given.spans) given) b.publications) b t.status (commit_reply kind) (decided t) h (each t (i t refl))

  append_keeps : (b : Book) (given : Publish) (t : TaskRow) → In t b.tasks → P b → P (append_running b given t).book
  append_keeps b given t i h =
      publish_keeps (or_else (append_fault b.posses b.pendings t.task given.ids) (ranges_fault b t given.ranges)) (Tables.Segments ∷ Tables.Upgrades ∷ Tables.Publications ∷ Tables.Offsets ∷ []) b (after_append t given b)
      (Replies.Append (length b.publications)) h (λ none. k.appends b t given i (or_else_none (append_fault b.posses b.pendings t.task given.ids) (ranges_fault b t given.ranges) none).1 h)

  checked_keeps : (f : Filling) (b : Book) (given : Publish) (t : TaskRow) (xs : List Target) → In t b.tasks → P b → P (over_checked f b given t xs).book
  checked_keeps Inserting b given t xs i h =
      publish_keeps (ranges_fault b t given.ranges) (Tables.Chunks ∷ Tables.Parts ∷ Tables.Segments ∷ Tables.Publications ∷ Tables.Offsets ∷ []) b (after_insert t given xs b)
      (Replies.Insert (length b.publications)) h (λ none. k.inserts b t xs given i none h)
  checked_keeps Replacing b given t xs i h =
      publish_keeps (ranges_fault b t given.ranges) (Tables.Chunks ∷ Tables.Parts ∷ Tables.Segments ∷ Tables.Pendings ∷ Tables.Publications ∷ Tables.Offsets ∷ []) b (after_replace t given xs b)
      (Replies.Replace (length b.publications)) h (λ none. k.replaces b t xs given i none h)

  over_keeps : (r : Result (List Target) Refusal) (f : Filling) (b : Book) (given : Publish) (t : TaskRow) → In t b.tasks → P b → P (refused_or r b (over_checked f b given t)).book
  over_keeps (Err why) f b given t i h = h
  over_keeps (Ok xs) f b given t i h = checked_keeps f b given t xs i h

  -- ---- end

  ended_keeps : (s status : TaskStatus) (b : Book) (t : TaskRow) → P b → P (after_end t status b) → P (end_as s status b t).book
  ended_keeps Statuses.Success Statuses.Success b t h after = h
  ended_keeps Statuses.Success Statuses.Failed b t h after = h
  ended_keeps Statuses.Success Statuses.Waiting b t h after = h
  ended_keeps Statuses.Success Statuses.Running b t h after = h
  ended_keeps Statuses.Failed Statuses.Success b t h after = h
  ended_keeps Statuses.Failed Statuses.Failed b t h after = h
  ended_keeps Statuses.Failed Statuses.Waiting b t h after = h
  ended_keeps Statuses.Failed Statuses.Running b t h after = h
  ended_keeps Statuses.Waiting Statuses.Success b t h after = h
  ended_keeps Statuses.Waiting Statuses.Failed b t h after = after
  ended_keeps Statuses.Waiting Statuses.Waiting b t h after = after
  ended_keeps Statuses.Waiting Statuses.Running b t h after = after
  ended_keeps Statuses.Running Statuses.Success b t h after = after
  ended_keeps Statuses.Running Statuses.Failed b t h after = after
  ended_keeps Statuses.Running Statuses.Waiting b t h after = after
  ended_keeps Statuses.Running Statuses.Running b t h after = after

  task_ended : (o : Option TaskRow) (b : Book) (status : TaskStatus) → P b → ((t : TaskRow) → o ≡ Some t → P (after_end t status b)) → P (end_of_task o b status).book
  task_ended None b status h f = h
  task_ended (Some t) b status h f = ended_keeps t.status status b t h (f t refl)

  -- ---- supervisors

  supervised_keeps : (o : Option SupervisorRow) (b : Book) (row : SupervisorRow) → P b → (o ≡ None → no_room (Tables.Supervisors ∷ []) (with_supervisor row b) ≡ None → P (with_supervisor row b)) → P (supervised o b row).book
  supervised_keeps (Some s) b row h f = h
  supervised_keeps None b row h f = fitted_keeps P (Tables.Supervisors ∷ []) b (with_supervisor row b) (Replies.Supervise row.source) h (λ room. f refl room)

  tick_keeps : (b : Book) (now : ℤ) → P b → P (tick_outcome b (ticked b.offsets now b.supervisors b.sequences) now).book
  tick_keeps b now h =
      let t : Ticking = ticked b.offsets now b.supervisors b.sequences in
      fitted_keeps P (Tables.Tasks ∷ Tables.Sequences ∷ []) b (after_tick t now b) (Replies.Tick t.told.abandoned t.told.opened t.told.paused) h (λ room. k.ticks b now room h)

  no_bad : (o : Option ℕ) → report_fault o ≡ None → o ≡ None
  no_bad None e = refl
  no_bad (Some partition) e = cc

  report_kept_keeps : (begin : Bool) (b : Book) (t : TaskRow) (offsets : List Offset) (u : SequenceRow) → In t b.tasks → sequence_named t.group b.sequences ≡ Some u → P b → P (report_kept begin b t.group (record { task = t.task; offsets = offsets }) u).book
  report_kept_keeps begin b t offsets u i found h =
      let new : Report = record { task = t.task; offsets = offsets } in
      unless_keeps (report_fault (first_bad u.starts offsets)) b
      (changed (record b { sequences = map (reported t.group new b.clock) b.sequences }) (row_reply begin (reported t.group new b.clock u))) h
      (λ none. k.reports b t offsets u i found (no_bad (first_bad u.starts offsets) none) h)

  report_as_keeps : (s : SeqState) (begin : Bool) (b : Book) (t : TaskRow) (offsets : List Offset) (u : SequenceRow) → In t b.tasks → sequence_named t.group b.sequences ≡ Some u → P b
      → P (report_as s begin b t.group (record { task = t.task; offsets = offsets }) u).book
  report_as_keeps States.Published begin b t offsets u i found h = h
  report_as_keeps States.Abandoned begin b t offsets u i found h = h
  report_as_keeps States.Closed begin b t offsets u i found h = h
  report_as_keeps States.Reading false b t offsets u i found h = h
  report_as_keeps States.Reading true b t offsets u i found h = report_kept_keeps true b t offsets u i found h
  report_as_keeps States.Paused begin b t offsets u i found h = report_kept_keeps begin b t offsets u i found h

  report_by_keeps : (o : Option SequenceRow) (begin : Bool) (b : Book) (t : TaskRow) (offsets : List Offset) → In t b.tasks → sequence_named t.group b.sequences ≡ o → P b → P (report_by o begin b t.group (record { task = t.task; offsets = offsets })).book
  report_by_keeps None begin b t offsets i found h = h
  report_by_keeps (Some u) begin b t offsets i found h = report_as_keeps u.state begin b t offsets u i found h

  report_keeps : (begin : Bool) (b : Book) (offsets : List Offset) (t : TaskRow) → In t b.tasks → P b → P (report_step begin b offsets t).book
  report_keeps begin b offsets t i h = report_by_keeps (sequence_named t.group b.sequences) begin b t offsets i refl h

  asked_keeps : (r : Result PosseRow Refusal) (b : Book) → P b → P (refused_or r b (told_of b)).book
  asked_keeps (Err why) b h = h
  asked_keeps (Ok q) b h = h

  -- ---- any command

  pub each_keeps : (b : Book) (c : Command) → Form c → P b → P (next b c)
  each_keeps b (Commands.Submit task group source kind priority locks) form h =
      submitted_keeps (task_of task b.tasks) b (waiting_row task group source kind priority locks) h (λ new. k.submits b task group source kind priority locks form new h)
  each_keeps b (Commands.Manage now) form h = k.manages b now h
  each_keeps b (Commands.Lock task lock_kind span now) form h =
      let w : Want = record { lock_kind = lock_kind; span = span } in
      running_keeps P (task_of task b.tasks) b (locked b w now) h (λ t found runs. locked_keeps (grant_lock b.posses (counters_at b now) t w) b t h)
  each_keeps b (Commands.Unlock task lock) form h = unlocked_keeps (task_of task b.tasks) b task lock h
  each_keeps b (Commands.Allocate task lock_kind sequence previous at granularity now) form h =
      let r : IdRequest = record { lock_kind = lock_kind; sequence = sequence; previous = previous; at = at; granularity = granularity; now = now } in
      running_keeps P (task_of task b.tasks) b (allocated b r) h (λ t found runs. allocate_keeps (known_pending b.pendings t.source sequence previous) b r t h)
  each_keeps b (Commands.Append task ids ranges) form h =
      step_keeps PubKinds.Append (task_of task b.tasks) b (appending ids ranges) (append_running b (appending ids ranges)) (found_task task b) h (λ t i. append_keeps b (appending ids ranges) t i h)
  each_keeps b (Commands.Insert task spans ids tombstones ranges) form h =
      let given : Publish = in_spans spans ids tombstones ranges in
      step_keeps PubKinds.Over (task_of task b.tasks) b given (over_running Inserting b given) (found_task task b) h (λ t i. over_keeps (check_over Inserting b given t) Inserting b given t i h)
  each_keeps b (Commands.Replace task spans ids tombstones ranges) form h =
      let given : Publish = in_spans spans ids tombstones ranges in
      step_keeps PubKinds.Replace (task_of task b.tasks) b given (over_running Replacing b given) (found_task task b) h (λ t i. over_keeps (check_over Replacing b given t) Replacing b given t i h)
  each_keeps b (Commands.End task status) form h =
      task_ended (task_of task b.tasks) b status h (λ t found. k.ends b task t status form (found_task task b t found) h)
  each_keeps b (Commands.Drop source span) form h =
      publish_keeps (drop_fault b.posses b.segments source span) (Tables.Publications ∷ []) b (after_drop source span b) (Replies.Drop (length b.publications)) h (λ none. k.drops b source span h)
  each_keeps b (Commands.Reset source stream offsets) form h =
      fitted_keeps P (Tables.Publications ∷ Tables.Offsets ∷ []) b (after_reset source stream offsets b) (Replies.Reset (length b.publications)) h (λ room. k.resets b source stream offsets h)
  each_keeps b (Commands.Supervise source stream partitions task_count replicas task_duration completion_timeout) form h =
      supervised_keeps (supervisor_of source b.supervisors) b (supervisor_row source stream partitions task_count replicas task_duration completion_timeout) h
      (λ none room. k.supervises b source stream partitions task_count replicas task_duration completion_timeout form none room h)
  each_keeps b (Commands.Tick now) form h = tick_keeps b (moment b now) h
  each_keeps b (Commands.Paused task offsets) form h = running_keeps P (task_of task b.tasks) b (report_step false b offsets) h (λ t found runs. report_keeps false b offsets t (found_task task b t found) h)
  each_keeps b (Commands.Checkpoint task offsets) form h = running_keeps P (task_of task b.tasks) b (report_step true b offsets) h (λ t found runs. report_keeps true b offsets t (found_task task b t found) h)
  each_keeps b (Commands.ToReplace task span) form h =
      running_keeps P (task_of task b.tasks) b (asked b span) h (λ t found runs. asked_keeps (held_for b.posses t LockKinds.Replace span) b h)
  each_keeps b (Commands.Show what) form h = h
