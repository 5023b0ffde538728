-- Each command keeps a fact that its small changes keep.
use Rattle.std.proofs.Common.{Bool, Err, List, None, Ok, Option, Result, Some, [], ap, cond, false, filter, length, map, refl, true, ℕ, ℤ, ◌++◌, ◌∷◌, ◌≡◌}
use Rattle.iv_span.specs.Extent.{Extent}
use Rattle.seg_names.specs.declared.seg_id.SegId.{SegId}
use Rattle.book_rows.specs.Allocation.{allotted, allotted_id, known_fault, known_pending, place}
use Rattle.book_rows.specs.Answer.{book_after, next}
use Rattle.book_rows.specs.Append.{after_append, append_fault}
use Rattle.book_rows.specs.Grant.{book_granted, counters_at, grant_all, grant_lock, granted_of, moment}
use Rattle.book_rows.specs.LockSteps.{IdRequest, allocate_by, allocated, allotted_outcome, join_known, known, lock_outcome, lock_reply, locked, pending_for, placed, unlocked}
use Rattle.book_rows.specs.Lists.{or_else}
use Rattle.book_rows.specs.Locks.{is_member_of, joined, left_all_locks, left_lock, left_locks, locks_of, posse_of}
use Rattle.book_rows.specs.Outcome.{Outcome, changed, fitted, no_room, refused_or, repeated, task_of, unless}
use Rattle.book_rows.specs.Over.{Filling, Inserting, Replacing, Target, check_over, held_for, kind_of}
use Rattle.book_rows.specs.Publications.{Publish, appending, in_spans, publication_of, ranges_fault, repeat_of, without_since}
use Rattle.book_rows.specs.PublishSteps.{after_reset, append_running, appended, asked, commit_reply, dropped, offsets_reset, over_checked, over_running, over_step, published_or, reads_stream, reset_step, sequences_dropped, told_of}
use Rattle.book_rows.specs.Reports.{ended, first_bad, reported}
use Rattle.book_rows.specs.Rewrite.{after_drop, after_insert, after_replace, drop_fault}
use Rattle.book_rows.specs.Sequences.{dropped_sequence, sequence_named, supervisor_of, tasks_dropped}
use Rattle.book_rows.specs.SupSteps.{after_tick, report_as, report_by, report_fault, report_kept, report_step, row_reply, supervised, tick_outcome}
use Rattle.book_rows.specs.TaskSteps.{Managed, all_failed, end_as, end_of_task, end_running, failed, is_waiting, managed_all, managed_by, managed_one, started_by, submitted, waiting_row, with_status}
use Rattle.book_rows.specs.Ticks.{Ticking, ticked}
use Rattle.book_rows.specs.declared.rows.PosseRow.{PosseRow}
use Rattle.book_rows.specs.declared.answers.Granted.{Granted}
use Rattle.book_rows.specs.declared.answers.GrantedLock.{GrantedLock}
use Rattle.book_rows.specs.declared.answers.NewPending.{NewPending}
use Rattle.book_rows.specs.declared.answers.Place.{Place}
use Rattle.book_rows.specs.declared.commands.Command.{Command}
use Rattle.book_rows.specs.declared.commands.Command.TheVariants as Commands
use Rattle.book_rows.specs.declared.kinds.LockKind.TheVariants as LockKinds
use Rattle.book_rows.specs.declared.kinds.PubKind.TheVariants as PubKinds
use Rattle.book_rows.specs.declared.kinds.SeqState.{SeqState}
use Rattle.book_rows.specs.declared.kinds.SeqState.TheVariants as States
use Rattle.book_rows.specs.declared.kinds.Table.{Table}
use Rattle.book_rows.specs.declared.kinds.Table.TheVariants as Tables
use Rattle.book_rows.specs.declared.kinds.TaskStatus.{TaskStatus}
use Rattle.book_rows.specs.declared.kinds.TaskStatus.TheVariants as Statuses
use Rattle.book_rows.specs.declared.replies.Refusal.{Refusal}
use Rattle.book_rows.specs.declared.replies.Reply.{Reply}
use Rattle.book_rows.specs.declared.replies.Reply.TheVariants as Replies
use Rattle.book_rows.specs.declared.rows.Book.{Book}
use Rattle.book_rows.specs.declared.rows.Offset.{Offset}
use Rattle.book_rows.specs.declared.rows.PendingRow.{PendingRow}
use Rattle.book_rows.specs.declared.rows.Ranges.{Ranges}
use Rattle.book_rows.specs.declared.rows.Report.{Report}
use Rattle.book_rows.specs.declared.rows.SequenceRow.{SequenceRow}
use Rattle.book_rows.specs.declared.rows.SupervisorRow.{SupervisorRow}
use Rattle.book_rows.specs.declared.rows.TaskRow.{TaskRow}
use Rattle.book_rows.specs.declared.rows.Want.{Want}
use Rattle.laws_locks.proofs.Rooms.{fitted_keeps, running_as_keeps, running_keeps}
use Rattle.laws_locks.proofs.Targets.{fills}
use Rattle.laws_revocation.proofs.Facts.{Fact, IsKept, Of}
use Rattle.laws_revocation.proofs.GrantSteps.{all_granted_kept, granted_kept, granted_valid}

module _ (Formed : Command → Type 0) (fact : Fact) (kept : IsKept Formed fact) where
  unless_keeps : (o : Option Refusal) (b : Book) (out : Outcome) → Of fact b → Of fact out.book → Of fact (unless o b out).book
  unless_keeps (Some why) b out h k = h
  unless_keeps None b out h k = k

  either_keeps : (yes : Bool) (out other : Outcome) → Of fact out.book → Of fact other.book → Of fact (cond yes out other).book
  either_keeps true out other h k = h
  either_keeps false out other h k = k

  -- what is done where nothing speaks against it and there is room
  fitted_unless : (o : Option Refusal) (tables : List Table) (b after : Book) (reply : Reply) → Of fact b → Of fact after → Of fact (unless o b (fitted tables b after reply)).book
  fitted_unless o tables b after reply h k = unless_keeps o b (fitted tables b after reply) h (fitted_keeps (Of fact) tables b after reply h (λ room. k))

  -- ---- a task leaves its locks, or fails

  each_left : (ns task : List ℕ) (b : Book) → Of fact b → Of fact (left_locks ns task b)
  each_left [] task b h = h
  each_left (n ∷ ns) task b h = each_left ns task (left_lock n task b) (kept.left n task b.next_lock b.posses b.pendings b.chunks h)

  all_left : (task : List ℕ) (b : Book) → Of fact b → Of fact (left_all_locks task b)
  all_left task b h = each_left (locks_of task b.posses) task b h

  all_fail : (tasks : List (List ℕ)) (b : Book) → Of fact b → Of fact (all_failed tasks b)
  all_fail [] b h = h
  all_fail (task ∷ rest) b h = all_fail rest (failed task b) (all_left task b h)

  -- ---- submit, manage and end

  submitted_keeps : (o : Option TaskRow) (b : Book) (row : TaskRow) → Of fact b → Of fact (submitted o b row).book
  submitted_keeps (Some t) b row h = h
  submitted_keeps None b row h = fitted_keeps (Of fact) (Tables.Tasks ∷ []) b (record b { tasks = b.tasks ++ row ∷ [] }) (Replies.Submit Statuses.Waiting row.task) h (λ room. h)

  started_keeps : (o : Option Table) (t : TaskRow) (after : Book) (m : Managed) → Of fact m.book → Of fact after → Of fact (started_by o t after m).book
  started_keeps (Some table) t after m h k = h
  started_keeps None t after m h k = k

  managed_keeps : (r : Result Granted Refusal) (now : ℤ) (t : TaskRow) (m : Managed) → grant_all m.book.posses (counters_at m.book now) t t.wants ≡ r → Of fact m.book → Of fact (managed_by r t m).book
  managed_keeps (Err why) now t m e h = h
  managed_keeps (Ok g) now t m e h =
      let after : Book = with_status t.task Statuses.Running (book_granted m.book t.task g) in
      started_keeps (no_room (Tables.Locks ∷ Tables.Numbers ∷ []) after) t after m h
      (all_granted_kept Formed fact kept m.book.chunks t t.wants m.book.posses m.book.pendings (counters_at m.book now) g h e)

  each_managed : (now : ℤ) (ts : List TaskRow) (m : Managed) → Of fact m.book → Of fact (managed_all now ts m).book
  each_managed now [] m h = h
  each_managed now (t ∷ ts) m h = each_managed now ts (managed_one now t m) (managed_keeps (grant_all m.book.posses (counters_at m.book now) t t.wants) now t m refl h)

  end_running_keeps : (b : Book) (t : TaskRow) (status : TaskStatus) → Of fact b → Of fact (end_running b t status).book
  end_running_keeps b t status h =
      let e = ended t.group t.task b.clock b.sequences in
      let after : Book = with_status t.task status (left_all_locks t.task b) in
      all_fail e.tasks (record after { sequences = e.sequences }) (all_left t.task b h)

  end_as_keeps : (s status : TaskStatus) (b : Book) (t : TaskRow) → Of fact b → Of fact (end_as s status b t).book
  end_as_keeps Statuses.Success Statuses.Success b t h = h
  end_as_keeps Statuses.Success Statuses.Failed b t h = h
  end_as_keeps Statuses.Success Statuses.Waiting b t h = h
  end_as_keeps Statuses.Success Statuses.Running b t h = h
  end_as_keeps Statuses.Failed Statuses.Success b t h = h
  end_as_keeps Statuses.Failed Statuses.Failed b t h = h
  end_as_keeps Statuses.Failed Statuses.Waiting b t h = h
  end_as_keeps Statuses.Failed Statuses.Running b t h = h
  end_as_keeps Statuses.Waiting Statuses.Success b t h = h
  end_as_keeps Statuses.Waiting Statuses.Failed b t h = end_running_keeps b t Statuses.Failed h
  end_as_keeps Statuses.Waiting Statuses.Waiting b t h = end_running_keeps b t Statuses.Waiting h
  end_as_keeps Statuses.Waiting Statuses.Running b t h = end_running_keeps b t Statuses.Running h
  end_as_keeps Statuses.Running Statuses.Success b t h = end_running_keeps b t Statuses.Success h
  end_as_keeps Statuses.Running Statuses.Failed b t h = end_running_keeps b t Statuses.Failed h
  end_as_keeps Statuses.Running Statuses.Waiting b t h = end_running_keeps b t Statuses.Waiting h
  end_as_keeps Statuses.Running Statuses.Running b t h = end_running_keeps b t Statuses.Running h

  end_keeps : (o : Option TaskRow) (b : Book) (status : TaskStatus) → Of fact b → Of fact (end_of_task o b status).book
  end_keeps None b status h = h
  end_keeps (Some t) b status h = end_as_keeps t.status status b t h

  -- ---- lock and unlock

  locked_keeps : (o : Result GrantedLock Refusal) (b : Book) (t : TaskRow) (w : Want) (now : ℤ) → grant_lock b.posses (counters_at b now) t w ≡ o → Of fact b → Of fact (refused_or o b (lock_outcome b t)).book
  locked_keeps (Err why) b t w now e h = h
  locked_keeps (Ok l) b t w now e h =
      fitted_keeps (Of fact) (Tables.Locks ∷ Tables.Numbers ∷ []) b (book_granted b t.task l.granted) (lock_reply l) h
      (λ room. granted_kept Formed fact kept b.chunks t b.posses b.pendings (counters_at b now) w l.granted h (ap granted_of e))

  unlocked_keeps : (o : Option TaskRow) (b : Book) (task : List ℕ) (lock : ℕ) → Of fact b → Of fact (unlocked o b task lock).book
  unlocked_keeps None b task lock h = h
  unlocked_keeps (Some t) b task lock h =
      either_keeps (is_member_of (posse_of lock b.posses) task) (changed (left_lock lock task b) (Replies.Unlock true)) (repeated b (Replies.Unlock false)) (kept.left lock task b.next_lock b.posses b.pendings b.chunks h) h

  -- ---- allocate

  known_keeps : (b : Book) (r : IdRequest) (t : TaskRow) (p : PendingRow) → Of fact b → Of fact (known b r t p).book
  known_keeps b r t p h =
      unless_keeps (known_fault b.posses t r.lock_kind r.at p) b (join_known b r.now t.task p) h
      (either_keeps (is_member_of (posse_of p.posse b.posses) t.task) (repeated b (Replies.Allocate p.id p.posse []))
      (changed (record b { clock = moment b r.now; posses = map (joined p.posse t.task) b.posses }) (Replies.Allocate p.id p.posse [])) h
      (kept.members (λ q. (joined p.posse t.task q).members) b.next_lock b.posses b.pendings b.chunks h))

  allocated_keeps : (o : Result GrantedLock Refusal) (b : Book) (r : IdRequest) (t : TaskRow) (x : Place) → grant_lock b.posses (counters_at b r.now) t (record { lock_kind = r.lock_kind; span = x.span }) ≡ o → Of fact b
      → Of fact (refused_or o b (λ l. allotted_outcome b t l (pending_for t r x l))).book
  allocated_keeps (Err why) b r t x e h = h
  allocated_keeps (Ok l) b r t x e h =
      let w : Want = record { lock_kind = r.lock_kind; span = x.span } in
      let n : NewPending = pending_for t r x l in
      let granted : Book = book_granted b t.task l.granted in
      fitted_keeps (Of fact) (Tables.Locks ∷ Tables.Numbers ∷ Tables.Chunks ∷ Tables.Parts ∷ Tables.Pendings ∷ []) b (allotted n granted) (Replies.Allocate (allotted_id b.chunks n) n.posse l.granted.revoked) h
      (λ room. kept.allotted n granted.next_lock granted.posses granted.pendings granted.chunks (granted_valid b.posses (counters_at b r.now) t w l e)
      (granted_kept Formed fact kept b.chunks t b.posses b.pendings (counters_at b r.now) w l.granted h (ap granted_of e)))

  placed_keeps : (o : Result Place Refusal) (b : Book) (r : IdRequest) (t : TaskRow) → Of fact b → Of fact (refused_or o b (placed b r t)).book
  placed_keeps (Err why) b r t h = h
  placed_keeps (Ok x) b r t h = allocated_keeps (grant_lock b.posses (counters_at b r.now) t (record { lock_kind = r.lock_kind; span = x.span })) b r t x refl h

  allocate_keeps : (o : Option PendingRow) (b : Book) (r : IdRequest) (t : TaskRow) → Of fact b → Of fact (allocate_by o b r t).book
  allocate_keeps (Some p) b r t h = known_keeps b r t p h
  allocate_keeps None b r t h = placed_keeps (place b.segments b.pendings t.source r.at r.granularity) b r t h

  -- ---- append, insert and replace

  published_or_keeps : (k : Option ℕ) (b : Book) (status : TaskStatus) (reply : ℕ → Reply) (out : Outcome) → Of fact b → Of fact out.book → Of fact (published_or k b status reply out).book
  published_or_keeps (Some k) b status reply out h after = h
  published_or_keeps None b status reply out h after = running_as_keeps (Of fact) status b out h (λ runs. after)

  append_keeps : (b : Book) (t : TaskRow) (ids : List SegId) (ranges : Option Ranges) → Of fact b → Of fact (append_running b (appending ids ranges) t).book
  append_keeps b t ids ranges h =
      fitted_unless (or_else (append_fault b.posses b.pendings t.task ids) (ranges_fault b t ranges)) (Tables.Segments ∷ Tables.Upgrades ∷ Tables.Publications ∷ Tables.Offsets ∷ []) b (after_append t (appending ids ranges) b)
      (Replies.Append (length b.publications)) h (kept.appended ids b.next_lock b.posses b.pendings b.chunks h)

  appended_keeps : (o : Option TaskRow) (b : Book) (ids : List SegId) (ranges : Option Ranges) → Of fact b → Of fact (appended o b (appending ids ranges)).book
  appended_keeps None b ids ranges h = h
  appended_keeps (Some t) b ids ranges h =
      published_or_keeps (repeat_of (publication_of PubKinds.Append t [] (appending ids ranges)) b.publications) b t.status Replies.Append (append_running b (appending ids ranges) t) h (append_keeps b t ids ranges h)

  checked_keeps : (f : Filling) (b : Book) (t : TaskRow) (task : List ℕ) (given : Publish) (xs : List Target) → Formed (fills f task given) → check_over f b given t ≡ Ok xs → Of fact b → Of fact (over_checked f b given t xs).book
  checked_keeps Inserting b t task given xs form e h =
      fitted_unless (ranges_fault b t given.ranges) (Tables.Chunks ∷ Tables.Parts ∷ Tables.Segments ∷ Tables.Publications ∷ Tables.Offsets ∷ []) b (after_insert t given xs b)
      (Replies.Insert (length b.publications)) h (kept.inserted b t task given xs form e h)
  checked_keeps Replacing b t task given xs form e h =
      fitted_unless (ranges_fault b t given.ranges) (Tables.Chunks ∷ Tables.Parts ∷ Tables.Segments ∷ Tables.Pendings ∷ Tables.Publications ∷ Tables.Offsets ∷ []) b (after_replace t given xs b)
      (Replies.Replace (length b.publications)) h (kept.replaced b t task given xs form e h)

  over_keeps : (r : Result (List Target) Refusal) (f : Filling) (b : Book) (t : TaskRow) (task : List ℕ) (given : Publish) → Formed (fills f task given) → check_over f b given t ≡ r → Of fact b → Of fact (refused_or r b (over_checked f b given t)).book
  over_keeps (Err why) f b t task given form e h = h
  over_keeps (Ok xs) f b t task given form e h = checked_keeps f b t task given xs form e h

  step_keeps : (f : Filling) (o : Option TaskRow) (b : Book) (task : List ℕ) (given : Publish) → Formed (fills f task given) → Of fact b → Of fact (over_step f o b given).book
  step_keeps f None b task given form h = h
  step_keeps f (Some t) b task given form h =
      published_or_keeps (repeat_of (publication_of (kind_of f) t (without_since given.spans) given) b.publications) b t.status (commit_reply (kind_of f)) (over_running f b given t) h
      (over_keeps (check_over f b given t) f b t task given form refl h)

  -- ---- drop and reset

  dropped_keeps : (b : Book) (source : List ℕ) (span : Extent) → Of fact b → Of fact (dropped b source span).book
  dropped_keeps b source span h = fitted_unless (drop_fault b.posses b.segments source span) (Tables.Publications ∷ []) b (after_drop source span b) (Replies.Drop (length b.publications)) h h

  sequences_keep : (reads : Bool) (source : List ℕ) (b : Book) → Of fact b → Of fact (cond reads (sequences_dropped source b) b)
  sequences_keep true source b h = all_fail (tasks_dropped source b.sequences) (record b { sequences = map (dropped_sequence source) b.sequences }) h
  sequences_keep false source b h = h

  reset_keeps : (b : Book) (source stream : List ℕ) (offsets : List Offset) → Of fact b → Of fact (reset_step b source stream offsets).book
  reset_keeps b source stream offsets h =
      fitted_keeps (Of fact) (Tables.Publications ∷ Tables.Offsets ∷ []) b (after_reset source stream offsets b) (Replies.Reset (length b.publications)) h
      (λ room. sequences_keep (reads_stream (supervisor_of source b.supervisors) stream) source (offsets_reset source stream offsets b) h)

  -- ---- supervise, tick, paused and checkpoint

  supervised_keeps : (o : Option SupervisorRow) (b : Book) (row : SupervisorRow) → Of fact b → Of fact (supervised o b row).book
  supervised_keeps (Some s) b row h = h
  supervised_keeps None b row h = fitted_keeps (Of fact) (Tables.Supervisors ∷ []) b (record b { supervisors = b.supervisors ++ row ∷ [] }) (Replies.Supervise row.source) h (λ room. h)

  tick_keeps : (b : Book) (k : Ticking) (now : ℤ) → Of fact b → Of fact (tick_outcome b k now).book
  tick_keeps b k now h =
      fitted_keeps (Of fact) (Tables.Tasks ∷ Tables.Sequences ∷ []) b (after_tick k now b) (Replies.Tick k.told.abandoned k.told.opened k.told.paused) h
      (λ room. all_fail k.told.ended (record b { clock = now; sequences = k.rows }) h)

  report_kept_keeps : (begin : Bool) (b : Book) (name : List ℕ) (new : Report) (u : SequenceRow) → Of fact b → Of fact (report_kept begin b name new u).book
  report_kept_keeps begin b name new u h =
      unless_keeps (report_fault (first_bad u.starts new.offsets)) b (changed (record b { sequences = map (reported name new b.clock) b.sequences }) (row_reply begin (reported name new b.clock u))) h h

  report_as_keeps : (s : SeqState) (begin : Bool) (b : Book) (name : List ℕ) (new : Report) (u : SequenceRow) → Of fact b → Of fact (report_as s begin b name new u).book
  report_as_keeps States.Published begin b name new u h = h
  report_as_keeps States.Abandoned begin b name new u h = h
  report_as_keeps States.Closed begin b name new u h = h
  report_as_keeps States.Reading false b name new u h = h
  report_as_keeps States.Reading true b name new u h = report_kept_keeps true b name new u h
  report_as_keeps States.Paused begin b name new u h = report_kept_keeps begin b name new u h

  report_by_keeps : (o : Option SequenceRow) (begin : Bool) (b : Book) (name : List ℕ) (new : Report) → Of fact b → Of fact (report_by o begin b name new).book
  report_by_keeps None begin b name new h = h
  report_by_keeps (Some u) begin b name new h = report_as_keeps u.state begin b name new u h

  report_keeps : (begin : Bool) (b : Book) (offsets : List Offset) (t : TaskRow) → Of fact b → Of fact (report_step begin b offsets t).book
  report_keeps begin b offsets t h = report_by_keeps (sequence_named t.group b.sequences) begin b t.group (record { task = t.task; offsets = offsets }) h

  asked_keeps : (r : Result PosseRow Refusal) (b : Book) → Of fact b → Of fact (refused_or r b (told_of b)).book
  asked_keeps (Err why) b h = h
  asked_keeps (Ok q) b h = h

  -- ---- any command

  pub next_keeps : (b : Book) (c : Command) → Formed c → Of fact b → Of fact (next b c)
  next_keeps b (Commands.Submit task group source kind priority locks) form h = submitted_keeps (task_of task b.tasks) b (waiting_row task group source kind priority locks) h
  next_keeps b (Commands.Manage now) form h = each_managed now (filter is_waiting b.tasks) (record { book = record b { clock = moment b now }; running = []; waiting = [] }) h
  next_keeps b (Commands.Lock task lock_kind span now) form h =
      let w : Want = record { lock_kind = lock_kind; span = span } in
      running_keeps (Of fact) (task_of task b.tasks) b (locked b w now) h (λ t found runs. locked_keeps (grant_lock b.posses (counters_at b now) t w) b t w now refl h)
  next_keeps b (Commands.Unlock task lock) form h = unlocked_keeps (task_of task b.tasks) b task lock h
  next_keeps b (Commands.Allocate task lock_kind sequence previous at granularity now) form h =
      let r : IdRequest = record { lock_kind = lock_kind; sequence = sequence; previous = previous; at = at; granularity = granularity; now = now } in
      running_keeps (Of fact) (task_of task b.tasks) b (allocated b r) h (λ t found runs. allocate_keeps (known_pending b.pendings t.source sequence previous) b r t h)
  next_keeps b (Commands.Append task ids ranges) form h = appended_keeps (task_of task b.tasks) b ids ranges h
  next_keeps b (Commands.Insert task spans ids tombstones ranges) form h = step_keeps Inserting (task_of task b.tasks) b task (in_spans spans ids tombstones ranges) form h
  next_keeps b (Commands.Replace task spans ids tombstones ranges) form h = step_keeps Replacing (task_of task b.tasks) b task (in_spans spans ids tombstones ranges) form h
  next_keeps b (Commands.End task status) form h = end_keeps (task_of task b.tasks) b status h
  next_keeps b (Commands.Drop source span) form h = dropped_keeps b source span h
  next_keeps b (Commands.Reset source stream offsets) form h = reset_keeps b source stream offsets h
  next_keeps b (Commands.Supervise source stream partitions task_count replicas task_duration completion_timeout) form h = supervised_keeps (supervisor_of source b.supervisors) b
      (record { source = source; stream = stream; partitions = partitions; task_count = task_count; replicas = replicas; duration = task_duration; timeout = completion_timeout }) h
  next_keeps b (Commands.Tick now) form h = tick_keeps b (ticked b.offsets (moment b now) b.supervisors b.sequences) (moment b now) h
  next_keeps b (Commands.Paused task offsets) form h = running_keeps (Of fact) (task_of task b.tasks) b (report_step false b offsets) h (λ t found runs. report_keeps false b offsets t h)
  next_keeps b (Commands.Checkpoint task offsets) form h = running_keeps (Of fact) (task_of task b.tasks) b (report_step true b offsets) h (λ t found runs. report_keeps true b offsets t h)
  next_keeps b (Commands.ToReplace task span) form h =
      running_keeps (Of fact) (task_of task b.tasks) b (asked b span) h (λ t found runs. asked_keeps (held_for b.posses t LockKinds.Replace span) b h)
  next_keeps b (Commands.Show what) form h = h

-- any commands keep a fact that asks no form of them
pub after_keeps : (fact : Fact) → IsKept (λ c. Unit {0}) fact → (b : Book) (cs : List Command) → Of fact b → Of fact (book_after b cs)
after_keeps fact kept b [] h = h
after_keeps fact kept b (c ∷ cs) h = after_keeps fact kept (next b c) cs (next_keeps (λ c. Unit {0}) fact kept b c tt h)
