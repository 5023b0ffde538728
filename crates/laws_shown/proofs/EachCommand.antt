-- What each command makes of the book: a property that each of these books has is one that the book after any command has.
use Rattle.std.proofs.Common.{Bool, Err, List, None, Ok, Option, Result, Some, [], ap, cond, false, length, map, refl, true, ℕ, ℤ, ◌++◌, ◌∷◌, ◌≡◌}
use Rattle.iv_span.specs.Extent.{Extent}
use Rattle.seg_names.specs.declared.seg_id.SegId.{SegId}
use Rattle.book_rows.specs.Allocation.{allotted, allotted_id, known_fault, known_pending, place}
use Rattle.book_rows.specs.Answer.{next}
use Rattle.book_rows.specs.Append.{after_append, append_fault}
use Rattle.book_rows.specs.Grant.{book_granted, counters_at, grant, grant_lock, granted_of, moment}
use Rattle.book_rows.specs.Lists.{or_else}
use Rattle.book_rows.specs.LockSteps.{IdRequest, allocate_by, allocated, allotted_outcome, join_known, known, lock_outcome, lock_reply, locked, pending_for, placed, unlocked}
use Rattle.book_rows.specs.Locks.{is_member_of, joined, left_lock, posse_of}
use Rattle.book_rows.specs.Outcome.{Outcome, changed, fitted, refused, refused_or, repeated, task_of}
use Rattle.book_rows.specs.Over.{Filling, Inserting, Replacing, Target, check_over, held_for, kind_of}
use Rattle.book_rows.specs.PublishSteps.{after_reset, append_running, appended, asked, commit_reply, dropped, over_checked, over_running, over_step, reset_step, told_of}
use Rattle.book_rows.specs.Publications.{Publish, appending, in_spans, publication_of, ranges_fault, repeat_of, without_since}
use Rattle.book_rows.specs.Reports.{first_bad, reported}
use Rattle.book_rows.specs.Rewrite.{after_drop, after_insert, after_replace, drop_fault}
use Rattle.book_rows.specs.Sequences.{sequence_named, supervisor_of}
use Rattle.book_rows.specs.SupSteps.{after_tick, report_as, report_by, report_fault, report_kept, report_step, row_reply, supervised, tick_outcome}
use Rattle.book_rows.specs.TaskSteps.{after_end, end_as, end_of_task, managed, submitted, waiting_row}
use Rattle.book_rows.specs.Ticks.{Ticking, ticked}
use Rattle.book_rows.specs.declared.rows.PosseRow.{PosseRow}
use Rattle.book_rows.specs.declared.answers.Granted.{Granted}
use Rattle.book_rows.specs.declared.answers.GrantedLock.{GrantedLock}
use Rattle.book_rows.specs.declared.answers.NewPending.{NewPending}
use Rattle.book_rows.specs.declared.answers.Place.{Place}
use Rattle.book_rows.specs.declared.commands.Command.{Command}
use Rattle.book_rows.specs.declared.kinds.SeqState.{SeqState}
use Rattle.book_rows.specs.declared.kinds.TaskStatus.{TaskStatus}
use Rattle.book_rows.specs.declared.replies.Refusal.{Refusal}
use Rattle.book_rows.specs.declared.replies.Reply.{Reply}
use Rattle.book_rows.specs.declared.rows.Book.{Book}
use Rattle.book_rows.specs.declared.rows.Offset.{Offset}
use Rattle.book_rows.specs.declared.rows.PendingRow.{PendingRow}
use Rattle.book_rows.specs.declared.rows.Ranges.{Ranges}
use Rattle.book_rows.specs.declared.rows.Report.{Report}
use Rattle.book_rows.specs.declared.rows.SequenceRow.{SequenceRow}
use Rattle.book_rows.specs.declared.rows.SupervisorRow.{SupervisorRow}
use Rattle.book_rows.specs.declared.rows.TaskRow.{TaskRow}
use Rattle.book_rows.specs.declared.rows.Want.{Want}
use Rattle.laws_shown.proofs.Ways.{by_fitted, by_publish, by_task, by_unless}
use Rattle.book_rows.specs.declared.commands.Command.TheVariants as Commands
use Rattle.book_rows.specs.declared.kinds.LockKind.TheVariants as LockKinds
use Rattle.book_rows.specs.declared.kinds.PubKind.TheVariants as PubKinds
use Rattle.book_rows.specs.declared.kinds.SeqState.TheVariants as States
use Rattle.book_rows.specs.declared.kinds.Table.TheVariants as Tables
use Rattle.book_rows.specs.declared.kinds.TaskStatus.TheVariants as Statuses
use Rattle.book_rows.specs.declared.replies.Reply.TheVariants as Replies

-- the property holds of the book and of each that a command may make of it
pub record HoldsAfterEach (P : Book → Type 0) (b : Book) : Type 0 where
  pub before : P b
  pub submitted_one : (row : TaskRow) → P (record b { tasks = b.tasks ++ row ∷ [] })
  pub managed_all : (now : ℤ) → P (managed b now).book
  pub locked_one : (t : TaskRow) (w : Want) (now : ℤ) (g : Granted) → grant b.posses (counters_at b now) t w ≡ Ok g → P (book_granted b t.task g)
  pub left_one : (lock : ℕ) (task : List ℕ) → P (left_lock lock task b)
  pub joined_one : (now : ℤ) (lock : ℕ) (task : List ℕ) → P (record b { clock = moment b now; posses = map (joined lock task) b.posses })
  pub allotted_one : (t : TaskRow) (w : Want) (now : ℤ) (g : Granted) (n : NewPending) → grant b.posses (counters_at b now) t w ≡ Ok g → P (allotted n (book_granted b t.task g))
  pub appended_ids : (t : TaskRow) (ids : List SegId) (ranges : Option Ranges) → P (after_append t (appending ids ranges) b)
  pub inserted_spans : (t : TaskRow) (xs : List Target) (given : Publish) → P (after_insert t given xs b)
  pub replaced_spans : (t : TaskRow) (xs : List Target) (given : Publish) → P (after_replace t given xs b)
  pub ended_one : (t : TaskRow) (status : TaskStatus) → P (after_end t status b)
  pub dropped_span : (source : List ℕ) (span : Extent) → P (after_drop source span b)
  pub reset_stream : (source stream : List ℕ) (offsets : List Offset) → P (after_reset source stream offsets b)
  pub supervised_one : (row : SupervisorRow) → P (record b { supervisors = b.supervisors ++ row ∷ [] })
  pub ticked_at : (k : Ticking) (now : ℤ) → P (after_tick k now b)
  pub reported_one : (name : List ℕ) (new : Report) → P (record b { sequences = map (reported name new b.clock) b.sequences })

module _ (P : Book → Type 0) (b : Book) (h : HoldsAfterEach P b) where
  -- the property of the book of an outcome
  abbrev Holds : Outcome → Type 0
  Holds o = P o.book

  refuses : (why : Refusal) → Holds (refused b why)
  refuses why = h.before

  repeats : (reply : Reply) → Holds (repeated b reply)
  repeats reply = h.before

  -- ---- tasks and locks

  submits : (t : Option TaskRow) (row : TaskRow) → P (submitted t b row).book
  submits (Some t) row = h.before
  submits None row = by_fitted Holds b refuses (Tables.Tasks ∷ []) (record b { tasks = b.tasks ++ row ∷ [] }) (Replies.Submit Statuses.Waiting row.task) (h.submitted_one row)

  locks : (o : Result GrantedLock Refusal) (t : TaskRow) (w : Want) (now : ℤ) → grant_lock b.posses (counters_at b now) t w ≡ o → P (refused_or o b (lock_outcome b t)).book
  locks (Err why) t w now e = h.before
  locks (Ok l) t w now e = by_fitted Holds b refuses (Tables.Locks ∷ Tables.Numbers ∷ []) (book_granted b t.task l.granted) (lock_reply l) (h.locked_one t w now l.granted (ap granted_of e))

  unlocks : (t : Option TaskRow) (task : List ℕ) (lock : ℕ) → P (unlocked t b task lock).book
  unlocks None task lock = h.before
  unlocks (Some t) task lock =
      elim (is_member_of (posse_of lock b.posses) task) as (λ c. P (cond c (changed (left_lock lock task b) (Replies.Unlock true)) (repeated b (Replies.Unlock false))).book)
      [ true ↦ h.left_one lock task | false ↦ h.before ]

  knows : (r : IdRequest) (t : TaskRow) (p : PendingRow) → P (known b r t p).book
  knows r t p = by_unless Holds b refuses (known_fault b.posses t r.lock_kind r.at p) (join_known b r.now t.task p)
      (elim (is_member_of (posse_of p.posse b.posses) t.task) as (λ c. P (cond c (repeated b (Replies.Allocate p.id p.posse [])) (changed (record b { clock = moment b r.now; posses = map (joined p.posse t.task) b.posses }) (Replies.Allocate p.id p.posse []))).book)
      [ true ↦ h.before | false ↦ h.joined_one r.now p.posse t.task ])

  grants_place : (o : Result GrantedLock Refusal) (r : IdRequest) (t : TaskRow) (x : Place) → grant_lock b.posses (counters_at b r.now) t (record { lock_kind = r.lock_kind; span = x.span }) ≡ o → P (refused_or o b (λ l. allotted_outcome b t l (pending_for t r x l))).book
  grants_place (Err why) r t x e = h.before
  grants_place (Ok l) r t x e =
      let n : NewPending = pending_for t r x l in
      by_fitted Holds b refuses (Tables.Locks ∷ Tables.Numbers ∷ Tables.Chunks ∷ Tables.Parts ∷ Tables.Pendings ∷ []) (allotted n (book_granted b t.task l.granted)) (Replies.Allocate (allotted_id b.chunks n) n.posse l.granted.revoked)
      (h.allotted_one t (record { lock_kind = r.lock_kind; span = x.span }) r.now l.granted n (ap granted_of e))

  finds_place : (o : Result Place Refusal) (r : IdRequest) (t : TaskRow) → P (refused_or o b (placed b r t)).book
  finds_place (Err why) r t = h.before
  finds_place (Ok x) r t = grants_place (grant_lock b.posses (counters_at b r.now) t (record { lock_kind = r.lock_kind; span = x.span })) r t x refl

  allocates : (p : Option PendingRow) (r : IdRequest) (t : TaskRow) → P (allocate_by p b r t).book
  allocates (Some p) r t = knows r t p
  allocates None r t = finds_place (place b.segments b.pendings t.source r.at r.granularity) r t

  -- ---- publishing

  appends : (t : Option TaskRow) (ids : List SegId) (ranges : Option Ranges) → P (appended t b (appending ids ranges)).book
  appends None ids ranges = h.before
  appends (Some t) ids ranges = by_publish Holds b refuses repeats (repeat_of (publication_of PubKinds.Append t [] (appending ids ranges)) b.publications) t.status Replies.Append (append_running b (appending ids ranges) t)
      (by_unless Holds b refuses (or_else (append_fault b.posses b.pendings t.task ids) (ranges_fault b t ranges)) (fitted (Tables.Segments ∷ Tables.Upgrades ∷ Tables.Publications ∷ Tables.Offsets ∷ []) b (after_append t (appending ids ranges) b) (Replies.Append (length b.publications)))
      (by_fitted Holds b refuses (Tables.Segments ∷ Tables.Upgrades ∷ Tables.Publications ∷ Tables.Offsets ∷ []) (after_append t (appending ids ranges) b) (Replies.Append (length b.publications)) (h.appended_ids t ids ranges)))

  checked : (f : Filling) (t : TaskRow) (given : Publish) (xs : List Target) → P (over_checked f b given t xs).book
  checked Inserting t given xs = by_unless Holds b refuses (ranges_fault b t given.ranges) (fitted (Tables.Chunks ∷ Tables.Parts ∷ Tables.Segments ∷ Tables.Publications ∷ Tables.Offsets ∷ []) b (after_insert t given xs b) (Replies.Insert (length b.publications)))
      (by_fitted Holds b refuses (Tables.Chunks ∷ Tables.Parts ∷ Tables.Segments ∷ Tables.Publications ∷ Tables.Offsets ∷ []) (after_insert t given xs b) (Replies.Insert (length b.publications)) (h.inserted_spans t xs given))
  checked Replacing t given xs = by_unless Holds b refuses (ranges_fault b t given.ranges) (fitted (Tables.Chunks ∷ Tables.Parts ∷ Tables.Segments ∷ Tables.Pendings ∷ Tables.Publications ∷ Tables.Offsets ∷ []) b (after_replace t given xs b) (Replies.Replace (length b.publications)))
      (by_fitted Holds b refuses (Tables.Chunks ∷ Tables.Parts ∷ Tables.Segments ∷ Tables.Pendings ∷ Tables.Publications ∷ Tables.Offsets ∷ []) (after_replace t given xs b) (Replies.Replace (length b.publications)) (h.replaced_spans t xs given))

  fills_by : (r : Result (List Target) Refusal) (f : Filling) (t : TaskRow) (given : Publish) → P (refused_or r b (over_checked f b given t)).book
  fills_by (Err why) f t given = h.before
  fills_by (Ok xs) f t given = checked f t given xs

  fills : (f : Filling) (o : Option TaskRow) (given : Publish) → P (over_step f o b given).book
  fills f None given = h.before
  fills f (Some t) given = by_publish Holds b refuses repeats (repeat_of (publication_of (kind_of f) t (without_since given.spans) given) b.publications) t.status (commit_reply (kind_of f)) (over_running f b given t)
      (fills_by (check_over f b given t) f t given)

  drops : (source : List ℕ) (span : Extent) → P (dropped b source span).book
  drops source span = by_unless Holds b refuses (drop_fault b.posses b.segments source span) (fitted (Tables.Publications ∷ []) b (after_drop source span b) (Replies.Drop (length b.publications)))
      (by_fitted Holds b refuses (Tables.Publications ∷ []) (after_drop source span b) (Replies.Drop (length b.publications)) (h.dropped_span source span))

  resets : (source stream : List ℕ) (offsets : List Offset) → P (reset_step b source stream offsets).book
  resets source stream offsets = by_fitted Holds b refuses (Tables.Publications ∷ Tables.Offsets ∷ []) (after_reset source stream offsets b) (Replies.Reset (length b.publications)) (h.reset_stream source stream offsets)

  -- ---- ends of tasks, and supervisors

  ends_as : (was status : TaskStatus) (t : TaskRow) → P (end_as was status b t).book
  ends_as Statuses.Success Statuses.Waiting t = h.before
  ends_as Statuses.Success Statuses.Running t = h.before
  ends_as Statuses.Success Statuses.Success t = h.before
  ends_as Statuses.Success Statuses.Failed t = h.before
  ends_as Statuses.Failed Statuses.Waiting t = h.before
  ends_as Statuses.Failed Statuses.Running t = h.before
  ends_as Statuses.Failed Statuses.Success t = h.before
  ends_as Statuses.Failed Statuses.Failed t = h.before
  ends_as Statuses.Waiting Statuses.Waiting t = h.ended_one t Statuses.Waiting
  ends_as Statuses.Waiting Statuses.Running t = h.ended_one t Statuses.Running
  ends_as Statuses.Waiting Statuses.Success t = h.before
  ends_as Statuses.Waiting Statuses.Failed t = h.ended_one t Statuses.Failed
  ends_as Statuses.Running Statuses.Waiting t = h.ended_one t Statuses.Waiting
  ends_as Statuses.Running Statuses.Running t = h.ended_one t Statuses.Running
  ends_as Statuses.Running Statuses.Success t = h.ended_one t Statuses.Success
  ends_as Statuses.Running Statuses.Failed t = h.ended_one t Statuses.Failed

  ends : (t : Option TaskRow) (status : TaskStatus) → P (end_of_task t b status).book
  ends None status = h.before
  ends (Some t) status = ends_as t.status status t

  supervises : (s : Option SupervisorRow) (row : SupervisorRow) → P (supervised s b row).book
  supervises (Some s) row = h.before
  supervises None row = by_fitted Holds b refuses (Tables.Supervisors ∷ []) (record b { supervisors = b.supervisors ++ row ∷ [] }) (Replies.Supervise row.source) (h.supervised_one row)

  ticks : (k : Ticking) (now : ℤ) → P (tick_outcome b k now).book
  ticks k now = by_fitted Holds b refuses (Tables.Tasks ∷ Tables.Sequences ∷ []) (after_tick k now b) (Replies.Tick k.told.abandoned k.told.opened k.told.paused) (h.ticked_at k now)

  keeps_report : (begin : Bool) (name : List ℕ) (new : Report) (u : SequenceRow) → P (report_kept begin b name new u).book
  keeps_report begin name new u = by_unless Holds b refuses (report_fault (first_bad u.starts new.offsets)) (changed (record b { sequences = map (reported name new b.clock) b.sequences }) (row_reply begin (reported name new b.clock u))) (h.reported_one name new)

  reports_as : (state : SeqState) (begin : Bool) (name : List ℕ) (new : Report) (u : SequenceRow) → P (report_as state begin b name new u).book
  reports_as States.Published begin name new u = h.before
  reports_as States.Abandoned begin name new u = h.before
  reports_as States.Closed begin name new u = h.before
  reports_as States.Reading false name new u = h.before
  reports_as States.Reading true name new u = keeps_report true name new u
  reports_as States.Paused begin name new u = keeps_report begin name new u

  reports : (u : Option SequenceRow) (begin : Bool) (name : List ℕ) (new : Report) → P (report_by u begin b name new).book
  reports None begin name new = h.before
  reports (Some u) begin name new = reports_as u.state begin name new u

  asks : (n : Result PosseRow Refusal) → P (refused_or n b (told_of b)).book
  asks (Err why) = h.before
  asks (Ok n) = h.before

  -- ---- any command

  pub after_each : (c : Command) → P (next b c)
  after_each (Commands.Submit task group source kind priority wants) = submits (task_of task b.tasks) (waiting_row task group source kind priority wants)
  after_each (Commands.Manage now) = h.managed_all now
  after_each (Commands.Lock task kind span now) = by_task Holds b refuses (task_of task b.tasks) (locked b (record { lock_kind = kind; span = span }) now)
      (λ t. locks (grant_lock b.posses (counters_at b now) t (record { lock_kind = kind; span = span })) t (record { lock_kind = kind; span = span }) now refl)
  after_each (Commands.Unlock task lock) = unlocks (task_of task b.tasks) task lock
  after_each (Commands.Allocate task kind sequence previous at granularity now) =
      let r : IdRequest = record { lock_kind = kind; sequence = sequence; previous = previous; at = at; granularity = granularity; now = now } in
      by_task Holds b refuses (task_of task b.tasks) (allocated b r) (λ t. allocates (known_pending b.pendings t.source sequence previous) r t)
  after_each (Commands.Append task ids ranges) = appends (task_of task b.tasks) ids ranges
  after_each (Commands.Insert task spans ids tombs ranges) = fills Inserting (task_of task b.tasks) (in_spans spans ids tombs ranges)
  after_each (Commands.Replace task spans ids tombs ranges) = fills Replacing (task_of task b.tasks) (in_spans spans ids tombs ranges)
  after_each (Commands.End task status) = ends (task_of task b.tasks) status
  after_each (Commands.Drop source span) = drops source span
  after_each (Commands.Reset source stream offsets) = resets source stream offsets
  after_each (Commands.Supervise source stream partitions task_count replicas duration timeout) =
      supervises (supervisor_of source b.supervisors) (record { source = source; stream = stream; partitions = partitions; task_count = task_count; replicas = replicas; duration = duration; timeout = timeout })
  after_each (Commands.Tick now) = ticks (ticked b.offsets (moment b now) b.supervisors b.sequences) (moment b now)
  after_each (Commands.Paused task offsets) = by_task Holds b refuses (task_of task b.tasks) (report_step false b offsets) (λ t. reports (sequence_named t.group b.sequences) false t.group (record { task = t.task; offsets = offsets }))
  after_each (Commands.Checkpoint task offsets) = by_task Holds b refuses (task_of task b.tasks) (report_step true b offsets) (λ t. reports (sequence_named t.group b.sequences) true t.group (record { task = t.task; offsets = offsets }))
  after_each (Commands.ToReplace task span) = by_task Holds b refuses (task_of task b.tasks) (asked b span) (λ t. asks (held_for b.posses t LockKinds.Replace span))
  after_each (Commands.Show what) = h.before
