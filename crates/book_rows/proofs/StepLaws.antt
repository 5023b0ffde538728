-- Where a command doesn't change the book, the book after is the book before.
use Rattle.std.proofs.Common.{◌≡◌, ℕ, ℤ, Bool, true, false, cond, List, [], ◌∷◌, length, refl}
use Rattle.std.specs.Prelude.{Option, Some, None, Result, Ok, Err}
use Rattle.book_rows.specs.Answer.{step, StaysWhereUnchanged}
use Rattle.book_rows.specs.Outcome.{Outcome, refused_or, changed, unless, no_room, fitted, fitted_by, running, running_as, task_of}
use Rattle.book_rows.specs.TaskSteps.{submitted, waiting_row, end_as, end_of_task}
use Rattle.book_rows.specs.LockSteps.{IdRequest, allocate_by, allocated, allotted_outcome, join_known, known, lock_outcome, lock_reply, locked, pending_for, placed, unlocked}
use Rattle.book_rows.specs.PublishSteps.{append_running, asked, commit_reply, filled, over_checked, over_running, publish_step, published_or, told_of}
use Rattle.book_rows.specs.SupSteps.{supervised, report_fault, report_kept, report_as, report_by, report_step}
use Rattle.book_rows.specs.Locks.{is_member_of, posse_of}
use Rattle.book_rows.specs.Grant.{book_granted, counters_at, grant_lock}
use Rattle.book_rows.specs.Allocation.{allotted, allotted_id, known_pending, known_fault, place}
use Rattle.book_rows.specs.Append.{append_fault}
use Rattle.book_rows.specs.Lists.{or_else}
use Rattle.book_rows.specs.Over.{Filling, Inserting, Replacing, Target, check_over, held_for}
use Rattle.book_rows.specs.Publications.{Publish, appending, in_spans, publication_of, ranges_fault, repeat_of, without_since}
use Rattle.book_rows.specs.Rewrite.{after_insert, after_replace, drop_fault}
use Rattle.book_rows.specs.Reports.{first_bad}
use Rattle.book_rows.specs.Sequences.{sequence_named, supervisor_of}
use Rattle.book_rows.specs.declared.answers.GrantedLock.{GrantedLock}
use Rattle.book_rows.specs.declared.rows.Book.{Book}
use Rattle.book_rows.specs.declared.rows.Offset.{Offset}
use Rattle.book_rows.specs.declared.rows.PendingRow.{PendingRow}
use Rattle.book_rows.specs.declared.rows.Report.{Report}
use Rattle.book_rows.specs.declared.rows.SequenceRow.{SequenceRow}
use Rattle.book_rows.specs.declared.rows.SupervisorRow.{SupervisorRow}
use Rattle.book_rows.specs.declared.rows.TaskRow.{TaskRow}
use Rattle.book_rows.specs.declared.rows.Want.{Want}
use Rattle.book_rows.specs.declared.answers.NewPending.{NewPending}
use Rattle.book_rows.specs.declared.answers.Place.{Place}
use Rattle.book_rows.specs.declared.commands.Command.{Command}
use Rattle.book_rows.specs.declared.commands.Command.TheVariants as Commands
use Rattle.book_rows.specs.declared.kinds.PubKind.{PubKind}
use Rattle.book_rows.specs.declared.kinds.PubKind.TheVariants as PubKinds
use Rattle.book_rows.specs.declared.kinds.LockKind.TheVariants as LockKinds
use Rattle.book_rows.specs.declared.kinds.SeqState.{SeqState}
use Rattle.book_rows.specs.declared.kinds.SeqState.TheVariants as States
use Rattle.book_rows.specs.declared.kinds.Table.{Table}
use Rattle.book_rows.specs.declared.kinds.Table.TheVariants as Tables
use Rattle.book_rows.specs.declared.kinds.TaskStatus.{TaskStatus}
use Rattle.book_rows.specs.declared.kinds.TaskStatus.TheVariants as Statuses
use Rattle.book_rows.specs.declared.replies.Refusal.{Refusal}
use Rattle.book_rows.specs.declared.replies.Reply.{Reply}
use Rattle.book_rows.specs.declared.replies.Reply.TheVariants as Replies

abbrev pub Stays : Book → Outcome → Type 0
Stays b o = o.changes ≡ false → o.book ≡ b

module _ (b : Book) where
  changed_stays : (after : Book) (r : Reply) → Stays b (changed after r)
  changed_stays after r e = cc

  unless_stays : (f : Option Refusal) (o : Outcome) → Stays b o → Stays b (unless f b o)
  unless_stays None o s = s
  unless_stays (Some why) o s = λ e. refl

  fitted_by_stays : (t : Option Table) (o : Outcome) → Stays b o → Stays b (fitted_by t b o)
  fitted_by_stays None o s = s
  fitted_by_stays (Some table) o s = λ e. refl

  fitted_stays : (tables : List Table) (after : Book) (r : Reply) → Stays b (fitted tables b after r)
  fitted_stays tables after r = fitted_by_stays (no_room tables after) (changed after r) (changed_stays after r)

  cond_stays : (x : Bool) (o p : Outcome) → Stays b o → Stays b p → Stays b (cond x o p)
  cond_stays true o p s t = s
  cond_stays false o p s t = t

  running_as_stays : (s : TaskStatus) (o : Outcome) → Stays b o → Stays b (running_as s b o)
  running_as_stays Statuses.Running o s = s
  running_as_stays Statuses.Waiting o s = λ e. refl
  running_as_stays Statuses.Success o s = λ e. refl
  running_as_stays Statuses.Failed o s = λ e. refl

  running_stays : (t : Option TaskRow) (f : TaskRow → Outcome) → ((row : TaskRow) → Stays b (f row)) → Stays b (running t b f)
  running_stays None f s = λ e. refl
  running_stays (Some t) f s = running_as_stays t.status (f t) (s t)

  -- ---- tasks

  submitted_stays : (t : Option TaskRow) (row : TaskRow) → Stays b (submitted t b row)
  submitted_stays (Some t) row = λ e. refl
  submitted_stays None row = search fitted_stays

  end_as_stays : (s status : TaskStatus) (t : TaskRow) → Stays b (end_as s status b t)
  end_as_stays Statuses.Success Statuses.Success t = λ e. refl
  end_as_stays Statuses.Success Statuses.Failed t = λ e. refl
  end_as_stays Statuses.Success Statuses.Waiting t = λ e. refl
  end_as_stays Statuses.Success Statuses.Running t = λ e. refl
  end_as_stays Statuses.Failed Statuses.Success t = λ e. refl
  end_as_stays Statuses.Failed Statuses.Failed t = λ e. refl
  end_as_stays Statuses.Failed Statuses.Waiting t = λ e. refl
  end_as_stays Statuses.Failed Statuses.Running t = λ e. refl
  end_as_stays Statuses.Waiting Statuses.Success t = λ e. refl
  end_as_stays Statuses.Waiting Statuses.Failed t = λ e. cc
  end_as_stays Statuses.Waiting Statuses.Waiting t = λ e. cc
  end_as_stays Statuses.Waiting Statuses.Running t = λ e. cc
  end_as_stays Statuses.Running Statuses.Success t = λ e. cc
  end_as_stays Statuses.Running Statuses.Failed t = λ e. cc
  end_as_stays Statuses.Running Statuses.Waiting t = λ e. cc
  end_as_stays Statuses.Running Statuses.Running t = λ e. cc

  end_stays : (t : Option TaskRow) (status : TaskStatus) → Stays b (end_of_task t b status)
  end_stays None status = λ e. refl
  end_stays (Some t) status = end_as_stays t.status status t

  -- ---- locks and allocation

  refused_or_stays : {X : Type 0} → (r : Result X Refusal) (f : X → Outcome) → ((x : X) → Stays b (f x)) → Stays b (refused_or r b f)
  refused_or_stays (Err why) f s = λ e. refl
  refused_or_stays (Ok x) f s = s x

  locked_stays : (w : Want) (now : ℤ) (t : TaskRow) → Stays b (locked b w now t)
  locked_stays w now t =
      refused_or_stays (grant_lock b.posses (counters_at b now) t w) (lock_outcome b t)
      (λ lock. fitted_stays (Tables.Locks ∷ Tables.Numbers ∷ []) (book_granted b t.task lock.granted) (lock_reply lock))

  unlocked_stays : (t : Option TaskRow) (task : List ℕ) (lock : ℕ) → Stays b (unlocked t b task lock)
  unlocked_stays None task lock = λ e. refl
  unlocked_stays (Some t) task lock = cond_stays (is_member_of (posse_of lock b.posses) task) _ _ (λ e. cc) (λ e. refl)

  known_stays : (r : IdRequest) (t : TaskRow) (p : PendingRow) → Stays b (known b r t p)
  known_stays r t p =
      unless_stays (known_fault b.posses t r.lock_kind r.at p) (join_known b r.now t.task p) (cond_stays (is_member_of (posse_of p.posse b.posses) t.task) _ _ (λ e. refl) (λ e. cc))

  allotted_stays : (t : TaskRow) (lock : GrantedLock) (n : NewPending) → Stays b (allotted_outcome b t lock n)
  allotted_stays t lock n =
      fitted_stays (Tables.Locks ∷ Tables.Numbers ∷ Tables.Chunks ∷ Tables.Parts ∷ Tables.Pendings ∷ []) (allotted n (book_granted b t.task lock.granted))
      (Replies.Allocate (allotted_id b.chunks n) n.posse lock.granted.revoked)

  placed_stays : (r : IdRequest) (t : TaskRow) (place : Place) → Stays b (placed b r t place)
  placed_stays r t place =
      refused_or_stays (grant_lock b.posses (counters_at b r.now) t (record { lock_kind = r.lock_kind; span = place.span })) (λ lock. allotted_outcome b t lock (pending_for t r place lock))
      (λ lock. allotted_stays t lock (pending_for t r place lock))

  allocate_by_stays : (p : Option PendingRow) (r : IdRequest) (t : TaskRow) → Stays b (allocate_by p b r t)
  allocate_by_stays (Some p) r t = known_stays r t p
  allocate_by_stays None r t = refused_or_stays (place b.segments b.pendings t.source r.at r.granularity) (placed b r t) (placed_stays r t)

  -- ---- publications

  published_or_stays : (k : Option ℕ) (status : TaskStatus) (reply : ℕ → Reply) (o : Outcome) → Stays b o → Stays b (published_or k b status reply o)
  published_or_stays (Some k) status reply o s = λ e. refl
  published_or_stays None status reply o s = running_as_stays status o s

  publish_stays : (kind : PubKind) (o : Option TaskRow) (p : Publish) (decided : TaskRow → Outcome) → ((t : TaskRow) → Stays b (decided t)) → Stays b (publish_step kind o b p decided)
  publish_stays kind None p decided s = λ e. refl
  publish_stays kind (Some t) p decided s =
      published_or_stays (repeat_of (publication_of kind t (without_since p.spans) p) b.publications) t.status (commit_reply kind) (decided t) (s t)

  append_stays : (p : Publish) (t : TaskRow) → Stays b (append_running b p t)
  append_stays p t = unless_stays (or_else (append_fault b.posses b.pendings t.task p.ids) (ranges_fault b t p.ranges)) _ (search fitted_stays)

  filled_stays : (f : Filling) (p : Publish) (t : TaskRow) (xs : List Target) → Stays b (filled f b p t xs)
  filled_stays Inserting p t xs =
      fitted_stays (Tables.Chunks ∷ Tables.Parts ∷ Tables.Segments ∷ Tables.Publications ∷ Tables.Offsets ∷ []) (after_insert t p xs b) (Replies.Insert (length b.publications))
  filled_stays Replacing p t xs =
      fitted_stays (Tables.Chunks ∷ Tables.Parts ∷ Tables.Segments ∷ Tables.Pendings ∷ Tables.Publications ∷ Tables.Offsets ∷ []) (after_replace t p xs b)
      (Replies.Replace (length b.publications))

  over_stays : (f : Filling) (p : Publish) (t : TaskRow) → Stays b (over_running f b p t)
  over_stays f p t =
      refused_or_stays (check_over f b p t) (over_checked f b p t) (λ xs. unless_stays (ranges_fault b t p.ranges) (filled f b p t xs) (filled_stays f p t xs))

  -- ---- supervisors

  supervised_stays : (s : Option SupervisorRow) (row : SupervisorRow) → Stays b (supervised s b row)
  supervised_stays (Some s) row = λ e. refl
  supervised_stays None row = search fitted_stays

  report_kept_stays : (begin : Bool) (name : List ℕ) (new : Report) (u : SequenceRow) → Stays b (report_kept begin b name new u)
  report_kept_stays begin name new u = unless_stays (report_fault (first_bad u.starts new.offsets)) _ (λ e. cc)

  report_as_stays : (s : SeqState) (begin : Bool) (name : List ℕ) (new : Report) (u : SequenceRow) → Stays b (report_as s begin b name new u)
  report_as_stays States.Published begin name new u = λ e. refl
  report_as_stays States.Abandoned begin name new u = λ e. refl
  report_as_stays States.Closed begin name new u = λ e. refl
  report_as_stays States.Reading false name new u = λ e. refl
  report_as_stays States.Reading true name new u = report_kept_stays true name new u
  report_as_stays States.Paused begin name new u = report_kept_stays begin name new u

  report_by_stays : (u : Option SequenceRow) (begin : Bool) (name : List ℕ) (new : Report) → Stays b (report_by u begin b name new)
  report_by_stays None begin name new = λ e. refl
  report_by_stays (Some u) begin name new = report_as_stays u.state begin name new u

  report_stays : (begin : Bool) (offsets : List Offset) (t : TaskRow) → Stays b (report_step begin b offsets t)
  report_stays begin offsets t = report_by_stays (sequence_named t.group b.sequences) begin t.group (record { task = t.task; offsets = offsets })

  -- ---- any command

  step_stays : (c : Command) → Stays b (step b c)
  step_stays (Commands.Submit task group source kind priority locks) = submitted_stays (task_of task b.tasks) (waiting_row task group source kind priority locks)
  step_stays (Commands.Manage now) = λ e. cc
  step_stays (Commands.Lock task lock_kind span now) =
      running_stays (task_of task b.tasks) (locked b (record { lock_kind = lock_kind; span = span }) now) (locked_stays (record { lock_kind = lock_kind; span = span }) now)
  step_stays (Commands.Unlock task lock) = unlocked_stays (task_of task b.tasks) task lock
  step_stays (Commands.Allocate task lock_kind sequence previous at granularity now) =
      let r : IdRequest = record { lock_kind = lock_kind; sequence = sequence; previous = previous; at = at; granularity = granularity; now = now } in
      running_stays (task_of task b.tasks) (allocated b r) (λ t. allocate_by_stays (known_pending b.pendings t.source sequence previous) r t)
  step_stays (Commands.Append task ids ranges) =
      publish_stays PubKinds.Append (task_of task b.tasks) (appending ids ranges) (append_running b (appending ids ranges)) (append_stays (appending ids ranges))
  step_stays (Commands.Insert task spans ids tombstones ranges) =
      let p : Publish = in_spans spans ids tombstones ranges in
      publish_stays PubKinds.Over (task_of task b.tasks) p (over_running Inserting b p) (over_stays Inserting p)
  step_stays (Commands.Replace task spans ids tombstones ranges) =
      let p : Publish = in_spans spans ids tombstones ranges in
      publish_stays PubKinds.Replace (task_of task b.tasks) p (over_running Replacing b p) (over_stays Replacing p)
  step_stays (Commands.End task status) = end_stays (task_of task b.tasks) status
  step_stays (Commands.Drop source span) = unless_stays (drop_fault b.posses b.segments source span) _ (search fitted_stays)
  step_stays (Commands.Reset source stream offsets) = search fitted_stays
  step_stays (Commands.Supervise source stream partitions task_count replicas task_duration completion_timeout) = supervised_stays (supervisor_of source b.supervisors) _
  step_stays (Commands.Tick now) = search fitted_stays
  step_stays (Commands.Paused task offsets) = running_stays (task_of task b.tasks) (report_step false b offsets) (report_stays false offsets)
  step_stays (Commands.Checkpoint task offsets) = running_stays (task_of task b.tasks) (report_step true b offsets) (report_stays true offsets)
  step_stays (Commands.ToReplace task span) =
      running_stays (task_of task b.tasks) (asked b span) (λ t. refused_or_stays (held_for b.posses t LockKinds.Replace span) (told_of b) (λ q e. refl))
  step_stays (Commands.Show what) = λ e. refl

-- where a command changes nothing, the book after is the book before
pub stays_where_unchanged : StaysWhereUnchanged
stays_where_unchanged b c e = step_stays b c e
