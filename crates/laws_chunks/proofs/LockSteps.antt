-- What the commands on tasks, locks and supervisors keep of a book, whatever it is, where the changes that they are made of keep it.
use Rattle.std.proofs.Common.{Bool, Err, List, None, Ok, Option, Result, Some, [], ap, cond, false, filter, map, refl, true, ℕ, ℤ, ◌++◌, ◌∷◌, ◌≡◌}
use Rattle.book_rows.specs.Grant.{book_granted, counters_at, grant, grant_all, grant_lock, granted_of, moment}
use Rattle.book_rows.specs.LockSteps.{lock_outcome, lock_reply, unlocked}
use Rattle.book_rows.specs.Locks.{is_member_of, joined, left_all_locks, left_lock, posse_of}
use Rattle.book_rows.specs.Outcome.{Outcome, changed, no_room, refused_or, repeated, unless}
use Rattle.book_rows.specs.Reports.{ended, first_bad, reported}
use Rattle.book_rows.specs.Sequences.{sequence_named}
use Rattle.book_rows.specs.SupSteps.{after_tick, report_as, report_by, report_fault, report_kept, report_step, row_reply, supervised, tick_outcome}
use Rattle.book_rows.specs.TaskSteps.{Managed, after_end, all_failed, end_as, end_of_task, failed, is_waiting, managed, managed_all, managed_by, managed_one, started_by, status_set, submitted, with_status}
use Rattle.book_rows.specs.Ticks.{Ticking}
use Rattle.book_rows.specs.declared.answers.Granted.{Granted}
use Rattle.book_rows.specs.declared.answers.GrantedLock.{GrantedLock}
use Rattle.book_rows.specs.declared.kinds.SeqState.{SeqState}
use Rattle.book_rows.specs.declared.kinds.SeqState.TheVariants as States
use Rattle.book_rows.specs.declared.kinds.Table.{Table}
use Rattle.book_rows.specs.declared.kinds.Table.TheVariants as Tables
use Rattle.book_rows.specs.declared.kinds.TaskStatus.{TaskStatus}
use Rattle.book_rows.specs.declared.kinds.TaskStatus.TheVariants as Statuses
use Rattle.book_rows.specs.declared.replies.Refusal.{Refusal}
use Rattle.book_rows.specs.declared.replies.Reply.TheVariants as Replies
use Rattle.book_rows.specs.declared.rows.Book.{Book}
use Rattle.book_rows.specs.declared.rows.Offset.{Offset}
use Rattle.book_rows.specs.declared.rows.OffsetRow.{OffsetRow}
use Rattle.book_rows.specs.declared.rows.Report.{Report}
use Rattle.book_rows.specs.declared.rows.SequenceRow.{SequenceRow}
use Rattle.book_rows.specs.declared.rows.SupervisorRow.{SupervisorRow}
use Rattle.book_rows.specs.declared.rows.TaskRow.{TaskRow}
use Rattle.book_rows.specs.declared.rows.Want.{Want}
use Rattle.laws_locks.proofs.Rooms.{fitted_keeps}
use Rattle.laws_chunks.specs.OtherTables.{with_others}

-- it reads no task, offset, supervisor and sequence, and stays where locks are left, joined and granted
pub record IsKeptByLocks (P : Book → Type 0) : Type 0 where
  pub others : (clock : ℤ) (ts : List TaskRow) (os : List OffsetRow) (ss : List SupervisorRow) (us : List SequenceRow) (b : Book) → P b → P (with_others clock ts os ss us b)
  pub left : (lock : ℕ) (task : List ℕ) (b : Book) → P b → P (left_lock lock task b)
  pub left_all : (task : List ℕ) (b : Book) → P b → P (left_all_locks task b)
  pub joined : (lock : ℕ) (task : List ℕ) (b : Book) → P b → P (record b { posses = map (joined lock task) b.posses })
  pub granted : (b : Book) (now : ℤ) (t : TaskRow) (w : Want) (g : Granted) → grant b.posses (counters_at b now) t w ≡ Ok g → P b → P (book_granted b t.task g)
  pub all_granted : (b : Book) (now : ℤ) (t : TaskRow) (ws : List Want) (g : Granted) → grant_all b.posses (counters_at b now) t ws ≡ Ok g → P b → P (book_granted b t.task g)

-- a refusal leaves the book
pub unless_keeps : (P : Book → Type 0) (o : Option Refusal) (b : Book) (out : Outcome) → P b → (o ≡ None → P out.book) → P (unless o b out).book
unless_keeps P (Some why) b out h f = h
unless_keeps P None b out h f = f refl

pub either_keeps : (P : Book → Type 0) (yes : Bool) (out other : Outcome) → P out.book → P other.book → P (cond yes out other).book
either_keeps P true out other h k = h
either_keeps P false out other h k = k

module _ (P : Book → Type 0) (kept : IsKeptByLocks P) where
  -- ---- other tables

  tasks_keep : (ts : List TaskRow) (b : Book) → P b → P (record b { tasks = ts })
  tasks_keep ts b h = kept.others b.clock ts b.offsets b.supervisors b.sequences b h

  sequences_keep : (us : List SequenceRow) (b : Book) → P b → P (record b { sequences = us })
  sequences_keep us b h = kept.others b.clock b.tasks b.offsets b.supervisors us b h

  pub submitted_keeps : (o : Option TaskRow) (b : Book) (row : TaskRow) → P b → P (submitted o b row).book
  submitted_keeps (Some t) b row h = h
  submitted_keeps None b row h = fitted_keeps P (Tables.Tasks ∷ []) b (record b { tasks = b.tasks ++ row ∷ [] }) (Replies.Submit Statuses.Waiting row.task) h (λ room. tasks_keep (b.tasks ++ row ∷ []) b h)

  pub supervised_keeps : (o : Option SupervisorRow) (b : Book) (row : SupervisorRow) → P b → P (supervised o b row).book
  supervised_keeps (Some s) b row h = h
  supervised_keeps None b row h =
      fitted_keeps P (Tables.Supervisors ∷ []) b (record b { supervisors = b.supervisors ++ row ∷ [] }) (Replies.Supervise row.source) h
      (λ room. kept.others b.clock b.tasks b.offsets (b.supervisors ++ row ∷ []) b.sequences b h)

  -- ---- waiting tasks are started

  started_keeps : (o : Option Table) (t : TaskRow) (after : Book) (m : Managed) → P m.book → P after → P (started_by o t after m).book
  started_keeps (Some table) t after m h k = h
  started_keeps None t after m h k = k

  managed_keeps : (r : Result Granted Refusal) (now : ℤ) (t : TaskRow) (m : Managed) → grant_all m.book.posses (counters_at m.book now) t t.wants ≡ r → P m.book → P (managed_by r t m).book
  managed_keeps (Err why) now t m e h = h
  managed_keeps (Ok g) now t m e h =
      let after : Book = with_status t.task Statuses.Running (book_granted m.book t.task g) in
      started_keeps (no_room (Tables.Locks ∷ Tables.Numbers ∷ []) after) t after m h
      (tasks_keep (map (status_set t.task Statuses.Running) m.book.tasks) (book_granted m.book t.task g) (kept.all_granted m.book now t t.wants g e h))

  each_managed : (now : ℤ) (ts : List TaskRow) (m : Managed) → P m.book → P (managed_all now ts m).book
  each_managed now [] m h = h
  each_managed now (t ∷ ts) m h = each_managed now ts (managed_one now t m) (managed_keeps (grant_all m.book.posses (counters_at m.book now) t t.wants) now t m refl h)

  pub all_managed : (b : Book) (now : ℤ) → P b → P (managed b now).book
  all_managed b now h =
      each_managed now (filter is_waiting b.tasks) (record { book = record b { clock = moment b now }; running = []; waiting = [] })
      (kept.others (moment b now) b.tasks b.offsets b.supervisors b.sequences b h)

  -- ---- tasks end

  failed_keeps : (task : List ℕ) (b : Book) → P b → P (failed task b)
  failed_keeps task b h = tasks_keep (map (status_set task Statuses.Failed) (left_all_locks task b).tasks) (left_all_locks task b) (kept.left_all task b h)

  pub all_failed_keeps : (tasks : List (List ℕ)) (b : Book) → P b → P (all_failed tasks b)
  all_failed_keeps [] b h = h
  all_failed_keeps (task ∷ rest) b h = all_failed_keeps rest (failed task b) (failed_keeps task b h)

  pub sequences_fail : (us : List SequenceRow) (tasks : List (List ℕ)) (b : Book) → P b → P (all_failed tasks (record b { sequences = us }))
  sequences_fail us tasks b h = all_failed_keeps tasks (record b { sequences = us }) (sequences_keep us b h)

  after_end_keeps : (b : Book) (t : TaskRow) (status : TaskStatus) → P b → P (after_end t status b)
  after_end_keeps b t status h =
      let e = ended t.group t.task b.clock b.sequences in
      sequences_fail e.sequences e.tasks (with_status t.task status (left_all_locks t.task b))
      (tasks_keep (map (status_set t.task status) (left_all_locks t.task b).tasks) (left_all_locks t.task b) (kept.left_all t.task b h))

  end_as_keeps : (was status : TaskStatus) (b : Book) (t : TaskRow) → P b → P (end_as was status b t).book
  end_as_keeps Statuses.Success Statuses.Success b t h = h
  end_as_keeps Statuses.Success Statuses.Failed b t h = h
  end_as_keeps Statuses.Success Statuses.Waiting b t h = h
  end_as_keeps Statuses.Success Statuses.Running b t h = h
  end_as_keeps Statuses.Failed Statuses.Success b t h = h
  end_as_keeps Statuses.Failed Statuses.Failed b t h = h
  end_as_keeps Statuses.Failed Statuses.Waiting b t h = h
  end_as_keeps Statuses.Failed Statuses.Running b t h = h
  end_as_keeps Statuses.Waiting Statuses.Success b t h = h
  end_as_keeps Statuses.Waiting Statuses.Failed b t h = after_end_keeps b t Statuses.Failed h
  end_as_keeps Statuses.Waiting Statuses.Waiting b t h = after_end_keeps b t Statuses.Waiting h
  end_as_keeps Statuses.Waiting Statuses.Running b t h = after_end_keeps b t Statuses.Running h
  end_as_keeps Statuses.Running Statuses.Success b t h = after_end_keeps b t Statuses.Success h
  end_as_keeps Statuses.Running Statuses.Failed b t h = after_end_keeps b t Statuses.Failed h
  end_as_keeps Statuses.Running Statuses.Waiting b t h = after_end_keeps b t Statuses.Waiting h
  end_as_keeps Statuses.Running Statuses.Running b t h = after_end_keeps b t Statuses.Running h

  pub end_of_task_keeps : (o : Option TaskRow) (b : Book) (status : TaskStatus) → P b → P (end_of_task o b status).book
  end_of_task_keeps None b status h = h
  end_of_task_keeps (Some t) b status h = end_as_keeps t.status status b t h

  -- ---- lock and unlock

  pub locked_keeps : (o : Result GrantedLock Refusal) (b : Book) (now : ℤ) (t : TaskRow) (w : Want) → grant_lock b.posses (counters_at b now) t w ≡ o → P b → P (refused_or o b (lock_outcome b t)).book
  locked_keeps (Err why) b now t w e h = h
  locked_keeps (Ok l) b now t w e h =
      fitted_keeps P (Tables.Locks ∷ Tables.Numbers ∷ []) b (book_granted b t.task l.granted) (lock_reply l) h (λ room. kept.granted b now t w l.granted (ap granted_of e) h)

  pub unlocked_keeps : (o : Option TaskRow) (b : Book) (task : List ℕ) (lock : ℕ) → P b → P (unlocked o b task lock).book
  unlocked_keeps None b task lock h = h
  unlocked_keeps (Some t) b task lock h =
      either_keeps P (is_member_of (posse_of lock b.posses) task) (changed (left_lock lock task b) (Replies.Unlock true)) (repeated b (Replies.Unlock false)) (kept.left lock task b h) h

  -- ---- ticks and reports

  pub tick_keeps : (b : Book) (k : Ticking) (now : ℤ) → P b → P (tick_outcome b k now).book
  tick_keeps b k now h =
      let ended : Book = all_failed k.told.ended (record b { clock = now; sequences = k.rows }) in
      fitted_keeps P (Tables.Tasks ∷ Tables.Sequences ∷ []) b (after_tick k now b) (Replies.Tick k.told.abandoned k.told.opened k.told.paused) h
      (λ room. tasks_keep (ended.tasks ++ k.told.submitted) ended (all_failed_keeps k.told.ended (record b { clock = now; sequences = k.rows }) (kept.others now b.tasks b.offsets b.supervisors k.rows b h)))

  report_kept_keeps : (begin : Bool) (b : Book) (name : List ℕ) (new : Report) (u : SequenceRow) → P b → P (report_kept begin b name new u).book
  report_kept_keeps begin b name new u h =
      unless_keeps P (report_fault (first_bad u.starts new.offsets)) b (changed (record b { sequences = map (reported name new b.clock) b.sequences }) (row_reply begin (reported name new b.clock u))) h
      (λ none. sequences_keep (map (reported name new b.clock) b.sequences) b h)

  report_as_keeps : (s : SeqState) (begin : Bool) (b : Book) (name : List ℕ) (new : Report) (u : SequenceRow) → P b → P (report_as s begin b name new u).book
  report_as_keeps States.Published begin b name new u h = h
  report_as_keeps States.Abandoned begin b name new u h = h
  report_as_keeps States.Closed begin b name new u h = h
  report_as_keeps States.Reading false b name new u h = h
  report_as_keeps States.Reading true b name new u h = report_kept_keeps true b name new u h
  report_as_keeps States.Paused begin b name new u h = report_kept_keeps begin b name new u h

  report_by_keeps : (o : Option SequenceRow) (begin : Bool) (b : Book) (name : List ℕ) (new : Report) → P b → P (report_by o begin b name new).book
  report_by_keeps None begin b name new h = h
  report_by_keeps (Some u) begin b name new h = report_as_keeps u.state begin b name new u h

  pub report_keeps : (begin : Bool) (b : Book) (offsets : List Offset) (t : TaskRow) → P b → P (report_step begin b offsets t).book
  report_keeps begin b offsets t h = report_by_keeps (sequence_named t.group b.sequences) begin b t.group (record { task = t.task; offsets = offsets }) h
