-- Replies that name no instant: of tasks, supervisors, ticks and reports.
use Rattle.std.proofs.Common.{◌≡◌, ◌∷◌, Bool, List, None, Option, Some, [], false, refl, true, ℕ, ℤ}
use Rattle.book_rows.specs.Fits.{reply_fits}
use Rattle.book_rows.specs.Grant.{moment}
use Rattle.book_rows.specs.Locks.{is_member_of, left_lock, posse_of}
use Rattle.book_rows.specs.LockSteps.{unlocked}
use Rattle.book_rows.specs.Outcome.{changed, repeated}
use Rattle.book_rows.specs.Reports.{first_bad, reported}
use Rattle.book_rows.specs.Sequences.{sequence_named}
use Rattle.book_rows.specs.SupSteps.{after_tick, ends_shown, report_as, report_by, report_fault, report_kept, report_reply, report_step, supervised, tick_outcome, tick_step}
use Rattle.book_rows.specs.TaskSteps.{end_as, end_of_task, submitted}
use Rattle.book_rows.specs.Ticks.{Ticking, ticked}
use Rattle.book_rows.specs.declared.kinds.SeqState.{SeqState}
use Rattle.book_rows.specs.declared.kinds.SeqState.TheVariants as States
use Rattle.book_rows.specs.declared.kinds.Table.TheVariants as Tables
use Rattle.book_rows.specs.declared.kinds.TaskStatus.{TaskStatus}
use Rattle.book_rows.specs.declared.kinds.TaskStatus.TheVariants as Statuses
use Rattle.book_rows.specs.declared.replies.Reply.TheVariants as Replies
use Rattle.book_rows.specs.declared.rows.Book.{Book}
use Rattle.book_rows.specs.declared.rows.Offset.{Offset}
use Rattle.book_rows.specs.declared.rows.Report.{Report}
use Rattle.book_rows.specs.declared.rows.SequenceRow.{SequenceRow}
use Rattle.book_rows.specs.declared.rows.SupervisorRow.{SupervisorRow}
use Rattle.book_rows.specs.declared.rows.TaskRow.{TaskRow}
use Rattle.std.proofs.Common.{◌++◌, cond}
use Rattle.laws_texts.proofs.Outcomes.{fault_fits, fitted_fits, unless_fits}

-- ---- submit

pub submitted_fits : (o : Option TaskRow) (b : Book) (row : TaskRow) → reply_fits (submitted o b row).reply ≡ true
submitted_fits (Some t) b row = refl
submitted_fits None b row = fitted_fits (Tables.Tasks ∷ []) b (record b { tasks = b.tasks ++ row ∷ [] }) (Replies.Submit Statuses.Waiting row.task) refl

-- ---- end

end_as_fits : (was new : TaskStatus) (b : Book) (t : TaskRow) → reply_fits (end_as was new b t).reply ≡ true
end_as_fits Statuses.Waiting Statuses.Waiting b t = refl
end_as_fits Statuses.Waiting Statuses.Running b t = refl
end_as_fits Statuses.Waiting Statuses.Success b t = refl
end_as_fits Statuses.Waiting Statuses.Failed b t = refl
end_as_fits Statuses.Running Statuses.Waiting b t = refl
end_as_fits Statuses.Running Statuses.Running b t = refl
end_as_fits Statuses.Running Statuses.Success b t = refl
end_as_fits Statuses.Running Statuses.Failed b t = refl
end_as_fits Statuses.Success Statuses.Waiting b t = refl
end_as_fits Statuses.Success Statuses.Running b t = refl
end_as_fits Statuses.Success Statuses.Success b t = refl
end_as_fits Statuses.Success Statuses.Failed b t = refl
end_as_fits Statuses.Failed Statuses.Waiting b t = refl
end_as_fits Statuses.Failed Statuses.Running b t = refl
end_as_fits Statuses.Failed Statuses.Success b t = refl
end_as_fits Statuses.Failed Statuses.Failed b t = refl

pub ended_fits : (o : Option TaskRow) (b : Book) (new : TaskStatus) → reply_fits (end_of_task o b new).reply ≡ true
ended_fits None b new = refl
ended_fits (Some t) b new = end_as_fits t.status new b t

-- ---- unlock

left_fits : (member : Bool) (b : Book) (task : List ℕ) (lock : ℕ) → reply_fits (cond member (changed (left_lock lock task b) (Replies.Unlock true)) (repeated b (Replies.Unlock false))).reply ≡ true
left_fits true b task lock = refl
left_fits false b task lock = refl

pub unlocked_fits : (o : Option TaskRow) (b : Book) (task : List ℕ) (lock : ℕ) → reply_fits (unlocked o b task lock).reply ≡ true
unlocked_fits None b task lock = refl
unlocked_fits (Some t) b task lock = left_fits (is_member_of (posse_of lock b.posses) task) b task lock

-- ---- supervise and tick

pub supervised_fits : (o : Option SupervisorRow) (b : Book) (row : SupervisorRow) → reply_fits (supervised o b row).reply ≡ true
supervised_fits (Some s) b row = refl
supervised_fits None b row = fitted_fits (Tables.Supervisors ∷ []) b (record b { supervisors = b.supervisors ++ row ∷ [] }) (Replies.Supervise row.source) refl

ticking_fits : (b : Book) (k : Ticking) (now : ℤ) → reply_fits (tick_outcome b k now).reply ≡ true
ticking_fits b k now = fitted_fits (Tables.Tasks ∷ Tables.Sequences ∷ []) b (after_tick k now b) (Replies.Tick k.told.abandoned k.told.opened k.told.paused) refl

pub tick_fits : (b : Book) (now : ℤ) → reply_fits (tick_step b now).reply ≡ true
tick_fits b now = ticking_fits b (ticked b.offsets (moment b now) b.supervisors b.sequences) (moment b now)

-- ---- paused and checkpoint

reported_fits : (begin : Bool) (state : SeqState) (ends : List Offset) → reply_fits (report_reply begin state ends) ≡ true
reported_fits true state ends = refl
reported_fits false state ends = refl

bad_fits : (o : Option ℕ) → fault_fits (report_fault o) ≡ true
bad_fits None = refl
bad_fits (Some partition) = refl

kept_fits : (begin : Bool) (b : Book) (name : List ℕ) (new : Report) (u : SequenceRow) → reply_fits (report_kept begin b name new u).reply ≡ true
kept_fits begin b name new u =
    let row : SequenceRow = reported name new b.clock u in
    unless_fits (report_fault (first_bad u.starts new.offsets)) b _ (bad_fits (first_bad u.starts new.offsets)) (reported_fits begin row.state (ends_shown row))

report_as_fits : (state : SeqState) (begin : Bool) (b : Book) (name : List ℕ) (new : Report) (u : SequenceRow) → reply_fits (report_as state begin b name new u).reply ≡ true
report_as_fits States.Published begin b name new u = refl
report_as_fits States.Abandoned begin b name new u = refl
report_as_fits States.Closed begin b name new u = reported_fits begin States.Closed u.ends
report_as_fits States.Reading false b name new u = refl
report_as_fits States.Reading true b name new u = kept_fits true b name new u
report_as_fits States.Paused begin b name new u = kept_fits begin b name new u

report_by_fits : (o : Option SequenceRow) (begin : Bool) (b : Book) (name : List ℕ) (new : Report) → reply_fits (report_by o begin b name new).reply ≡ true
report_by_fits None begin b name new = refl
report_by_fits (Some u) begin b name new = report_as_fits u.state begin b name new u

pub report_fits : (begin : Bool) (b : Book) (offsets : List Offset) (t : TaskRow) → reply_fits (report_step begin b offsets t).reply ≡ true
report_fits begin b offsets t = report_by_fits (sequence_named t.group b.sequences) begin b t.group (record { task = t.task; offsets = offsets })
