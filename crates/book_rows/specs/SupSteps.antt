-- What `supervise`, `tick`, `paused` and `checkpoint` make of the book.
use Rattle.std.specs.Prelude.{◌++◌, ◌∷◌, Bool, List, None, Option, Some, [], cond, false, map, true, ℕ, ℤ}
use Rattle.book_rows.specs.Grant.{moment}
use Rattle.book_rows.specs.Locks.{ends}
use Rattle.book_rows.specs.Outcome.{Outcome, changed, fitted, refused, repeated, unless}
use Rattle.book_rows.specs.Reports.{first_bad, reported}
use Rattle.book_rows.specs.Sequences.{is_closed, sequence_named}
use Rattle.book_rows.specs.TaskSteps.{all_failed}
use Rattle.book_rows.specs.Ticks.{Ticking, ticked}
use Rattle.book_rows.specs.declared.kinds.SeqState.{SeqState}
use Rattle.book_rows.specs.declared.replies.Refusal.{Refusal}
use Rattle.book_rows.specs.declared.replies.Reply.{Reply}
use Rattle.book_rows.specs.declared.rows.Book.{Book}
use Rattle.book_rows.specs.declared.rows.Offset.{Offset}
use Rattle.book_rows.specs.declared.rows.Report.{Report}
use Rattle.book_rows.specs.declared.rows.SequenceRow.{SequenceRow}
use Rattle.book_rows.specs.declared.rows.SupervisorRow.{SupervisorRow}
use Rattle.book_rows.specs.declared.rows.TaskRow.{TaskRow}
use Rattle.book_rows.specs.declared.replies.Refusal.TheVariants as Refusals
use Rattle.book_rows.specs.declared.replies.Reply.TheVariants as Replies
use Rattle.book_rows.specs.declared.kinds.SeqState.TheVariants as States
use Rattle.book_rows.specs.declared.kinds.Table.TheVariants as Tables

-- ---- supervise

abbrev pub supervised : Option SupervisorRow → Book → SupervisorRow → Outcome
supervised (Some s) b row = refused b (Refusals.SupervisorExists row.source)
supervised None b row = fitted (Tables.Supervisors ∷ []) b (record b { supervisors = b.supervisors ++ row ∷ [] }) (Replies.Supervise row.source)

-- ---- tick

abbrev pub with_tasks : List TaskRow → Book → Book
with_tasks rows b = record b { tasks = b.tasks ++ rows }

-- the tasks of abandoned sequences fail, and those of opened ones are added
abbrev pub after_tick : Ticking → ℤ → Book → Book
after_tick k now b = with_tasks k.told.submitted (all_failed k.told.ended (record b { clock = now; sequences = k.rows }))

abbrev pub tick_outcome : Book → Ticking → ℤ → Outcome
tick_outcome b k now = fitted (Tables.Tasks ∷ Tables.Sequences ∷ []) b (after_tick k now b) (Replies.Tick k.told.abandoned k.told.opened k.told.paused)

abbrev pub tick_step : Book → ℤ → Outcome
tick_step b now = tick_outcome b (ticked b.offsets (moment b now) b.supervisors b.sequences) (moment b now)

-- ---- paused and checkpoint

-- the command `checkpoint` is true
abbrev pub report_reply : Bool → SeqState → List Offset → Reply
report_reply true state ends = Replies.Checkpoint ends state
report_reply false state ends = Replies.Paused ends state

-- the ends, where the sequence is closed
abbrev pub ends_shown : SequenceRow → List Offset
ends_shown u = cond (is_closed u) u.ends []

abbrev pub row_reply : Bool → SequenceRow → Reply
row_reply begin u = report_reply begin u.state (ends_shown u)

abbrev pub report_fault : Option ℕ → Option Refusal
report_fault None = None
report_fault (Some partition) = Some (Refusals.BadRange partition)

-- the report is kept, and the sequence may close at the book's clock
abbrev pub report_kept : Bool → Book → List ℕ → Report → SequenceRow → Outcome
report_kept begin b name new u =
    unless (report_fault (first_bad u.starts new.offsets)) b
    (changed (record b { sequences = map (reported name new b.clock) b.sequences }) (row_reply begin (reported name new b.clock u)))

abbrev pub report_as : SeqState → Bool → Book → List ℕ → Report → SequenceRow → Outcome
report_as States.Published begin b name new u = refused b (Refusals.SequenceState (Some States.Published))
report_as States.Abandoned begin b name new u = refused b (Refusals.SequenceState (Some States.Abandoned))
report_as States.Closed begin b name new u = repeated b (report_reply begin States.Closed u.ends)
report_as States.Reading false b name new u = refused b (Refusals.SequenceState (Some States.Reading))
report_as States.Reading true b name new u = report_kept true b name new u
report_as States.Paused begin b name new u = report_kept begin b name new u

abbrev pub report_by : Option SequenceRow → Bool → Book → List ℕ → Report → Outcome
report_by None begin b name new = refused b (Refusals.SequenceState None)
report_by (Some u) begin b name new = report_as u.state begin b name new u

abbrev pub report_step : Bool → Book → List Offset → TaskRow → Outcome
report_step begin b offsets t = report_by (sequence_named t.group b.sequences) begin b t.group (record { task = t.task; offsets = offsets })
