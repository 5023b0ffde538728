-- What comes of a report of a replica, and of a tick.
use Rattle.std.specs.Prelude.{◌≡◌, Bool, Err, List, Ok, Result, false, true, ℕ}
use Rattle.book_rows.specs.SupSteps.{report_reply}
use Rattle.book_rows.specs.declared.answers.Reported.{Reported}
use Rattle.book_rows.specs.declared.replies.Refusal.{Refusal}
use Rattle.book_rows.specs.declared.replies.Refusal.TheVariants as Refusals
use Rattle.sup_core.specs.declared.answers.SupFault.{SupFault}
use Rattle.sup_core.specs.declared.answers.SupFault.TheVariants as Faults
use Rattle.book_core.specs.Refused.{IsSupRefusal, refusal}
use Rattle.book_core.specs.declared.outcomes.Outcome.{Outcome}

-- what is told, and whether the book changes
abbrev pub reported_outcome : Bool → Reported → Outcome
reported_outcome begin r = record { reply = report_reply begin r.state r.ends; changes = r.changed }

-- that, or the refusal of the fault
abbrev pub IsTold : Bool → Result Reported SupFault → List ℕ → Outcome → Type 0
IsTold begin (Ok r) source o = o ≡ reported_outcome begin r
IsTold begin (Err fault) source o = (why : Refusal) × IsSupRefusal source fault why × (o ≡ refusal why)

-- ---- tick

-- only a table that is too full, and want of memory
abbrev pub may_refuse_tick : SupFault → Bool
may_refuse_tick (Faults.Full table) = true
may_refuse_tick Faults.OutOfMemory = true
may_refuse_tick _ = false

abbrev pub IsTickRefusal : SupFault → Refusal → Type 0
IsTickRefusal (Faults.Full table) why = why ≡ Refusals.TableFull table
IsTickRefusal _ why = ⊥
