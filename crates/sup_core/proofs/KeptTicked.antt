-- What the table keeps under a tick that isn't refused.
use Rattle.std.proofs.Common.{◌≡◌, Bool, List, None, Some, cond, false, length, nat_lt, refl, true, ℕ, ℤ}
use Rattle.book_rows.specs.Outcome.{row_limit}
use Rattle.book_rows.specs.Ticks.{ticked}
use Rattle.book_rows.specs.declared.rows.OffsetRow.{OffsetRow}
use Rattle.book_rows.specs.declared.rows.SequenceRow.{SequenceRow}
use Rattle.book_rows.specs.declared.rows.SupervisorRow.{SupervisorRow}
use Rattle.sup_core.specs.Kept.{AreKept}
use Rattle.sup_core.specs.Ticking.{tick_fault}
use Rattle.sup_core.specs.declared.answers.SupFault.{SupFault}
use Rattle.sup_core.proofs.Walked.{ticked_told}

fits_table : (a b : Bool) (x y : SupFault) → cond a (Some x) (cond b (Some y) None) ≡ None → b ≡ false
fits_table true b x y e = cc
fits_table false true x y e = cc
fits_table false false x y e = refl

pub kept_ticked : (offsets : List OffsetRow) (now : ℤ) (tasks_left : ℕ) (ss : List SupervisorRow) (us : List SequenceRow) → AreKept ss us → tick_fault tasks_left (ticked offsets now ss us) ≡ None → AreKept ss (ticked offsets now ss us).rows
kept_ticked offsets now tasks_left ss us kept passes =
    let told = ticked_told offsets now ss us kept in
    let k = ticked offsets now ss us in
    record { groups = kept.groups; sources = kept.sources; counted = told.counted; keys = told.keys; room = fits_table (nat_lt tasks_left (length k.told.submitted)) (nat_lt row_limit (length k.rows)) _ _ passes }
