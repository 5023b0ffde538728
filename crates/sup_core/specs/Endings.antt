-- What becomes of the sequence of a task that ends.
use Rattle.std.specs.Prelude.{◌&&◌, ◌||◌, Bool, List, None, Option, Some, [], bytes_eq, cond, filter, nat_le, not, ℕ, ℤ}
use Rattle.std.specs.List.{list_all}
use Rattle.book_rows.specs.Kinds.{is_unpublished, same_state}
use Rattle.book_rows.specs.Lists.{gathered}
use Rattle.book_rows.specs.Reports.{ends_told, has_reported}
use Rattle.book_rows.specs.declared.kinds.SeqState.TheVariants as States
use Rattle.book_rows.specs.declared.rows.Report.{Report}
use Rattle.book_rows.specs.declared.rows.SequenceRow.{SequenceRow}
use Rattle.sup_core.specs.declared.ending.Ending.{Ending}
use Rattle.sup_core.specs.declared.ending.Ending.TheVariants as Endings

-- the live replicas but this task
abbrev pub left_live : List ℕ → List (List ℕ) → List (List ℕ)
left_live task live = filter (λ t. not (bytes_eq t task)) live

-- none of these but this task is there
abbrev pub is_alone : List ℕ → List (List ℕ) → Bool
is_alone task live = list_all (λ t. bytes_eq t task) live

-- unpublished, and without a live replica but this task
abbrev pub is_deserted : List ℕ → SequenceRow → Bool
is_deserted task u = is_unpublished u.state && is_alone task u.live

-- the replica is this task, or has reported
abbrev pub is_done : List ℕ → List Report → List ℕ → Bool
is_done task rs live = bytes_eq live task || has_reported rs live

abbrev pub are_done : List ℕ → List Report → List (List ℕ) → Bool
are_done task rs live = list_all (λ t. is_done task rs t) live

-- paused, and each live replica but this task has reported
abbrev pub may_close : List ℕ → SequenceRow → Bool
may_close task u = same_state u.state States.Paused && are_done task u.reports u.live

abbrev pub row_ending : List ℕ → ℤ → SequenceRow → Ending
row_ending task clock u =
    cond (is_deserted task u) (Endings.Abandons u.source u.group u.index)
    (cond (may_close task u) (Endings.Closes (record { at = clock; ends = ends_told u.starts u.reports })) Endings.Stays)

abbrev pub ending_of : Option SequenceRow → List ℕ → ℤ → Ending
ending_of None task clock = Endings.Stays
ending_of (Some u) task clock = row_ending task clock u

-- the live replicas but this task, of a sequence of at least this index
abbrev pub others_of : ℕ → List ℕ → SequenceRow → List (List ℕ)
others_of from task u = cond (nat_le from u.index) (left_live task u.live) []

-- those of all these sequences
abbrev pub others_from : ℕ → List ℕ → List SequenceRow → List (List ℕ)
others_from from task us = gathered (others_of from task) us
