-- What replicas report, how a sequence closes, and what becomes of it when a replica ends.
use Rattle.std.specs.Prelude.{◌&&◌, ◌++◌, ◌||◌, ◌∷◌, Bool, List, None, Option, Some, [], bytes_eq, cond, filter, map, nat_lt, not, ℕ, ℤ}
use Rattle.std.specs.List.{list_all, list_any}
use Rattle.book_rows.specs.Kinds.{is_unpublished, same_state}
use Rattle.book_rows.specs.Lists.{is_empty}
use Rattle.book_rows.specs.Sequences.{abandoned, is_named, sequence_named, tasks_abandoned}
use Rattle.book_rows.specs.declared.rows.Offset.{Offset}
use Rattle.book_rows.specs.declared.rows.Report.{Report}
use Rattle.book_rows.specs.declared.rows.SequenceRow.{SequenceRow}
use Rattle.book_rows.specs.declared.kinds.SeqState.TheVariants as States

-- ---- reports

-- of two offsets of one partition the greater, in the order of the first list
abbrev pub greater : ℕ → ℕ → ℕ
greater a b = cond (nat_lt a b) b a

abbrev pub both_told : List Offset → List Offset → List Offset
both_told (a ∷ as') (b ∷ bs) = record { partition = a.partition; offset = greater a.offset b.offset } ∷ both_told as' bs
both_told as' bs = as'

-- a replica that told before tells again
abbrev pub told_again : Report → Report → Report
told_again new r = record r { offsets = cond (bytes_eq r.task new.task) (both_told r.offsets new.offsets) r.offsets }

abbrev pub has_reported : List Report → List ℕ → Bool
has_reported rs task = list_any (λ r. bytes_eq r.task task) rs

-- the reports after a new one: a replica has one report, with the greatest offset that it told of each partition
abbrev pub kept : Report → List Report → List Report
kept new rs = cond (has_reported rs new.task) (map (told_again new) rs) (rs ++ new ∷ [])

abbrev pub all_reported : List Report → List (List ℕ) → Bool
all_reported rs ts = list_all (λ t. has_reported rs t) ts

-- the greatest offset that any report tells of each partition, none below these
abbrev pub greatest : List Offset → List Report → List Offset
greatest at [] = at
greatest at (r ∷ rs) = greatest (both_told at r.offsets) rs

abbrev pub ends_told : List Offset → List Report → List Offset
ends_told starts rs = greatest starts rs

-- a replica tells its offsets of the sequence of this name, where that reads or is paused
abbrev pub is_told : List ℕ → SequenceRow → Bool
is_told name u = is_named name u && (same_state u.state States.Reading || same_state u.state States.Paused)

-- the report is kept, and a reading sequence pauses
abbrev pub told : List ℕ → Report → SequenceRow → SequenceRow
told name new u = record u { state = cond (is_told name u) States.Paused u.state; reports = cond (is_told name u) (kept new u.reports) u.reports }

-- the paused sequence of this name, where each replica that hasn't ended has reported
abbrev pub closes : List ℕ → SequenceRow → Bool
closes name u = is_named name u && same_state u.state States.Paused && all_reported u.reports u.live

abbrev pub closed_at : List ℕ → ℤ → SequenceRow → SequenceRow
closed_at name clock u = record u {
  state = cond (closes name u) States.Closed u.state;
  closed = cond (closes name u) clock u.closed;
  ends = cond (closes name u) (ends_told u.starts u.reports) u.ends;
}

abbrev pub reported : List ℕ → Report → ℤ → SequenceRow → SequenceRow
reported name new clock u = closed_at name clock (told name new u)

-- the least partition that is missing, foreign or told below its start, where both lists ascend
abbrev pub first_bad : List Offset → List Offset → Option ℕ
first_bad [] [] = None
first_bad [] (o ∷ os) = Some o.partition
first_bad (s ∷ ss) [] = Some s.partition
first_bad (s ∷ ss) (o ∷ os) =
    cond (nat_lt o.partition s.partition) (Some o.partition)
    (cond (nat_lt s.partition o.partition || nat_lt o.offset s.offset) (Some s.partition) (first_bad ss os))

-- ---- a replica ends

-- it leaves the list of those that are live
abbrev pub left_by : List ℕ → SequenceRow → SequenceRow
left_by task u = record u { live = filter (λ t. not (bytes_eq t task)) u.live }

abbrev pub left_all : List ℕ → List SequenceRow → List SequenceRow
left_all task us = map (left_by task) us

-- the sequences after a replica ended, and the tasks that abandoning ends
pub record Ended : Type 0 where
  pub sequences : List SequenceRow
  pub tasks : List (List ℕ)

-- where an unpublished sequence has no replica left, it and the later ones are abandoned, else it may close
abbrev pub ended_by : Option SequenceRow → List ℕ → ℤ → List SequenceRow → Ended
ended_by None name clock us = record { sequences = us; tasks = [] }
ended_by (Some u) name clock us =
    cond (is_unpublished u.state && is_empty u.live)
    (record { sequences = map (abandoned u.source u.group u.index) us; tasks = tasks_abandoned u.source u.group u.index us })
    (record { sequences = map (closed_at name clock) us; tasks = [] })

-- a task of the group of this name has ended
abbrev pub ended : List ℕ → List ℕ → ℤ → List SequenceRow → Ended
ended name task clock us = ended_by (sequence_named name (left_all task us)) name clock (left_all task us)
