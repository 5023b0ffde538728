-- Short names for the cases on publishing, on what is shown, and on books after commands.
use Rattle.book_rows.specs.Answer.{answer, changes, next}
use Rattle.book_rows.specs.declared.commands.Command.{Command}
use Rattle.book_rows.specs.declared.replies.OffsetLine.{OffsetLine}
use Rattle.book_rows.specs.declared.replies.Reply.{Reply}
use Rattle.book_rows.specs.declared.rows.Offset.{Offset}
use Rattle.book_rows.specs.declared.rows.PendingRow.{PendingRow}
use Rattle.book_rows.specs.declared.rows.Range.{Range}
use Rattle.book_rows.specs.declared.rows.Ranges.{Ranges}
use Rattle.book_rows.specs.declared.rows.SegmentRow.{SegmentRow}
use Rattle.book_rows.specs.declared.rows.UpgradeRow.{UpgradeRow}
use Rattle.iv_span.specs.Extent.{Extent}
use Rattle.seg_names.specs.declared.seg_id.SegId.{SegId}
use Rattle.std.specs.Prelude.{List, None, Option, Some, [], codes, false, pos, true, ℕ, ℤ, ◌∷◌, ◌≡◌}
use Rattle.scenes.specs.Script.{after, alloc, day, hour, id, lock, minutes, next_day, now, r, replace, seventh_hour, t, v, v0, w}
use Rattle.book_rows.specs.declared.commands.Command.TheVariants as Commands
use Rattle.iv_time.specs.declared.granularity.Granularity.TheVariants as Granularities
use Rattle.book_rows.specs.declared.kinds.LockKind.TheVariants as LockKinds
use Rattle.book_rows.specs.declared.replies.Reply.TheVariants as Replies
use Rattle.book_rows.specs.declared.kinds.TaskKind.TheVariants as TaskKinds
use Rattle.book_rows.specs.declared.commands.What.TheVariants as Whats

abbrev pub s1 : List ℕ
s1 = codes "s1"

-- three milliseconds after the moment
abbrev pub now3 : ℤ
now3 = pos 1711929600003

-- 2024-03-01 from 06:00 to 07:00, and the two days together
abbrev pub sixth_hour : Extent
sixth_hour = record { start = minutes 360; end = minutes 420 }

abbrev pub two_days : Extent
two_days = record { start = day.start; end = next_day.end }

-- ids that are allocated under appending locks, in the hours from 05:00 and 07:00
abbrev pub hour_id : ℕ → SegId
hour_id part = id hour v0 part

abbrev pub seventh_id : ℕ → SegId
seventh_id part = id seventh_hour v0 part

-- of a replacement of the day
abbrev pub day_id : ℕ → SegId
day_id part = id day now part

-- an id of the other source
abbrev pub foreign_id : Extent → SegId
foreign_id span = record { source = v; span = span; version = now; part = 0 }

-- ---- commands

abbrev pub alloc_hour : List ℕ → List ℕ → Command
alloc_hour task sequence = alloc task LockKinds.Append sequence (minutes 310) Granularities.Hour

abbrev pub alloc_seventh : List ℕ → List ℕ → Command
alloc_seventh task sequence = alloc task LockKinds.Append sequence (minutes 430) Granularities.Hour

-- a task of a group and of the other source
abbrev pub submit_other : List ℕ → List ℕ → Command
submit_other task group = Commands.Submit task group v TaskKinds.Realtime 75 []

abbrev pub range : ℕ → ℕ → ℕ → Range
range partition low high = record { partition = partition; start = low; end = high }

-- ranges of a stream, and of the stream `t`
abbrev pub ranges_of : List ℕ → List Range → Option Ranges
ranges_of stream parts = Some (record { stream = stream; parts = parts })

abbrev pub ranges : List Range → Option Ranges
ranges parts = ranges_of t parts

-- an append with ranges, and one with ranges alone
abbrev pub append_read : List ℕ → List SegId → List Range → Command
append_read task ids parts = Commands.Append task ids (ranges parts)

abbrev pub read_only : List ℕ → List Range → Command
read_only task parts = append_read task [] parts

abbrev pub replace_nothing : List ℕ → Extent → SegId → Command
replace_nothing task span tombstone = Commands.Replace task (span ∷ []) [] (tombstone ∷ []) None

-- the spans are replaced by ids, and the day by one
abbrev pub replace_spans : List ℕ → List Extent → List SegId → Command
replace_spans task spans ids = Commands.Replace task spans ids [] None

abbrev pub replace_day : Command
replace_day = replace r day (day_id 0 ∷ [])

abbrev pub point : ℕ → ℕ → Offset
point partition offset = record { partition = partition; offset = offset }

abbrev pub reset : List Offset → Command
reset offsets = Commands.Reset w t offsets

abbrev pub reset_nothing : Command
reset_nothing = reset []

-- partition 0, to 5
abbrev pub reset_five : Command
reset_five = reset (point 0 5 ∷ [])

abbrev pub show_offsets : Command
show_offsets = Commands.Show (Whats.Offsets w)

abbrev pub show_sequences : Command
show_sequences = Commands.Show (Whats.Sequences w)

abbrev pub show_tasks : Command
show_tasks = Commands.Show Whats.Tasks

abbrev pub show_locks : Command
show_locks = Commands.Show Whats.Locks

-- ---- replies

abbrev pub offsets_are : List OffsetLine → Reply
offsets_are lines = Replies.Offsets lines w

-- ---- rows

abbrev pub used_row : SegId → SegId → ℕ → SegmentRow
used_row name root commit = record { id = name; used = true; root = root; commit = commit; tombstone = false }

abbrev pub tomb_row_of : SegId → ℕ → SegmentRow
tomb_row_of name commit = record (used_row name name commit) { tombstone = true }

abbrev pub pending_row_of : SegId → SegId → ℕ → List ℕ → PendingRow
pending_row_of name root lock sequence = record { id = name; root = root; posse = lock; sequence = sequence; previous = None }

abbrev pub upgrade_row_of : ℕ → SegId → UpgradeRow
upgrade_row_of lock root = record { posse = lock; root = root }

-- ---- books

-- after the first commands, this one is answered so and leaves the book
abbrev pub LeavesBook : List Command → Command → Reply → Type 0
LeavesBook before command reply = (answer (after before) command ≡ reply) × (changes (after before) command ≡ false) × (next (after before) command ≡ after before)

-- and this one changes it
abbrev pub ChangesBook : List Command → Command → Type 0
ChangesBook before command = changes (after before) command ≡ true
