-- The limits of commands that publish, reset, supervise, report, ask and show: at them and past them.
use Rattle.book_rows.specs.Form.{AllKeepForm}
use Rattle.book_rows.specs.declared.commands.Command.{Command}
use Rattle.book_rows.specs.declared.rows.Offset.{Offset}
use Rattle.book_rows.specs.declared.rows.Range.{Range}
use Rattle.seg_names.specs.declared.seg_id.SegId.{SegId}
use Rattle.std.specs.List.{range_with_len}
use Rattle.std.specs.Prelude.{List, None, [], codes, map, neg_ℤ, pos, replicate, ℕ, ℤ, ◌∷◌}
use Rattle.scenes.specs.Publishing.{append_read, foreign_id, hour_id, point, range, ranges_of, read_only, replace_spans, reset, show_locks, show_tasks}
use Rattle.scenes.specs.Script.{append, day, hour, id, morning, now, now1, p, replace, t, v0, w}
use Rattle.scenes.specs.Bounds.{AreIllFormed, after_last, before_first, between, first_moment, last_moment, letters}
use Rattle.scenes.specs.Supervising.{r000}
use Rattle.book_rows.specs.declared.commands.Command.TheVariants as Commands
use Rattle.book_rows.specs.declared.commands.What.TheVariants as Whats

-- ---- a name has 1 to 200 bytes, each a letter, a digit, `_`, `-` or `.`

abbrev pub reset_of : List ℕ → List ℕ → Command
reset_of source stream = Commands.Reset source stream []

abbrev pub NamesAtTheirLimits : Type 0
NamesAtTheirLimits =
    AllKeepForm
    (reset_of (letters 1) (letters 200)
    ∷ reset_of (letters 200) (letters 1)
    ∷ reset_of (codes "AZaz") (codes "09_-.")
    ∷ Commands.Show (Whats.Timeline (letters 200))
    ∷ Commands.Show (Whats.Contents (letters 200))
    ∷ Commands.Show (Whats.Offsets (letters 200))
    ∷ Commands.Show (Whats.Sequences (letters 200))
    ∷ show_tasks
    ∷ show_locks
    ∷ [])
    × AreIllFormed
    (reset_of [] t
    ∷ reset_of w []
    ∷ reset_of (letters 201) t
    ∷ reset_of w (letters 201)
    ∷ reset_of (codes "a:b") t
    ∷ reset_of w (codes "a b")
    ∷ reset_of (195 ∷ 169 ∷ []) t
    ∷ Commands.Show (Whats.Timeline [])
    ∷ Commands.Show (Whats.Contents (letters 201))
    ∷ Commands.Show (Whats.Offsets (codes "a/b"))
    ∷ Commands.Show (Whats.Sequences [])
    ∷ [])

-- ---- a task's id has 1 to 255 bytes of UTF-8

abbrev pub TaskIdsAtTheirLimits : Type 0
TaskIdsAtTheirLimits =
    AllKeepForm
    (append (letters 1) (hour_id 0 ∷ [])
    ∷ append (letters 255) (hour_id 0 ∷ [])
    ∷ replace r000 day (id day now 0 ∷ [])
    ∷ Commands.ToReplace (195 ∷ 169 ∷ []) day
    ∷ Commands.Paused (letters 255) (point 0 0 ∷ [])
    ∷ [])
    × AreIllFormed
    (append [] (hour_id 0 ∷ [])
    ∷ append (letters 256) (hour_id 0 ∷ [])
    ∷ replace (letters 256) day (id day now 0 ∷ [])
    ∷ Commands.ToReplace (195 ∷ []) day
    ∷ Commands.Paused (255 ∷ []) (point 0 0 ∷ [])
    ∷ Commands.Checkpoint [] (point 0 0 ∷ [])
    ∷ [])

-- ---- partitions go to 2,147,483,647 and offsets to 9,223,372,036,854,775,807; partitions ascend, and ranges aren't empty

abbrev pub RangesAtTheirLimits : Type 0
RangesAtTheirLimits =
    AllKeepForm
    (read_only p (range 0 0 0 ∷ [])
    ∷ read_only p (range 2147483647 9223372036854775807 9223372036854775807 ∷ [])
    ∷ read_only p (range 0 9 8 ∷ range 7 1 2 ∷ [])
    ∷ append p (hour_id 0 ∷ [])
    ∷ append_read p (hour_id 0 ∷ []) (range 3 0 1 ∷ [])
    ∷ [])
    × AreIllFormed
    (read_only p (range 2147483648 0 0 ∷ [])
    ∷ read_only p (range 0 0 9223372036854775808 ∷ [])
    ∷ read_only p (range 0 9223372036854775808 0 ∷ [])
    ∷ read_only p (range 1 0 0 ∷ range 0 0 0 ∷ [])
    ∷ read_only p (range 0 0 1 ∷ range 0 1 2 ∷ [])
    ∷ read_only p []
    ∷ append_read p (hour_id 0 ∷ []) []
    ∷ append p []
    ∷ Commands.Append p [] (ranges_of [] (range 0 0 0 ∷ []))
    ∷ [])

-- ---- the offsets of a reset may be none, and those of a report not; partitions ascend

abbrev pub OffsetsAtTheirLimits : Type 0
OffsetsAtTheirLimits =
    AllKeepForm
    (reset []
    ∷ reset (point 0 0 ∷ point 2147483647 9223372036854775807 ∷ [])
    ∷ Commands.Paused p (point 2147483647 9223372036854775807 ∷ [])
    ∷ Commands.Checkpoint p (point 0 0 ∷ point 1 0 ∷ [])
    ∷ [])
    × AreIllFormed
    (reset (point 2147483648 0 ∷ [])
    ∷ reset (point 0 9223372036854775808 ∷ [])
    ∷ reset (point 1 0 ∷ point 0 0 ∷ [])
    ∷ reset (point 1 0 ∷ point 1 0 ∷ [])
    ∷ Commands.Paused p []
    ∷ Commands.Checkpoint p []
    ∷ Commands.Paused p (point 2147483648 0 ∷ [])
    ∷ Commands.Checkpoint p (point 0 9223372036854775808 ∷ [])
    ∷ Commands.Checkpoint p (point 1 0 ∷ point 0 0 ∷ [])
    ∷ [])

-- ---- spans have an instant and lie in the years 0 to 9999; they stand by start and end, may repeat or overlap, and there is one at least

abbrev pub SpansAtTheirLimits : Type 0
SpansAtTheirLimits =
    AllKeepForm
    (Commands.ToReplace p (between first_moment last_moment)
    ∷ replace_spans p (day ∷ hour ∷ []) (id day now 0 ∷ [])
    ∷ replace_spans p (hour ∷ hour ∷ []) (id day now 0 ∷ [])
    ∷ replace_spans p (morning ∷ day ∷ []) (id (between first_moment last_moment) first_moment 0 ∷ [])
    ∷ [])
    × AreIllFormed
    (Commands.ToReplace p (between before_first day.end)
    ∷ Commands.ToReplace p (between day.start after_last)
    ∷ Commands.ToReplace p (between day.start day.start)
    ∷ Commands.ToReplace p (between day.end day.start)
    ∷ replace_spans p [] (id day now 0 ∷ [])
    ∷ replace_spans p (hour ∷ day ∷ []) (id day now 0 ∷ [])
    ∷ replace_spans p (day ∷ morning ∷ []) (id day now 0 ∷ [])
    ∷ replace_spans p (between day.start day.start ∷ []) (id day now 0 ∷ [])
    ∷ replace p day (id (between day.start day.start) now 0 ∷ [])
    ∷ replace p day (id day after_last 0 ∷ [])
    ∷ append p (id day before_first 0 ∷ [])
    ∷ append p (record { source = []; span = day; version = now; part = 0 } ∷ [])
    ∷ [])

-- ---- ids and tombstones each stand in id order, each once, and there is one at least of the two; an id may be in both

abbrev pub replace_mixed : List SegId → List SegId → Command
replace_mixed ids tombstones = Commands.Replace p (day ∷ []) ids tombstones None

abbrev pub TombstonesInOrder : Type 0
TombstonesInOrder =
    AllKeepForm
    (replace_mixed (id day now 0 ∷ []) []
    ∷ replace_mixed [] (id day now 0 ∷ [])
    ∷ replace_mixed (id day now 0 ∷ []) (id day now 0 ∷ [])
    ∷ replace_mixed (id day now 0 ∷ id day now 1 ∷ id day now1 0 ∷ id hour v0 0 ∷ []) []
    ∷ [])
    × AreIllFormed
    (replace_mixed [] []
    ∷ replace_mixed (id day now 1 ∷ id day now 0 ∷ []) []
    ∷ replace_mixed (id day now 0 ∷ id day now 0 ∷ []) []
    ∷ replace_mixed (id day now1 0 ∷ id day now 1 ∷ []) []
    ∷ replace_mixed [] (id day now 1 ∷ id day now 0 ∷ [])
    ∷ replace_mixed [] (id day now 0 ∷ id day now 0 ∷ [])
    ∷ replace_mixed (id hour v0 0 ∷ id day now 0 ∷ []) []
    ∷ replace_mixed (id day now 0 ∷ foreign_id day ∷ []) []
    ∷ [])

-- ---- a supervisor reads 1 to 4,096 partitions in 1 to 4,096 groups with 1 to 16 replicas, for whole seconds

abbrev pub supervise_with : ℕ → ℕ → ℕ → ℤ → ℤ → Command
supervise_with partitions task_count replicas duration timeout = Commands.Supervise w t partitions task_count replicas duration timeout

abbrev pub SupervisorsAtTheirLimits : Type 0
SupervisorsAtTheirLimits =
    AllKeepForm
    (supervise_with 1 1 1 (pos 1000) (pos 1000)
    ∷ supervise_with 4096 4096 16 (pos 36609996339000) (pos 36609996339000)
    ∷ supervise_with 1 4096 16 (pos 3600000) (pos 1000)
    ∷ [])
    × AreIllFormed
    (supervise_with 0 1 1 (pos 1000) (pos 1000)
    ∷ supervise_with 4097 1 1 (pos 1000) (pos 1000)
    ∷ supervise_with 1 0 1 (pos 1000) (pos 1000)
    ∷ supervise_with 1 4097 1 (pos 1000) (pos 1000)
    ∷ supervise_with 1 1 0 (pos 1000) (pos 1000)
    ∷ supervise_with 1 1 17 (pos 1000) (pos 1000)
    ∷ supervise_with 1 1 1 (pos 0) (pos 1000)
    ∷ supervise_with 1 1 1 (pos 1500) (pos 1000)
    ∷ supervise_with 1 1 1 (pos 1000) (pos 999)
    ∷ supervise_with 1 1 1 (pos 36609996340000) (pos 1000)
    ∷ supervise_with 1 1 1 (pos 1000) (pos 36609996340000)
    ∷ supervise_with 1 1 1 (neg_ℤ (pos 1000)) (pos 1000)
    ∷ [])

-- ---- a tick's moment is an instant

abbrev pub TicksAtTheirLimits : Type 0
TicksAtTheirLimits =
    AllKeepForm (Commands.Tick first_moment ∷ Commands.Tick last_moment ∷ []) × AreIllFormed (Commands.Tick before_first ∷ Commands.Tick after_last ∷ [])

-- ---- a list has at most 4,096 items

abbrev pub points : ℕ → List Offset
points n = map (λ k. point k 0) (range_with_len 0 n)

abbrev pub many_ranges : ℕ → List Range
many_ranges n = map (λ k. range k 0 0) (range_with_len 0 n)

abbrev pub many_ids : ℕ → List SegId
many_ids n = map hour_id (range_with_len 0 n)

abbrev pub ManyOffsetsAndRanges : Type 0
ManyOffsetsAndRanges =
    AllKeepForm (reset (points 4096) ∷ Commands.Checkpoint p (points 4096) ∷ read_only p (many_ranges 4096) ∷ [])
    × AreIllFormed
    (reset (points 4097) ∷ Commands.Checkpoint p (points 4097) ∷ Commands.Paused p (points 4097) ∷ read_only p (many_ranges 4097) ∷ [])

abbrev pub ManyIds : Type 0
ManyIds =
    AllKeepForm (append p (many_ids 4096) ∷ replace_mixed [] (many_ids 4096) ∷ replace_spans p (replicate 4096 day) (id day now 0 ∷ []) ∷ [])
    × AreIllFormed
    (append p (many_ids 4097)
    ∷ replace p day (many_ids 4097)
    ∷ replace_mixed [] (many_ids 4097)
    ∷ replace_spans p (replicate 4097 day) (id day now 0 ∷ [])
    ∷ [])
