-- Short names for cases on supervisors, their sequences and their replicas.
use Rattle.book_rows.specs.declared.commands.Command.{Command}
use Rattle.book_rows.specs.declared.rows.Offset.{Offset}
use Rattle.book_rows.specs.declared.rows.Report.{Report}
use Rattle.book_rows.specs.declared.rows.SupervisorRow.{SupervisorRow}
use Rattle.std.specs.Prelude.{List, [], codes, pos, ℕ, ℤ, ◌*◌, ◌+◌, ◌∷◌}
use Rattle.scenes.specs.Publishing.{point}
use Rattle.scenes.specs.Script.{t, w}
use Rattle.book_rows.specs.declared.commands.Command.TheVariants as Commands

-- so many minutes after the moment
abbrev pub minutes_later : ℕ → ℤ
minutes_later m = pos (1711929600000 + m * 60000)

-- three partitions in two groups of two replicas; they read for an hour, and have half an hour to publish
abbrev pub supervise : Command
supervise = Commands.Supervise w t 3 2 2 (pos 3600000) (pos 1800000)

abbrev pub supervisor : SupervisorRow
supervisor = record { source = w; stream = t; partitions = 3; task_count = 2; replicas = 2; duration = pos 3600000; timeout = pos 1800000 }

-- the first three sequences of the first group
abbrev pub first_sequence : List ℕ
first_sequence = codes "sup:w:0:0"

abbrev pub second_sequence : List ℕ
second_sequence = codes "sup:w:0:1"

abbrev pub third_sequence : List ℕ
third_sequence = codes "sup:w:0:2"

-- replicas, by group, sequence and number
abbrev pub r000 : List ℕ
r000 = codes "sup:w:0:0:0"

abbrev pub r001 : List ℕ
r001 = codes "sup:w:0:0:1"

abbrev pub r010 : List ℕ
r010 = codes "sup:w:0:1:0"

abbrev pub r100 : List ℕ
r100 = codes "sup:w:1:0:0"

abbrev pub r101 : List ℕ
r101 = codes "sup:w:1:0:1"

-- offsets of the first group's partitions, 0 and 2
abbrev pub first_group_at : ℕ → ℕ → List Offset
first_group_at a c = point 0 a ∷ point 2 c ∷ []

-- an offset of partition 0, and a task that has read to it
abbrev pub at_offset : ℕ → List Offset
at_offset offset = point 0 offset ∷ []

abbrev pub report_row : List ℕ → ℕ → Report
report_row task offset = record { task = task; offsets = at_offset offset }
