-- What is carried, shown and stored, and sequences: each rule broken in a book that keeps those before it.
use Rattle.std.specs.Prelude.{[], codes, false, ℕ, ◌++◌, ◌∷◌}
use Rattle.book_rows.specs.declared.kinds.LockKind.TheVariants as LockKinds
use Rattle.book_rows.specs.declared.kinds.SeqState.TheVariants as States
use Rattle.book_rows.specs.declared.kinds.TaskKind.TheVariants as TaskKinds
use Rattle.book_rows.specs.declared.kinds.TaskStatus.TheVariants as Statuses
use Rattle.book_rows.specs.declared.rows.Book.{Book}
use Rattle.book_rows.specs.declared.rows.SequenceRow.{SequenceRow}
use Rattle.book_rows.specs.declared.rows.TaskRow.{TaskRow}
use Rattle.scenes.specs.Publishing.{hour_id, point, range, ranges}
use Rattle.scenes.specs.Script.{hour, now, p, v}
use Rattle.scenes.specs.Rows.{p_row, r_row}
use Rattle.scenes.specs.Supervising.{at_offset, first_sequence, r000, r010, report_row}
use Rattle.laws_unsound.specs.Unsound.{Carried, InSequence, Shown, Tiled}
use Rattle.cases_unsound.specs.SoundBook.{Breaks, BreaksNone, appended, book, ended_replica, published, read, reading, running_replica, the_offset, tomb, used_row}

-- ---- carried: an upgrade row is missing

abbrev pub UpgradeRowMissing : Type 0
UpgradeRowMissing = Breaks (record book { upgrades = [] }) Carried 5

-- ---- shown: a segment that isn't used, or isn't there

abbrev pub ContentsNotShown : Type 0
ContentsNotShown =
    Breaks (record book { segments = record (used_row (hour_id 0) 0) { used = false } ∷ used_row (hour_id 1) 1 ∷ tomb ∷ [] }) Shown 0
    × Breaks (record book { segments = used_row (hour_id 1) 1 ∷ tomb ∷ [] }) Shown 0

-- ---- tiled: another offset, one that nothing read, none, and ranges that don't go on

abbrev pub with_read : ℕ → ℕ → Book
with_read start end = record book { publications = book.publications ++ record read { group = p; ranges = ranges (range 0 start end ∷ []) } ∷ [] }

abbrev pub OffsetsNotTiled : Type 0
OffsetsNotTiled =
    Breaks (record book { offsets = record the_offset { offset = 9 } ∷ [] }) Tiled 0
    × Breaks (record book { offsets = the_offset ∷ record the_offset { partition = 1 } ∷ [] }) Tiled 0
    × Breaks (record book { offsets = [] }) Tiled 0
    × Breaks (with_read 11 12) Tiled 0
    × Breaks (record (with_read 11 12) { offsets = record the_offset { offset = 12 } ∷ [] }) Tiled 0

-- ---- sequences by themselves: of no supervisor, of no group, offsets of another partition, a chain that breaks off, an index that is passed over

abbrev pub with_sequences : SequenceRow → SequenceRow → Book
with_sequences first second = record book { sequences = first ∷ second ∷ [] }

abbrev pub SequencesOfGroups : Type 0
SequencesOfGroups =
    Breaks (record book { supervisors = [] }) InSequence 0
    × Breaks (with_sequences published (record reading { group = 1; index = 0 })) InSequence 0
    × Breaks (with_sequences published (record reading { index = 2 })) InSequence 0
    × Breaks (with_sequences published (record reading { starts = at_offset 9 })) InSequence 0
    × Breaks (with_sequences (record published { starts = point 1 0 ∷ [] }) reading) InSequence 0

-- ---- reports and ends: below the starts, of one task twice, of no task

abbrev pub closed_at : ℕ → SequenceRow
closed_at offset = record reading { state = States.Closed; closed = now; ends = at_offset offset }

abbrev pub ReportsOfSequences : Type 0
ReportsOfSequences =
    Breaks (with_sequences published (closed_at 9)) InSequence 0
    × Breaks (with_sequences (record published { starts = at_offset 11 }) reading) InSequence 0
    × BreaksNone (with_sequences published (closed_at 10))
    × BreaksNone (with_sequences published (record reading { reports = report_row r010 10 ∷ [] }))
    × Breaks (with_sequences published (record reading { reports = report_row r010 9 ∷ [] })) InSequence 0
    × Breaks (with_sequences published (record reading { reports = report_row r010 10 ∷ report_row r010 11 ∷ [] })) InSequence 0
    × Breaks (with_sequences published (record reading { reports = report_row r000 10 ∷ [] })) InSequence 0

-- ---- replicas: live ones that aren't listed, ended ones that are, none, and tasks that aren't as they were submitted

abbrev pub with_replica : TaskRow → Book
with_replica t = record book { tasks = p_row ∷ r_row ∷ ended_replica ∷ t ∷ [] }

abbrev pub ReplicasOfSequences : Type 0
ReplicasOfSequences =
    Breaks (with_sequences published (record reading { live = [] })) InSequence 0
    × Breaks (with_sequences (record published { live = r000 ∷ [] }) reading) InSequence 0
    × Breaks (record (with_replica (record running_replica { status = Statuses.Failed })) { sequences = published ∷ record reading { live = [] } ∷ [] }) InSequence 0
    × Breaks (with_replica (record running_replica { kind = TaskKinds.Batch })) InSequence 0
    × Breaks (with_replica (record running_replica { source = v })) InSequence 0
    × Breaks (with_replica (record running_replica { wants = record { lock_kind = LockKinds.Append; span = hour } ∷ [] })) InSequence 0
    × Breaks (with_replica (record running_replica { group = first_sequence })) InSequence 0
    × Breaks (record book { tasks = book.tasks ++ record running_replica { task = codes "sup:w:0:1:1" } ∷ [] }) InSequence 0

-- the place of a compaction among the tasks is in its id
abbrev pub CompactionsByPlace : Type 0
CompactionsByPlace =
    BreaksNone (record book { tasks = book.tasks ++ record r_row { task = codes "compact:w:4"; group = codes "compact:w:4" } ∷ [] })
    × Breaks (record book { tasks = book.tasks ++ record r_row { task = codes "compact:w:5"; group = codes "compact:w:5" } ∷ [] }) InSequence 0

-- ---- publications: of a sequence that isn't published, none of one that is, with other ranges, and of no sequence

abbrev pub PublicationsOfSequences : Type 0
PublicationsOfSequences =
    Breaks (with_sequences (record published { state = States.Abandoned }) reading) InSequence 0
    × Breaks (with_sequences published (record (closed_at 10) { state = States.Published })) InSequence 0
    × Breaks (with_sequences (record published { ends = at_offset 9 }) reading) InSequence 0
    × Breaks (record book { publications = book.publications ++ record (appended (hour_id 0)) { group = codes "sup:w:0:7"; adds = [] } ∷ [] }) InSequence 0
