-- Tables that are full: the last row is let through, and one more is refused. The lists of rows are of that length, whatever they hold.
use Rattle.book_rows.specs.Answer.{answer, empty_book}
use Rattle.book_rows.specs.Append.{version_overlaps}
use Rattle.book_rows.specs.Offsets.{reset_to}
use Rattle.book_rows.specs.Over.{root_fault}
use Rattle.book_rows.specs.Rewrite.{is_copied}
use Rattle.book_rows.specs.Sequences.{supervisor_of}
use Rattle.book_rows.specs.declared.commands.Command.{Command}
use Rattle.book_rows.specs.declared.kinds.Table.{Table}
use Rattle.book_rows.specs.declared.replies.Reply.{Reply}
use Rattle.book_rows.specs.declared.rows.Book.{Book}
use Rattle.book_rows.specs.declared.rows.ChunkRow.{ChunkRow}
use Rattle.book_rows.specs.declared.rows.OffsetRow.{OffsetRow}
use Rattle.book_rows.specs.declared.rows.PendingRow.{PendingRow}
use Rattle.book_rows.specs.declared.rows.Publication.{Publication}
use Rattle.book_rows.specs.declared.rows.SegmentRow.{SegmentRow}
use Rattle.book_rows.specs.declared.rows.SequenceRow.{SequenceRow}
use Rattle.book_rows.specs.declared.rows.SupervisorRow.{SupervisorRow}
use Rattle.book_rows.specs.declared.rows.TaskRow.{TaskRow}
use Rattle.book_rows.specs.declared.rows.UpgradeRow.{UpgradeRow}
use Rattle.std.specs.List.{list_all}
use Rattle.std.specs.Prelude.{List, None, [], bytes_eq, false, filter, length, not, true, ℕ, ◌++◌, ◌∷◌, ◌≡◌}
use Rattle.cases_rules.specs.LimitCases.{with_publications}
use Rattle.cases_rules.specs.NothingCases.{inserting}
use Rattle.scenes.specs.Script.{after, s, s2, a, append, day, drop, hour, id, insert, lock, now, p, r, refuse, start, t, v0, w}
use Rattle.scenes.specs.Publishing.{alloc_hour, hour_id, pending_row_of, point, replace_day, reset_five}
use Rattle.scenes.specs.Supervising.{first_sequence}
use Rattle.cases_rules.specs.ReplaceCases.{both, chunk_row}
use Rattle.cases_rules.specs.ReplaceRefusalCases.{replacing_day}
use Rattle.cases_rules.specs.SequenceCases.{supervise_one}
use Rattle.book_rows.specs.declared.commands.Command.TheVariants as Commands
use Rattle.book_rows.specs.declared.kinds.LockKind.TheVariants as LockKinds
use Rattle.book_rows.specs.declared.replies.Refusal.TheVariants as Refusals
use Rattle.book_rows.specs.declared.replies.Reply.TheVariants as Replies
use Rattle.book_rows.specs.declared.kinds.Table.TheVariants as Tables
use Rattle.book_rows.specs.declared.kinds.TaskKind.TheVariants as TaskKinds

abbrev pub table_full : Table → Reply
table_full table = refuse (Refusals.TableFull table)

-- ---- publications, by a drop

abbrev pub DropsFillPublications : Type 0
DropsFillPublications =
    ((ms : List Publication) → length ms ≡ 262143 → answer (with_publications ms) (drop day) ≡ Replies.Drop 262143)
    × ((ms : List Publication) → length ms ≡ 262144 → answer (with_publications ms) (drop day) ≡ table_full Tables.Publications)

-- ---- segments, by an insert

abbrev pub with_segments : List SegmentRow → Book
with_segments rows = record (after (inserting day)) { segments = rows }

abbrev pub insert_one : Command
insert_one = insert a day (id day now 0 ∷ [])

abbrev pub InsertsFillSegments : Type 0
InsertsFillSegments =
    ((rows : List SegmentRow) → length rows ≡ 262143 → answer (with_segments rows) insert_one ≡ Replies.Insert 0)
    × ((rows : List SegmentRow) → length rows ≡ 262144 → answer (with_segments rows) insert_one ≡ table_full Tables.Segments)

-- ---- chunks, none of them of the lock's version there

abbrev pub with_chunks : List ChunkRow → Book
with_chunks cs = record (after (inserting day)) { chunks = cs }

abbrev pub InsertsFillChunks : Type 0
InsertsFillChunks =
    (cs : List ChunkRow) → version_overlaps cs w day now ≡ false → length cs ≡ 262144 → answer (with_chunks cs) insert_one ≡ table_full Tables.Chunks

-- ---- pendings, by a replace that copies one of them

abbrev pub with_pendings : List PendingRow → Book
with_pendings ps = record (after replacing_day) { pendings = ps }

abbrev pub one_pending : PendingRow
one_pending = pending_row_of (hour_id 0) (hour_id 0) 2 s

-- no pending reaches out of the day, and one lies within it
abbrev pub OneIsCopied : List PendingRow → Type 0
OneIsCopied ps = (root_fault ps w (day ∷ []) ≡ None) × (filter (is_copied w day) ps ≡ one_pending ∷ [])

abbrev pub ReplacesFillPendings : Type 0
ReplacesFillPendings =
    ((ps : List PendingRow) → OneIsCopied ps → length ps ≡ 262143 → answer (with_pendings ps) replace_day ≡ Replies.Replace 0)
    × ((ps : List PendingRow) → OneIsCopied ps → length ps ≡ 262144 → answer (with_pendings ps) replace_day ≡ table_full Tables.Pendings)

-- ---- upgrade rows, by an append

abbrev pub with_upgrades : List UpgradeRow → Book
with_upgrades us = record (after (both ++ alloc_hour p s ∷ lock r LockKinds.Replace day ∷ [])) { upgrades = us }

abbrev pub append_one : Command
append_one = append p (hour_id 0 ∷ [])

abbrev pub AppendsFillUpgradeRows : Type 0
AppendsFillUpgradeRows =
    ((us : List UpgradeRow) → length us ≡ 262143 → answer (with_upgrades us) append_one ≡ Replies.Append 0)
    × ((us : List UpgradeRow) → length us ≡ 262144 → answer (with_upgrades us) append_one ≡ table_full Tables.Upgrades)

-- ---- supervisors, none of them of this source

abbrev pub with_supervisors : List SupervisorRow → Book
with_supervisors ss = record empty_book { supervisors = ss }

abbrev pub OneMoreSupervisor : Type 0
OneMoreSupervisor =
    ((ss : List SupervisorRow) → supervisor_of w ss ≡ None → length ss ≡ 262143 → answer (with_supervisors ss) (supervise_one 1) ≡ Replies.Supervise w)
    × ((ss : List SupervisorRow) → supervisor_of w ss ≡ None → length ss ≡ 262144 → answer (with_supervisors ss) (supervise_one 1) ≡ table_full Tables.Supervisors)

-- ---- tasks, by a tick that opens a sequence

abbrev pub with_task_rows : List TaskRow → Book
with_task_rows ts = record (after (supervise_one 1 ∷ [])) { tasks = ts }

abbrev pub TicksFillTasks : Type 0
TicksFillTasks =
    ((ts : List TaskRow) → length ts ≡ 262143 → answer (with_task_rows ts) (Commands.Tick now) ≡ Replies.Tick [] (first_sequence ∷ []) [])
    × ((ts : List TaskRow) → length ts ≡ 262144 → answer (with_task_rows ts) (Commands.Tick now) ≡ table_full Tables.Tasks)

-- ---- sequences, all of other sources

abbrev pub with_sequences : List SequenceRow → Book
with_sequences us = record (after (supervise_one 1 ∷ [])) { sequences = us }

abbrev pub AreOfOthers : List SequenceRow → Type 0
AreOfOthers us = list_all (λ u. not (bytes_eq u.source w)) us ≡ true

abbrev pub TicksFillSequences : Type 0
TicksFillSequences =
    ((us : List SequenceRow) → AreOfOthers us → length us ≡ 262143 → answer (with_sequences us) (Commands.Tick now) ≡ Replies.Tick [] (first_sequence ∷ []) [])
    × ((us : List SequenceRow) → AreOfOthers us → length us ≡ 262144 → answer (with_sequences us) (Commands.Tick now) ≡ table_full Tables.Sequences)

-- ---- offsets, by a reset that would leave so many; publications are told first

abbrev pub with_rows : List Publication → List OffsetRow → Book
with_rows ms rows = record empty_book { publications = ms; offsets = rows }

abbrev pub ResetsFillOffsets : Type 0
ResetsFillOffsets =
    ((rows : List OffsetRow) → length (reset_to rows w t (point 0 5 ∷ [])) ≡ 262144 → answer (with_rows [] rows) reset_five ≡ Replies.Reset 0)
    × ((rows : List OffsetRow) → length (reset_to rows w t (point 0 5 ∷ [])) ≡ 262145 → answer (with_rows [] rows) reset_five ≡ table_full Tables.Offsets)
    × ((ms : List Publication) (rows : List OffsetRow) → length ms ≡ 262144 → answer (with_rows ms rows) reset_five ≡ table_full Tables.Publications)

-- ---- the next part of a chunk goes to 1,000,000, and the number of a lock to 9,007,199,254,740,991

abbrev pub with_next : ℕ → Book
with_next part = record (after (start p TaskKinds.Realtime ++ alloc_hour p s ∷ [])) { chunks = chunk_row hour v0 0 part ∷ [] }

abbrev pub with_number : ℕ → Book
with_number number = record (after (start a TaskKinds.Batch)) { next_lock = number }

abbrev pub LastPartAndNumber : Type 0
LastPartAndNumber =
    (answer (with_next 999999) (alloc_hour p s2) ≡ Replies.Allocate (hour_id 999999) 1 [])
    × (answer (with_next 1000000) (alloc_hour p s2) ≡ table_full Tables.Parts)
    × (answer (with_number 9007199254740991) (lock a LockKinds.Exclusive day) ≡ Replies.Lock 9007199254740991 [] day now)
    × (answer (with_number 9007199254740992) (lock a LockKinds.Exclusive day) ≡ table_full Tables.Numbers)
