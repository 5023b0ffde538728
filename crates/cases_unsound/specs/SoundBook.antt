-- A sound book with rows in each table: two tasks that append and replace, a source with a tombstone, and a supervisor's sequences.
use Rattle.std.specs.Prelude.{List, None, Some, [], false, pos, true, ℕ, ◌∷◌, ◌≡◌}
use Rattle.seg_names.specs.declared.seg_id.SegId.{SegId}
use Rattle.book_rows.specs.declared.kinds.PubKind.TheVariants as PubKinds
use Rattle.book_rows.specs.declared.kinds.SeqState.TheVariants as States
use Rattle.book_rows.specs.declared.kinds.TaskStatus.TheVariants as Statuses
use Rattle.book_rows.specs.declared.rows.Book.{Book}
use Rattle.book_rows.specs.declared.rows.ChunkRow.{ChunkRow}
use Rattle.book_rows.specs.declared.rows.OffsetRow.{OffsetRow}
use Rattle.book_rows.specs.declared.rows.PendingRow.{PendingRow}
use Rattle.book_rows.specs.declared.rows.PosseRow.{PosseRow}
use Rattle.book_rows.specs.declared.rows.Publication.{Publication}
use Rattle.book_rows.specs.declared.rows.SegmentRow.{SegmentRow}
use Rattle.book_rows.specs.declared.rows.SequenceRow.{SequenceRow}
use Rattle.book_rows.specs.declared.rows.SupervisorRow.{SupervisorRow}
use Rattle.book_rows.specs.declared.rows.TaskRow.{TaskRow}
use Rattle.book_rows.specs.declared.rows.UpgradeRow.{UpgradeRow}
use Rattle.scenes.specs.Publishing.{foreign_id, hour_id, pending_row_of, range, ranges, tomb_row_of, upgrade_row_of}
use Rattle.scenes.specs.Script.{day, hour, now, p, s, t, v, v0, w, x}
use Rattle.scenes.specs.Rows.{p_lock, p_row, r_lock, r_row}
use Rattle.scenes.specs.Supervising.{at_offset, first_sequence, r000, r010, second_sequence}
use Rattle.laws_unsound.specs.Unsound.{Rule, first_unsound}

-- ---- tasks: rows 0 to 3

-- the replica of the published sequence has ended, the other runs
abbrev pub ended_replica : TaskRow
ended_replica = record p_row { task = r000; group = first_sequence; status = Statuses.Success }

abbrev pub running_replica : TaskRow
running_replica = record p_row { task = r010; group = second_sequence }

abbrev pub the_tasks : List TaskRow
the_tasks = p_row ∷ r_row ∷ ended_replica ∷ running_replica ∷ []

-- ---- locks: rows 4 and 5

abbrev pub the_locks : List PosseRow
the_locks = p_lock ∷ r_lock ∷ []

-- ---- chunks: rows 6 and 7

abbrev pub hour_chunk : ChunkRow
hour_chunk = record { source = w; span = hour; version = v0; core = 0; next = 3 }

-- a tombstone hides the day of the other source
abbrev pub tomb_chunk : ChunkRow
tomb_chunk = record { source = v; span = day; version = now; core = 1; next = 1 }

abbrev pub the_chunks : List ChunkRow
the_chunks = hour_chunk ∷ tomb_chunk ∷ []

-- ---- segments: rows 8 to 10

abbrev pub used_row : SegId → ℕ → SegmentRow
used_row name commit = record { id = name; used = true; root = name; commit = commit; tombstone = false }

abbrev pub tomb : SegmentRow
tomb = tomb_row_of (foreign_id day) 2

abbrev pub the_segments : List SegmentRow
the_segments = used_row (hour_id 0) 0 ∷ used_row (hour_id 1) 1 ∷ tomb ∷ []

-- ---- a pending: row 11, and an upgrade row: row 12

abbrev pub the_pending : PendingRow
the_pending = pending_row_of (hour_id 2) (hour_id 2) 1 s

abbrev pub the_upgrade : UpgradeRow
the_upgrade = upgrade_row_of 2 (hour_id 1)

-- ---- publications: rows 13 to 16

abbrev pub appended : SegId → Publication
appended name = record { kind = PubKinds.Append; group = p; source = w; spans = []; adds = name ∷ []; empties = []; ranges = None }

abbrev pub emptied : Publication
emptied = record { kind = PubKinds.Over; group = x; source = v; spans = record { span = day; since = 0 } ∷ []; adds = []; empties = foreign_id day ∷ []; ranges = None }

abbrev pub read : Publication
read = record (appended (hour_id 0)) { group = first_sequence; adds = []; ranges = ranges (range 0 0 10 ∷ []) }

abbrev pub the_publications : List Publication
the_publications = appended (hour_id 0) ∷ appended (hour_id 1) ∷ emptied ∷ read ∷ []

-- ---- an offset: row 17, a supervisor: row 18, and its sequences: rows 19 and 20

abbrev pub the_offset : OffsetRow
the_offset = record { source = w; stream = t; partition = 0; offset = 10 }

abbrev pub the_supervisor : SupervisorRow
the_supervisor = record { source = w; stream = t; partitions = 1; task_count = 1; replicas = 1; duration = pos 3600000; timeout = pos 1800000 }

abbrev pub published : SequenceRow
published = record {
  source = w;
  group = 0;
  index = 0;
  state = States.Published;
  opened = now;
  closed = now;
  starts = at_offset 0;
  ends = at_offset 10;
  live = [];
  reports = record { task = r000; offsets = at_offset 10 } ∷ [];
}

abbrev pub reading : SequenceRow
reading = record { source = w; group = 0; index = 1; state = States.Reading; opened = now; closed = pos 0; starts = at_offset 10; ends = []; live = r010 ∷ []; reports = [] }

abbrev pub the_sequences : List SequenceRow
the_sequences = published ∷ reading ∷ []

-- ---- the book

abbrev pub book : Book
book = record {
  clock = now;
  last = now;
  next_lock = 3;
  tasks = the_tasks;
  posses = the_locks;
  chunks = the_chunks;
  segments = the_segments;
  pendings = the_pending ∷ [];
  upgrades = the_upgrade ∷ [];
  publications = the_publications;
  offsets = the_offset ∷ [];
  supervisors = the_supervisor ∷ [];
  sequences = the_sequences;
}

-- the first rule that the book breaks is this, in this row
abbrev pub Breaks : Book → Rule → ℕ → Type 0
Breaks b rule row = first_unsound b ≡ Some (record { rule = rule; row = row })

-- it breaks none
abbrev pub BreaksNone : Book → Type 0
BreaksNone b = first_unsound b ≡ None

abbrev pub OneOfEach : Type 0
OneOfEach = BreaksNone book
