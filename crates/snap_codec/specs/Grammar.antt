-- The grammar of snapshots: what each row and the book are read of.
use Rattle.std.specs.Prelude.{ℕ, ℤ, Bool, true, false, List, [], Option, Some, None, Ok, ◌==◌, int_lt, not, if◌then◌else◌}
use Rattle.iv_span.specs.Extent.{Extent}
use Rattle.seg_names.specs.declared.seg_id.SegId.{SegId}
use Rattle.seg_names.specs.Names.{is_name, is_task_id}
use Rattle.wire_fields.specs.Fields.{signed_at, text_at}
use Rattle.book_rows.specs.Lists.{is_empty}
use Rattle.book_rows.specs.declared.kinds.PubKind.{PubKind}
use Rattle.book_rows.specs.declared.kinds.PubKind.TheVariants as kind
use Rattle.book_rows.specs.declared.kinds.SeqState.{SeqState}
use Rattle.book_rows.specs.declared.kinds.SeqState.TheVariants.{Reading, Paused, Closed, Published, Abandoned}
use Rattle.book_rows.specs.declared.rows.Book.{Book}
use Rattle.book_rows.specs.declared.rows.ChunkRow.{ChunkRow}
use Rattle.book_rows.specs.declared.rows.Offset.{Offset}
use Rattle.book_rows.specs.declared.rows.OffsetRow.{OffsetRow}
use Rattle.book_rows.specs.declared.rows.PendingRow.{PendingRow}
use Rattle.book_rows.specs.declared.rows.PosseRow.{PosseRow}
use Rattle.book_rows.specs.declared.rows.Publication.{Publication}
use Rattle.book_rows.specs.declared.rows.Range.{Range}
use Rattle.book_rows.specs.declared.rows.Ranges.{Ranges}
use Rattle.book_rows.specs.declared.rows.Report.{Report}
use Rattle.book_rows.specs.declared.rows.SegmentRow.{SegmentRow}
use Rattle.book_rows.specs.declared.rows.SequenceRow.{SequenceRow}
use Rattle.book_rows.specs.declared.rows.SpanSince.{SpanSince}
use Rattle.book_rows.specs.declared.rows.SupervisorRow.{SupervisorRow}
use Rattle.book_rows.specs.declared.rows.TaskRow.{TaskRow}
use Rattle.book_rows.specs.declared.rows.UpgradeRow.{UpgradeRow}
use Rattle.book_rows.specs.declared.rows.Want.{Want}
use Rattle.cmd_codec.specs.Reading.{kind_of, lock_kind_of, status_of}
use Rattle.snap_codec.specs.declared.marks.Flags.{Flags}
use Rattle.snap_codec.specs.declared.marks.Mark.{Mark}
use Rattle.snap_codec.specs.declared.marks.Mark.TheVariants as mark
use Rattle.snap_codec.specs.Fields.{has_empties}
use Rattle.snap_codec.specs.Readers.{Reader, field_at, short_at, long_at, code_at, checked_at, bool_of, chosen_at, both_at, made_at, list_at, option_at}

-- ---- one field

abbrev pub name_at : Reader (List ℕ)
name_at = checked_at is_name (field_at text_at)

abbrev pub task_at : Reader (List ℕ)
task_at = checked_at is_task_id (field_at text_at)

abbrev pub int_at : Reader ℤ
int_at = field_at signed_at

abbrev pub state_of : ℕ → Option SeqState
state_of code = if code == 1 then Some Reading else (if code == 2 then Some Paused else (if code == 3 then Some Closed else (if code == 4 then Some Published else (if code == 5 then Some Abandoned else None))))

abbrev pub flags_of : ℕ → Option Flags
flags_of code = if code == 0 then Some (record { used = false; tombstone = false }) else (if code == 1 then Some (record { used = true; tombstone = false }) else (if code == 2 then Some (record { used = false; tombstone = true }) else (if code == 3 then Some (record { used = true; tombstone = true }) else None)))

abbrev pub publication_mark_of : ℕ → Option Mark
publication_mark_of code = if code == 1 then Some mark.Append else (if code == 2 then Some mark.Over else (if code == 3 then Some mark.Replace else (if code == 4 then Some mark.Drop else (if code == 5 then Some mark.Reset else (if code == 6 then Some mark.EmptyingOver else (if code == 7 then Some mark.EmptyingReplace else None))))))

-- ---- values of several fields

-- a span whose start isn't below its end doesn't read at its own start
abbrev pub span_at : Reader Extent
span_at = made_at (checked_at (λ v. int_lt v.0 v.1) (both_at int_at int_at)) (λ v. record { start = v.0; end = v.1 })

abbrev pub id_at : Reader SegId
id_at = made_at (both_at name_at (both_at span_at (both_at int_at short_at))) (λ v. record { source = v.0; span = v.1.0; version = v.1.1.0; part = v.1.1.1 })

abbrev pub want_at : Reader Want
want_at = made_at (both_at (code_at lock_kind_of) span_at) (λ v. record { lock_kind = v.0; span = v.1 })

abbrev pub offset_at : Reader Offset
offset_at = made_at (both_at short_at long_at) (λ v. record { partition = v.0; offset = v.1 })

abbrev pub range_at : Reader Range
range_at = made_at (both_at short_at (both_at long_at long_at)) (λ v. record { partition = v.0; start = v.1.0; end = v.1.1 })

abbrev pub ranges_at : Reader Ranges
ranges_at = made_at (both_at name_at (list_at range_at)) (λ v. record { stream = v.0; parts = v.1 })

abbrev pub span_since_at : Reader SpanSince
span_since_at = made_at (both_at span_at long_at) (λ v. record { span = v.0; since = v.1 })

abbrev pub report_at : Reader Report
report_at = made_at (both_at task_at (list_at offset_at)) (λ v. record { task = v.0; offsets = v.1 })

-- ---- rows

abbrev pub task_row_at : Reader TaskRow
task_row_at =
    made_at (both_at task_at (both_at task_at (both_at name_at (both_at (code_at kind_of) (both_at short_at (both_at (code_at status_of) (list_at want_at)))))))
    (λ v. record { task = v.0; group = v.1.0; source = v.1.1.0; kind = v.1.1.1.0; priority = v.1.1.1.1.0; status = v.1.1.1.1.1.0; wants = v.1.1.1.1.1.1 })

abbrev pub posse_row_at : Reader PosseRow
posse_row_at =
    made_at (both_at long_at (both_at (code_at lock_kind_of) (both_at task_at (both_at name_at (both_at span_at (both_at int_at (both_at short_at (both_at (list_at task_at) (both_at (code_at bool_of) long_at)))))))))
    (λ v. record { number = v.0; lock_kind = v.1.0; group = v.1.1.0; source = v.1.1.1.0; span = v.1.1.1.1.0; version = v.1.1.1.1.1.0; priority = v.1.1.1.1.1.1.0; members = v.1.1.1.1.1.1.1.0; revoked = v.1.1.1.1.1.1.1.1.0; since = v.1.1.1.1.1.1.1.1.1 })

abbrev pub chunk_row_at : Reader ChunkRow
chunk_row_at =
    made_at (both_at name_at (both_at span_at (both_at int_at (both_at short_at short_at))))
    (λ v. record { source = v.0; span = v.1.0; version = v.1.1.0; core = v.1.1.1.0; next = v.1.1.1.1 })

-- a segment, whose byte of flags is read so
abbrev pub segment_row_by : (ℕ → Option Flags) → Reader SegmentRow
segment_row_by flags =
    made_at (both_at id_at (both_at (code_at flags) (both_at id_at long_at)))
    (λ v. record { id = v.0; used = v.1.0.used; root = v.1.1.0; commit = v.1.1.1; tombstone = v.1.0.tombstone })

abbrev pub segment_row_at : Reader SegmentRow
segment_row_at = segment_row_by flags_of

abbrev pub pending_row_at : Reader PendingRow
pending_row_at =
    made_at (both_at id_at (both_at id_at (both_at long_at (both_at name_at (option_at id_at)))))
    (λ v. record { id = v.0; root = v.1.0; posse = v.1.1.0; sequence = v.1.1.1.0; previous = v.1.1.1.1 })

abbrev pub upgrade_row_at : Reader UpgradeRow
upgrade_row_at = made_at (both_at long_at id_at) (λ v. record { posse = v.0; root = v.1 })

-- at least one id: a count of 0 doesn't read
abbrev pub some_ids_at : Reader (List SegId)
some_ids_at = checked_at (λ ids. not (is_empty ids)) (list_at id_at)

-- the tombstones, if there are some
abbrev pub empties_at : Bool → Reader (List SegId)
empties_at true bytes = some_ids_at bytes
empties_at false bytes = Ok ([], bytes)

abbrev pub kind_of_mark : Mark → PubKind
kind_of_mark mark.Append = kind.Append
kind_of_mark mark.Over = kind.Over
kind_of_mark mark.Replace = kind.Replace
kind_of_mark mark.Drop = kind.Drop
kind_of_mark mark.Reset = kind.Reset
kind_of_mark mark.EmptyingOver = kind.Over
kind_of_mark mark.EmptyingReplace = kind.Replace

-- the mark, and what follows each of them
abbrev pub front_by : (ℕ → Option Mark) → Reader (Mark × (List ℕ × (List ℕ × (List SpanSince × List SegId))))
front_by marks = both_at (code_at marks) (both_at task_at (both_at name_at (both_at (list_at span_since_at) (list_at id_at))))

-- a publication, whose mark is read so
abbrev pub publication_by : (ℕ → Option Mark) → Reader Publication
publication_by marks =
    made_at (chosen_at (front_by marks) (λ front. both_at (empties_at (has_empties front.0)) (option_at ranges_at)))
    (λ v. record { kind = kind_of_mark v.0.0; group = v.0.1.0; source = v.0.1.1.0; spans = v.0.1.1.1.0; adds = v.0.1.1.1.1; empties = v.1.0; ranges = v.1.1 })

abbrev pub publication_at : Reader Publication
publication_at = publication_by publication_mark_of

abbrev pub offset_row_at : Reader OffsetRow
offset_row_at =
    made_at (both_at name_at (both_at name_at (both_at short_at long_at)))
    (λ v. record { source = v.0; stream = v.1.0; partition = v.1.1.0; offset = v.1.1.1 })

abbrev pub supervisor_row_at : Reader SupervisorRow
supervisor_row_at =
    made_at (both_at name_at (both_at name_at (both_at short_at (both_at short_at (both_at short_at (both_at int_at int_at))))))
    (λ v. record { source = v.0; stream = v.1.0; partitions = v.1.1.0; task_count = v.1.1.1.0; replicas = v.1.1.1.1.0; duration = v.1.1.1.1.1.0; timeout = v.1.1.1.1.1.1 })

abbrev pub sequence_row_at : Reader SequenceRow
sequence_row_at =
    made_at (both_at name_at (both_at short_at (both_at short_at (both_at (code_at state_of) (both_at int_at (both_at int_at (both_at (list_at offset_at) (both_at (list_at offset_at) (both_at (list_at task_at) (list_at report_at))))))))))
    (λ v. record { source = v.0; group = v.1.0; index = v.1.1.0; state = v.1.1.1.0; opened = v.1.1.1.1.0; closed = v.1.1.1.1.1.0; starts = v.1.1.1.1.1.1.0; ends = v.1.1.1.1.1.1.1.0; live = v.1.1.1.1.1.1.1.1.0; reports = v.1.1.1.1.1.1.1.1.1 })

-- ---- the book

abbrev pub Numbers : Type 0
Numbers = ℤ × (ℤ × ℕ)

abbrev pub Segments : Type 0
Segments = List TaskRow × (List PosseRow × (List ChunkRow × (List SegmentRow × (List PendingRow × List UpgradeRow))))

abbrev pub Streams : Type 0
Streams = List Publication × (List OffsetRow × (List SupervisorRow × List SequenceRow))

abbrev pub numbers_at : Reader Numbers
numbers_at = both_at int_at (both_at int_at long_at)

abbrev pub segments_by : Reader SegmentRow → Reader Segments
segments_by segment = both_at (list_at task_row_at) (both_at (list_at posse_row_at) (both_at (list_at chunk_row_at) (both_at (list_at segment) (both_at (list_at pending_row_at) (list_at upgrade_row_at)))))

abbrev pub streams_by : Reader Publication → Reader Streams
streams_by publication = both_at (list_at publication) (both_at (list_at offset_row_at) (both_at (list_at supervisor_row_at) (list_at sequence_row_at)))

-- a book, whose segments and publications are read so
abbrev pub book_by : Reader SegmentRow → Reader Publication → Reader Book
book_by segment publication =
    made_at (both_at numbers_at (both_at (segments_by segment) (streams_by publication)))
    (λ v. record {
      clock = v.0.0;
      last = v.0.1.0;
      next_lock = v.0.1.1;
      tasks = v.1.0.0;
      posses = v.1.0.1.0;
      chunks = v.1.0.1.1.0;
      segments = v.1.0.1.1.1.0;
      pendings = v.1.0.1.1.1.1.0;
      upgrades = v.1.0.1.1.1.1.1;
      publications = v.1.1.0;
      offsets = v.1.1.1.0;
      supervisors = v.1.1.1.1.0;
      sequences = v.1.1.1.1.1;
    })

abbrev pub book_at : Reader Book
book_at = book_by segment_row_at publication_at
