-- The bytes of rows and of the book: the fields in their order.
use Rattle.std.specs.Prelude.{ℕ, List, ◌∷◌, ◌++◌}
use Rattle.wire_fields.specs.Fields.{text_field}
use Rattle.book_rows.specs.declared.rows.Book.{Book}
use Rattle.book_rows.specs.declared.rows.ChunkRow.{ChunkRow}
use Rattle.book_rows.specs.declared.rows.OffsetRow.{OffsetRow}
use Rattle.book_rows.specs.declared.rows.PendingRow.{PendingRow}
use Rattle.book_rows.specs.declared.rows.PosseRow.{PosseRow}
use Rattle.book_rows.specs.declared.rows.Publication.{Publication}
use Rattle.book_rows.specs.declared.rows.SegmentRow.{SegmentRow}
use Rattle.book_rows.specs.declared.rows.SequenceRow.{SequenceRow}
use Rattle.book_rows.specs.declared.rows.SupervisorRow.{SupervisorRow}
use Rattle.book_rows.specs.declared.rows.TaskRow.{TaskRow}
use Rattle.book_rows.specs.declared.rows.UpgradeRow.{UpgradeRow}
use Rattle.cmd_codec.specs.Fields.{kind_code, lock_kind_code, status_code, short, signed, span_field, id_field, want_field, offset_field, option_field}
use Rattle.snap_codec.specs.Fields.{long, bool_code, state_code, flags_code_by, mark_code, mark_of, has_empties, list_field, empties_field, ranges_field, span_since_field, report_field}

abbrev pub task_field : TaskRow → List ℕ
task_field t = text_field t.task ++ (text_field t.group ++ (text_field t.source ++ (kind_code t.kind ∷ (short t.priority ++ (status_code t.status ∷ list_field want_field t.wants)))))

abbrev pub posse_field : PosseRow → List ℕ
posse_field p = long p.number ++ (lock_kind_code p.lock_kind ∷ (text_field p.group ++ (text_field p.source ++ (span_field p.span ++ (signed p.version ++ (short p.priority ++ (list_field text_field p.members ++ (bool_code p.revoked ∷ long p.since))))))))

abbrev pub chunk_field : ChunkRow → List ℕ
chunk_field c = text_field c.source ++ (span_field c.span ++ (signed c.version ++ (short c.core ++ short c.next)))

abbrev pub segment_field : SegmentRow → List ℕ
segment_field r = id_field r.id ++ (flags_code_by r.used r.tombstone ∷ (id_field r.root ++ long r.commit))

abbrev pub pending_field : PendingRow → List ℕ
pending_field p = id_field p.id ++ (id_field p.root ++ (long p.posse ++ (text_field p.sequence ++ option_field id_field p.previous)))

abbrev pub upgrade_field : UpgradeRow → List ℕ
upgrade_field u = long u.posse ++ id_field u.root

-- the mark, and the values that follow each mark
abbrev pub publication_front : Publication → List ℕ
publication_front m = mark_code (mark_of m.kind m.empties) ∷ (text_field m.group ++ (text_field m.source ++ (list_field span_since_field m.spans ++ list_field id_field m.adds)))

abbrev pub publication_field : Publication → List ℕ
publication_field m = publication_front m ++ (empties_field (has_empties (mark_of m.kind m.empties)) m.empties ++ option_field ranges_field m.ranges)

abbrev pub offset_row_field : OffsetRow → List ℕ
offset_row_field r = text_field r.source ++ (text_field r.stream ++ (short r.partition ++ long r.offset))

abbrev pub supervisor_field : SupervisorRow → List ℕ
supervisor_field s = text_field s.source ++ (text_field s.stream ++ (short s.partitions ++ (short s.task_count ++ (short s.replicas ++ (signed s.duration ++ signed s.timeout)))))

abbrev pub sequence_field : SequenceRow → List ℕ
sequence_field u = text_field u.source ++ (short u.group ++ (short u.index ++ (state_code u.state ∷ (signed u.opened ++ (signed u.closed ++ (list_field offset_field u.starts ++ (list_field offset_field u.ends ++ (list_field text_field u.live ++ list_field report_field u.reports))))))))

abbrev pub numbers_of_book : Book → List ℕ
numbers_of_book b = signed b.clock ++ (signed b.last ++ long b.next_lock)

-- the tables of tasks, locks and segments
abbrev pub segments_of_book : Book → List ℕ
segments_of_book b = list_field task_field b.tasks ++ (list_field posse_field b.posses ++ (list_field chunk_field b.chunks ++ (list_field segment_field b.segments ++ (list_field pending_field b.pendings ++ list_field upgrade_field b.upgrades))))

-- the tables of publications, offsets and supervisors
abbrev pub streams_of_book : Book → List ℕ
streams_of_book b = list_field publication_field b.publications ++ (list_field offset_row_field b.offsets ++ (list_field supervisor_field b.supervisors ++ list_field sequence_field b.sequences))

-- The bytes of a book: three numbers, and its ten tables.
abbrev pub book_field : Book → List ℕ
book_field b = numbers_of_book b ++ (segments_of_book b ++ streams_of_book b)
