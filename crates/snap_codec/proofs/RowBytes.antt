-- Rows read as they are written.
use Rattle.std.proofs.Common.{◌≡◌, ℕ, false, List, [], Option, refl, ap}
use Rattle.seg_names.specs.declared.seg_id.SegId.{SegId}
use Rattle.book_rows.specs.declared.kinds.PubKind.{PubKind}
use Rattle.book_rows.specs.declared.rows.Publication.{Publication}
use Rattle.book_rows.specs.declared.rows.Ranges.{Ranges}
use Rattle.book_rows.specs.declared.rows.SegmentRow.{SegmentRow}
use Rattle.book_rows.specs.declared.rows.SpanSince.{SpanSince}
use Rattle.snap_codec.specs.declared.marks.Mark.{Mark}
use Rattle.snap_codec.specs.Fields.{has_empties, mark_of}
use Rattle.snap_codec.specs.Rows.{task_field, posse_field, chunk_field, segment_field, pending_field, upgrade_field, publication_field, offset_row_field, supervisor_field, sequence_field}
use Rattle.snap_codec.specs.Fits.{FitsLong, FitsOption, FitsId, FitsRanges, FitsTask, FitsPosse, FitsChunk, FitsSegment, FitsPending, FitsUpgrade, FitsFront, FitsOffsetRow, FitsSupervisor, FitsSequence, IsWritten}
use Rattle.snap_codec.specs.Grammar.{kind_of_mark, segment_row_by, publication_by, task_row_at, posse_row_at, chunk_row_at, segment_row_at, pending_row_at, upgrade_row_at, publication_at, offset_row_at, supervisor_row_at, sequence_row_at}
use Rattle.snap_codec.specs.Earlier.{earlier_flags_of, earlier_mark_of}
use Rattle.snap_codec.proofs.Spells.{Spells, chosen, both, always, made, row}
use Rattle.snap_codec.proofs.SingleFields.{a_short, a_long, an_int, a_name, a_task, a_kind, a_lock_kind, a_status, a_state, a_bool}
use Rattle.snap_codec.proofs.Combined.{a_list, an_option}
use Rattle.snap_codec.proofs.ValueBytes.{a_span, an_id, a_want, an_offset, ranges, a_span_since, a_report}
use Rattle.snap_codec.proofs.MarkBytes.{a_flag, an_earlier_flag, a_mark, an_earlier_mark, empties, follows, kind_again, marked, none_follow, follow_none}

pub a_task_row : Spells task_field FitsTask task_row_at
a_task_row =
    row _ (λ t. (t.task, (t.group, (t.source, (t.kind, (t.priority, (t.status, t.wants))))))) (λ t. refl) (λ v. refl)
    (both a_task (both a_task (both a_name (always a_kind (both a_short (always a_status (a_list a_want)))))))

pub a_posse_row : Spells posse_field FitsPosse posse_row_at
a_posse_row =
    row _ (λ p. (p.number, (p.lock_kind, (p.group, (p.source, (p.span, (p.version, (p.priority, (p.members, (p.revoked, p.since)))))))))) (λ p. refl) (λ v. refl)
    (both a_long (always a_lock_kind (both a_task (both a_name (both a_span (both an_int (both a_short (both (a_list a_task) (always a_bool a_long)))))))))

pub a_chunk_row : Spells chunk_field FitsChunk chunk_row_at
a_chunk_row = row _ (λ c. (c.source, (c.span, (c.version, (c.core, c.next))))) (λ c. refl) (λ v. refl) (both a_name (both a_span (both an_int (both a_short a_short))))

pub a_segment_row : Spells segment_field FitsSegment segment_row_at
a_segment_row =
    row _ (λ r. (r.id, (record { used = r.used; tombstone = r.tombstone }, (r.root, r.commit)))) (λ r. refl) (λ v. refl)
    (both an_id (always a_flag (both an_id a_long)))

-- a segment that isn't a tombstone
abbrev pub IsEarlierSegment : SegmentRow → Type 0
IsEarlierSegment r = FitsId r.id × ((r.tombstone ≡ false) × (FitsId r.root × FitsLong r.commit))

pub an_earlier_segment_row : Spells segment_field IsEarlierSegment (segment_row_by earlier_flags_of)
an_earlier_segment_row =
    row _ (λ r. (r.id, (record { used = r.used; tombstone = r.tombstone }, (r.root, r.commit)))) (λ r. refl) (λ v. refl)
    (both an_id (both an_earlier_flag (both an_id a_long)))

pub a_pending_row : Spells pending_field FitsPending pending_row_at
a_pending_row = row _ (λ p. (p.id, (p.root, (p.posse, (p.sequence, p.previous))))) (λ p. refl) (λ v. refl) (both an_id (both an_id (both a_long (both a_name (an_option an_id)))))

pub an_upgrade_row : Spells upgrade_field FitsUpgrade upgrade_row_at
an_upgrade_row = row _ (λ u. (u.posse, u.root)) (λ u. refl) (λ v. refl) (both a_long an_id)

pub an_offset_row : Spells offset_row_field FitsOffsetRow offset_row_at
an_offset_row = row _ (λ r. (r.source, (r.stream, (r.partition, r.offset)))) (λ r. refl) (λ v. refl) (both a_name (both a_name (both a_short a_long)))

pub a_supervisor_row : Spells supervisor_field FitsSupervisor supervisor_row_at
a_supervisor_row =
    row _ (λ s. (s.source, (s.stream, (s.partitions, (s.task_count, (s.replicas, (s.duration, s.timeout))))))) (λ s. refl) (λ v. refl)
    (both a_name (both a_name (both a_short (both a_short (both a_short (both an_int an_int))))))

pub a_sequence_row : Spells sequence_field FitsSequence sequence_row_at
a_sequence_row =
    row _ (λ u. (u.source, (u.group, (u.index, (u.state, (u.opened, (u.closed, (u.starts, (u.ends, (u.live, u.reports)))))))))) (λ u. refl) (λ v. refl)
    (both a_name (both a_short (both a_short (always a_state (both an_int (both an_int (both (a_list an_offset) (both (a_list an_offset) (both (a_list a_task) (a_list a_report))))))))))

-- ---- publications

abbrev Front : Type 0
Front = Mark × (List ℕ × (List ℕ × (List SpanSince × List SegId)))

abbrev Parts : Type 0
Parts = Front × (List SegId × Option Ranges)

abbrev make : Parts → Publication
make v = record { kind = kind_of_mark v.0.0; group = v.0.1.0; source = v.0.1.1.0; spans = v.0.1.1.1.0; adds = v.0.1.1.1.1; empties = v.1.0; ranges = v.1.1 }

abbrev parts : Publication → Parts
parts m = ((mark_of m.kind m.empties, (m.group, (m.source, (m.spans, m.adds)))), (m.empties, m.ranges))

abbrev of_kind : Publication → PubKind → Publication
of_kind m kind = record { kind = kind; group = m.group; source = m.source; spans = m.spans; adds = m.adds; empties = m.empties; ranges = m.ranges }

made_again : (m : Publication) → make (parts m) ≡ m
made_again m = ap (of_kind m) (kind_again m.kind m.empties)

pub a_publication : Spells publication_field IsWritten publication_at
a_publication =
    made IsWritten make parts
    (λ m h. (h.0.0, (follows m.kind m.empties h.0.1.0 h.1, h.0.1.1)))
    (λ v h. let k = marked v.0.0 v.1.0 h.1.0 in ((h.0, (k.fits, h.1.1)), k.may))
    made_again
    (λ v h. ap (λ (m : Mark). ((m, v.0.1), v.1)) (marked v.0.0 v.1.0 h.1.0).same)
    (chosen (always a_mark (both a_task (both a_name (both (a_list a_span_since) (a_list an_id))))) (λ front. both (empties (has_empties front.0)) (an_option ranges)))

-- a publication without tombstones
abbrev pub IsEarlierPublication : Publication → Type 0
IsEarlierPublication m = FitsFront m × ((m.empties ≡ []) × FitsOption FitsRanges m.ranges)

pub an_earlier_publication : Spells publication_field IsEarlierPublication (publication_by earlier_mark_of)
an_earlier_publication =
    made IsEarlierPublication make parts
    (λ m h. let k = none_follow m.kind m.empties h.1.0 in ((k.0, h.0), (k.1, h.1.1)))
    (λ v h. (h.0.1, (follow_none (has_empties v.0.0) v.1.0 h.0.0 h.1.0, h.1.1)))
    made_again
    (λ v h. ap (λ (m : Mark). ((m, v.0.1), v.1)) (marked v.0.0 v.1.0 h.1.0).same)
    (chosen (both an_earlier_mark (both a_task (both a_name (both (a_list a_span_since) (a_list an_id))))) (λ front. both (empties (has_empties front.0)) (an_option ranges)))
