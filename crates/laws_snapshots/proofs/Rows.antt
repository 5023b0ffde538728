-- Rows within their limits fit their fields.
use Rattle.std.proofs.Common.{◌≡◌, ◌<◌, ℕ, ◌&&◌, Bool, true, false, List, [], ◌∷◌, Option, Some, None, arith, length, nat_le}
use Rattle.std.specs.List.{AllByRecursion, list_all}
use Rattle.std.proofs.lemmas.Bool.{and_parts}
use Rattle.iv_time.specs.Durations.{is_duration}
use Rattle.iv_time.specs.Range.{is_instant}
use Rattle.seg_names.specs.Names.{is_between, is_name, is_task_id}
use Rattle.seg_names.specs.declared.seg_id.SegId.{SegId}
use Rattle.book_rows.specs.Form.{are_offsets, are_parts, is_few, is_id, is_offset, is_optional_id, is_range, is_want, item_limit, offset_limit, partition_limit, priority_limit, replica_limit, want_limit}
use Rattle.book_rows.specs.Shape.{are_row_ranges, is_chunk_row, is_offset_row, is_pending_row, is_posse_row, is_publication_row, is_report, is_segment_row, is_supervisor_row, is_task_row, is_upgrade_row}
use Rattle.book_rows.specs.Spans.{is_span}
use Rattle.book_rows.specs.declared.rows.ChunkRow.{ChunkRow}
use Rattle.book_rows.specs.declared.rows.Offset.{Offset}
use Rattle.book_rows.specs.declared.rows.OffsetRow.{OffsetRow}
use Rattle.book_rows.specs.declared.rows.PendingRow.{PendingRow}
use Rattle.book_rows.specs.declared.rows.PosseRow.{PosseRow}
use Rattle.book_rows.specs.declared.rows.Publication.{Publication}
use Rattle.book_rows.specs.declared.rows.Range.{Range}
use Rattle.book_rows.specs.declared.rows.Ranges.{Ranges}
use Rattle.book_rows.specs.declared.rows.Report.{Report}
use Rattle.book_rows.specs.declared.rows.SegmentRow.{SegmentRow}
use Rattle.book_rows.specs.declared.rows.SpanSince.{SpanSince}
use Rattle.book_rows.specs.declared.rows.SupervisorRow.{SupervisorRow}
use Rattle.book_rows.specs.declared.rows.TaskRow.{TaskRow}
use Rattle.book_rows.specs.declared.rows.UpgradeRow.{UpgradeRow}
use Rattle.book_rows.specs.declared.rows.Want.{Want}
use Rattle.snap_codec.specs.Fields.{mark_of, has_empties}
use Rattle.snap_codec.specs.Fits.{FitsChunk, FitsEmpties, FitsId, FitsList, FitsLong, FitsOffset, FitsOffsetRow, FitsOption, FitsPending, FitsPosse, FitsPublication, FitsRange, FitsRanges, FitsReport, FitsSegment, FitsShort, FitsSpanSince, FitsSupervisor, FitsTask, FitsUpgrade, FitsWant, IsTask}
use Rattle.laws_snapshots.proofs.Numbers.{short_upto, long_upto, instant_fits, duration_fits, span_fits, each_fits, few_fit}

-- ---- values

pub id_fits : (a : SegId) → is_id a ≡ true → FitsId a
id_fits a h =
    let part = and_parts _ (nat_le a.part 4294967295) h in
    let version = and_parts _ (is_instant a.version) part.0 in
    let span = and_parts (is_name a.source) (is_span a.span) version.0 in
    (span.0, (span_fits a.span span.1, (instant_fits a.version version.1, short_upto 4294967295 a.part (omega arith) part.1)))

want_fits : (x : Want) → is_want x ≡ true → FitsWant x
want_fits x h = span_fits x.span h

offset_fits : (o : Offset) → is_offset o ≡ true → FitsOffset o
offset_fits o h =
    let both = and_parts (nat_le o.partition partition_limit) (nat_le o.offset offset_limit) h in
    (short_upto 2147483647 o.partition (omega arith) both.0, long_upto 9223372036854775807 o.offset (omega arith) both.1)

range_fits : (r : Range) → is_range r ≡ true → FitsRange r
range_fits r h =
    let end = and_parts _ (nat_le r.end offset_limit) h in
    let start = and_parts (nat_le r.partition partition_limit) (nat_le r.start offset_limit) end.0 in
    (short_upto 2147483647 r.partition (omega arith) start.0, (long_upto 9223372036854775807 r.start (omega arith) start.1, long_upto 9223372036854775807 r.end (omega arith) end.1))

pub offsets_fit : (os : List Offset) → are_offsets os ≡ true → FitsList FitsOffset os
offsets_fit os h =
    let order = and_parts (is_few os && list_all is_offset os) _ h in
    let both = and_parts (is_few os) (list_all is_offset os) order.0 in
    few_fit is_offset FitsOffset offset_fits 4096 (omega arith) os both.0 both.1

parts_fit : (rs : List Range) → are_parts rs ≡ true → FitsList FitsRange rs
parts_fit rs h =
    let order = and_parts (is_few rs && list_all is_range rs) _ h in
    let both = and_parts (is_few rs) (list_all is_range rs) order.0 in
    few_fit is_range FitsRange range_fits 4096 (omega arith) rs both.0 both.1

ranges_fit : (o : Option Ranges) → are_row_ranges o ≡ true → FitsOption FitsRanges o
ranges_fit None h = tt
ranges_fit (Some r) h = let both = and_parts (is_name r.stream) (are_parts r.parts) h in (both.0, parts_fit r.parts both.1)

previous_fits : (o : Option SegId) → is_optional_id o ≡ true → FitsOption FitsId o
previous_fits None h = tt
previous_fits (Some a) h = id_fits a h

pub report_fits : (r : Report) → is_report r ≡ true → FitsReport r
report_fits r h = let both = and_parts (is_task_id r.task) (are_offsets r.offsets) h in (both.0, offsets_fit r.offsets both.1)

-- ---- rows

pub task_fits : (t : TaskRow) → is_task_row t ≡ true → FitsTask t
task_fits t h =
    let wants = and_parts _ (list_all is_want t.wants) h in
    let few = and_parts _ (nat_le (length t.wants) want_limit) wants.0 in
    let priority = and_parts _ (nat_le t.priority priority_limit) few.0 in
    let source = and_parts (is_task_id t.task && is_task_id t.group) (is_name t.source) priority.0 in
    let ids = and_parts (is_task_id t.task) (is_task_id t.group) source.0 in
    (ids.0, (ids.1, (source.1, (short_upto 1000000 t.priority (omega arith) priority.1, few_fit is_want FitsWant want_fits 64 (omega arith) t.wants few.1 wants.1))))

-- a lock's number, its members' count and its commits are known by the rows of others
pub posse_fits : (p : PosseRow) → is_posse_row p ≡ true → FitsLong p.number → FitsShort (length p.members) → FitsLong p.since → FitsPosse p
posse_fits p h number few since =
    let members = and_parts _ (list_all is_task_id p.members) h in
    let priority = and_parts _ (nat_le p.priority priority_limit) members.0 in
    let version = and_parts _ (is_instant p.version) priority.0 in
    let span = and_parts (is_task_id p.group && is_name p.source) (is_span p.span) version.0 in
    let texts = and_parts (is_task_id p.group) (is_name p.source) span.0 in
    (number, (texts.0, (texts.1, (span_fits p.span span.1, (instant_fits p.version version.1, (short_upto 1000000 p.priority (omega arith) priority.1, ((few, each_fits is_task_id IsTask (λ t e. e) p.members members.1), since)))))))

pub chunk_fits : (c : ChunkRow) → is_chunk_row c ≡ true → FitsShort c.core → FitsShort c.next → FitsChunk c
chunk_fits c h core next =
    let version = and_parts _ (is_instant c.version) h in
    let span = and_parts (is_name c.source) (is_span c.span) version.0 in
    (span.0, (span_fits c.span span.1, (instant_fits c.version version.1, (core, next))))

pub segment_fits : (r : SegmentRow) → is_segment_row r ≡ true → FitsLong r.commit → FitsSegment r
segment_fits r h commit = let both = and_parts (is_id r.id) (is_id r.root) h in (id_fits r.id both.0, (id_fits r.root both.1, commit))

pub pending_fits : (p : PendingRow) → is_pending_row p ≡ true → FitsLong p.posse → FitsPending p
pending_fits p h posse =
    let previous = and_parts _ (is_optional_id p.previous) h in
    let sequence = and_parts _ (is_name p.sequence) previous.0 in
    let ids = and_parts (is_id p.id) (is_id p.root) sequence.0 in
    (id_fits p.id ids.0, (id_fits p.root ids.1, (posse, (sequence.1, previous_fits p.previous previous.1))))

pub upgrade_fits : (u : UpgradeRow) → is_upgrade_row u ≡ true → FitsLong u.posse → FitsUpgrade u
upgrade_fits u h posse = (posse, id_fits u.root h)

empties_fit : (b : Bool) (ids : List SegId) → FitsList FitsId ids → FitsEmpties b ids
empties_fit true ids h = h
empties_fit false ids h = tt

-- each span of a publication, with a number of commits that others know
spans_fit : (ss : List SpanSince) → list_all (λ s. is_span s.span) ss ≡ true → AllByRecursion (λ s. FitsLong s.since) ss → AllByRecursion FitsSpanSince ss
spans_fit [] h since = tt
spans_fit (s ∷ ss) h since = let both = and_parts (is_span s.span) (list_all (λ z. is_span z.span) ss) h in ((span_fits s.span both.0, since.0), spans_fit ss both.1 since.1)

pub publication_fits : (m : Publication) → is_publication_row m ≡ true → AllByRecursion (λ s. FitsLong s.since) m.spans → FitsPublication m
publication_fits m h since =
    let ranges = and_parts _ (are_row_ranges m.ranges) h in
    let empties = and_parts _ (list_all is_id m.empties) ranges.0 in
    let few_empties = and_parts _ (is_few m.empties) empties.0 in
    let adds = and_parts _ (list_all is_id m.adds) few_empties.0 in
    let few_adds = and_parts _ (is_few m.adds) adds.0 in
    let spans = and_parts _ (list_all (λ s. is_span s.span) m.spans) few_adds.0 in
    let few_spans = and_parts (is_task_id m.group && is_name m.source) (is_few m.spans) spans.0 in
    let texts = and_parts (is_task_id m.group) (is_name m.source) few_spans.0 in (
      (texts.0, (texts.1, ((short_upto 4096 (length m.spans) (omega arith) few_spans.1, spans_fit m.spans spans.1 since), few_fit is_id FitsId id_fits 4096 (omega arith) m.adds few_adds.1 adds.1))),
      (empties_fit (has_empties (mark_of m.kind m.empties)) m.empties (few_fit is_id FitsId id_fits 4096 (omega arith) m.empties few_empties.1 empties.1), ranges_fit m.ranges ranges.1),
    )

pub offset_row_fits : (r : OffsetRow) → is_offset_row r ≡ true → FitsOffsetRow r
offset_row_fits r h =
    let offset = and_parts _ (nat_le r.offset offset_limit) h in
    let partition = and_parts (is_name r.source && is_name r.stream) (nat_le r.partition partition_limit) offset.0 in
    let texts = and_parts (is_name r.source) (is_name r.stream) partition.0 in
    (texts.0, (texts.1, (short_upto 2147483647 r.partition (omega arith) partition.1, long_upto 9223372036854775807 r.offset (omega arith) offset.1)))

-- a number between 1 and such a limit
between_fits : (limit n : ℕ) → limit < 4294967296 → is_between 1 limit n ≡ true → FitsShort n
between_fits limit n small h = short_upto limit n small (and_parts (nat_le 1 n) (nat_le n limit) h).1

pub supervisor_fits : (s : SupervisorRow) → is_supervisor_row s ≡ true → FitsSupervisor s
supervisor_fits s h =
    let timeout = and_parts _ (is_duration s.timeout) h in
    let duration = and_parts _ (is_duration s.duration) timeout.0 in
    let replicas = and_parts _ (is_between 1 replica_limit s.replicas) duration.0 in
    let tasks = and_parts _ (is_between 1 item_limit s.task_count) replicas.0 in
    let partitions = and_parts (is_name s.source && is_name s.stream) (is_between 1 item_limit s.partitions) tasks.0 in
    let texts = and_parts (is_name s.source) (is_name s.stream) partitions.0 in (
      texts.0,
      (
        texts.1,
        (
          between_fits 4096 s.partitions (omega arith) partitions.1,
          (
            between_fits 4096 s.task_count (omega arith) tasks.1,
            (between_fits 16 s.replicas (omega arith) replicas.1, (duration_fits s.duration duration.1, duration_fits s.timeout timeout.1)),
          ),
        ),
      ),
    )
