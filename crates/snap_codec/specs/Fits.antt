-- Which values have bytes: each number fits its field, each count fits four bytes, and each text is one of its type.
use Rattle.std.specs.Prelude.{◌≡◌, ◌||◌, ◌<◌, ◌^◌, ◌<ℤ◌, ⊤, ℕ, ℤ, Bool, true, false, List, length, Option, Some, None}
use Rattle.std.specs.List.{AllByRecursion}
use Rattle.std.specs.Int.{w64}
use Rattle.std.specs.Int.RustNames.{FitsSigned}
use Rattle.iv_span.specs.Extent.{Extent}
use Rattle.seg_names.specs.Names.{is_name, is_task_id}
use Rattle.seg_names.specs.declared.seg_id.SegId.{SegId}
use Rattle.book_rows.specs.Lists.{is_empty}
use Rattle.book_rows.specs.declared.kinds.PubKind.{PubKind}
use Rattle.book_rows.specs.declared.kinds.PubKind.TheVariants as kind
use Rattle.book_rows.specs.declared.rows.Book.{Book}
use Rattle.book_rows.specs.declared.rows.ChunkRow.{ChunkRow}
use Rattle.book_rows.specs.declared.rows.Offset.{Offset}
use Rattle.book_rows.specs.declared.rows.OffsetRow.{OffsetRow}
use Rattle.book_rows.specs.declared.rows.PendingRow.{PendingRow}
use Rattle.book_rows.specs.declared.rows.PosseRow.{PosseRow}
use Rattle.book_rows.specs.declared.rows.Publication.{Publication}
use Rattle.book_rows.specs.declared.rows.Range.{Range}
use Rattle.book_rows.specs.declared.rows.Ranges.{Ranges}
use Rattle.book_rows.specs.declared.rows.Report.{Report}
use Rattle.book_rows.specs.declared.rows.SegmentRow.{SegmentRow}
use Rattle.book_rows.specs.declared.rows.SequenceRow.{SequenceRow}
use Rattle.book_rows.specs.declared.rows.SpanSince.{SpanSince}
use Rattle.book_rows.specs.declared.rows.SupervisorRow.{SupervisorRow}
use Rattle.book_rows.specs.declared.rows.TaskRow.{TaskRow}
use Rattle.book_rows.specs.declared.rows.UpgradeRow.{UpgradeRow}
use Rattle.book_rows.specs.declared.rows.Want.{Want}
use Rattle.snap_codec.specs.Fields.{mark_of, has_empties}

abbrev pub FitsShort : ℕ → Type 0
FitsShort n = n < 2 ^ 32

abbrev pub FitsLong : ℕ → Type 0
FitsLong n = n < 2 ^ 64

abbrev pub FitsInt : ℤ → Type 0
FitsInt z = FitsSigned w64 z

abbrev pub IsName : List ℕ → Type 0
IsName text = is_name text ≡ true

abbrev pub IsTask : List ℕ → Type 0
IsTask text = is_task_id text ≡ true

-- each value of an enum or a bool has a byte
abbrev pub Always : {A : Type 0} → A → Type 0
Always a = ⊤

abbrev pub FitsList : {A : Type 0} → (A → Type 0) → List A → Type 0
FitsList Fits xs = (length xs < 2 ^ 32) × AllByRecursion Fits xs

abbrev pub FitsOption : {A : Type 0} → (A → Type 0) → Option A → Type 0
FitsOption Fits (Some x) = Fits x
FitsOption Fits None = ⊤

abbrev pub FitsSpan : Extent → Type 0
FitsSpan e = FitsInt e.start × (FitsInt e.end × (e.start <ℤ e.end))

abbrev pub FitsId : SegId → Type 0
FitsId id = IsName id.source × (FitsSpan id.span × (FitsInt id.version × FitsShort id.part))

abbrev pub FitsWant : Want → Type 0
FitsWant x = FitsSpan x.span

abbrev pub FitsOffset : Offset → Type 0
FitsOffset o = FitsShort o.partition × FitsLong o.offset

abbrev pub FitsRange : Range → Type 0
FitsRange r = FitsShort r.partition × (FitsLong r.start × FitsLong r.end)

abbrev pub FitsRanges : Ranges → Type 0
FitsRanges r = IsName r.stream × FitsList FitsRange r.parts

abbrev pub FitsSpanSince : SpanSince → Type 0
FitsSpanSince s = FitsSpan s.span × FitsLong s.since

abbrev pub FitsReport : Report → Type 0
FitsReport r = IsTask r.task × FitsList FitsOffset r.offsets

abbrev pub FitsTask : TaskRow → Type 0
FitsTask t = IsTask t.task × (IsTask t.group × (IsName t.source × (FitsShort t.priority × FitsList FitsWant t.wants)))

abbrev pub FitsPosse : PosseRow → Type 0
FitsPosse p = FitsLong p.number × (IsTask p.group × (IsName p.source × (FitsSpan p.span × (FitsInt p.version × (FitsShort p.priority × (FitsList IsTask p.members × FitsLong p.since))))))

abbrev pub FitsChunk : ChunkRow → Type 0
FitsChunk c = IsName c.source × (FitsSpan c.span × (FitsInt c.version × (FitsShort c.core × FitsShort c.next)))

abbrev pub FitsSegment : SegmentRow → Type 0
FitsSegment r = FitsId r.id × (FitsId r.root × FitsLong r.commit)

abbrev pub FitsPending : PendingRow → Type 0
FitsPending p = FitsId p.id × (FitsId p.root × (FitsLong p.posse × (IsName p.sequence × FitsOption FitsId p.previous)))

abbrev pub FitsUpgrade : UpgradeRow → Type 0
FitsUpgrade u = FitsLong u.posse × FitsId u.root

abbrev pub FitsFront : Publication → Type 0
FitsFront m = IsTask m.group × (IsName m.source × (FitsList FitsSpanSince m.spans × FitsList FitsId m.adds))

-- the tombstones, where they are written
abbrev pub FitsEmpties : Bool → List SegId → Type 0
FitsEmpties true empties = FitsList FitsId empties
FitsEmpties false empties = ⊤

abbrev pub FitsPublication : Publication → Type 0
FitsPublication m = FitsFront m × (FitsEmpties (has_empties (mark_of m.kind m.empties)) m.empties × FitsOption FitsRanges m.ranges)

abbrev pub FitsOffsetRow : OffsetRow → Type 0
FitsOffsetRow r = IsName r.source × (IsName r.stream × (FitsShort r.partition × FitsLong r.offset))

abbrev pub FitsSupervisor : SupervisorRow → Type 0
FitsSupervisor s = IsName s.source × (IsName s.stream × (FitsShort s.partitions × (FitsShort s.task_count × (FitsShort s.replicas × (FitsInt s.duration × FitsInt s.timeout)))))

abbrev pub FitsSequence : SequenceRow → Type 0
FitsSequence u = IsName u.source × (FitsShort u.group × (FitsShort u.index × (FitsInt u.opened × (FitsInt u.closed × (FitsList FitsOffset u.starts × (FitsList FitsOffset u.ends × (FitsList IsTask u.live × FitsList FitsReport u.reports)))))))

abbrev pub may_empty : PubKind → Bool
may_empty kind.Over = true
may_empty kind.Replace = true
may_empty _ = false

-- only what inserts or replaces has tombstones
abbrev pub IsMarked : Publication → Type 0
IsMarked m = may_empty m.kind || is_empty m.empties ≡ true

abbrev pub AreMarked : List Publication → Type 0
AreMarked = AllByRecursion IsMarked

-- a publication that has bytes
abbrev pub IsWritten : Publication → Type 0
IsWritten m = FitsPublication m × IsMarked m

abbrev pub FitsNumbers : Book → Type 0
FitsNumbers b = FitsInt b.clock × (FitsInt b.last × FitsLong b.next_lock)

abbrev pub FitsSegments : (SegmentRow → Type 0) → Book → Type 0
FitsSegments Segment b = FitsList FitsTask b.tasks × (FitsList FitsPosse b.posses × (FitsList FitsChunk b.chunks × (FitsList Segment b.segments × (FitsList FitsPending b.pendings × FitsList FitsUpgrade b.upgrades))))

abbrev pub FitsStreams : (Publication → Type 0) → Book → Type 0
FitsStreams Published b = FitsList Published b.publications × (FitsList FitsOffsetRow b.offsets × (FitsList FitsSupervisor b.supervisors × FitsList FitsSequence b.sequences))

-- the numbers and the rows of the book fit, segments and publications as these say
abbrev pub FitsBy : (SegmentRow → Type 0) → (Publication → Type 0) → Book → Type 0
FitsBy Segment Published b = FitsNumbers b × (FitsSegments Segment b × FitsStreams Published b)

-- each value of the book fits its field, as each value of the program does
abbrev pub FitsBook : Book → Type 0
FitsBook = FitsBy FitsSegment FitsPublication

-- The book has bytes.
abbrev pub IsSpelled : Book → Type 0
IsSpelled = FitsBy FitsSegment IsWritten
