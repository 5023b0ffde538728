-- The shape of a book: the limits of its rows, its keys, and rows that others refer to.
use Rattle.std.specs.Prelude.{◌&&◌, ◌++◌, ◌<◌, ◌==◌, ◌≡◌, ◌≤◌, Bool, List, None, Option, Some, bytes_eq, cond, false, filter, int_le, int_lt, length, map, nat_le, nat_lt, not, pos, true, ℕ, ℤ}
use Rattle.std.specs.List.{AllByRecursion, list_all}
use Rattle.std.specs.Ordering.{int_eq}
use Rattle.iv_time.specs.Durations.{is_duration}
use Rattle.iv_time.specs.Range.{is_instant}
use Rattle.seg_names.specs.Ids.{same_extent, same_id}
use Rattle.seg_names.specs.Names.{is_between, is_name, is_task_id}
use Rattle.seg_names.specs.declared.seg_id.SegId.{SegId}
use Rattle.book_rows.specs.Allocation.{is_root}
use Rattle.book_rows.specs.Form.{are_offsets, are_parts, is_few, is_id, is_optional_id, is_want, item_limit, offset_limit, partition_limit, priority_limit, replica_limit, want_limit}
use Rattle.book_rows.specs.Ids.{is_less, same_previous}
use Rattle.book_rows.specs.Kinds.{same_kind}
use Rattle.book_rows.specs.Lists.{In, Pairs, at_place, gathered, is_empty}
use Rattle.book_rows.specs.Live.{IsIn}
use Rattle.book_rows.specs.Locks.{HasDistinctNumbers}
use Rattle.book_rows.specs.Names.{no_group}
use Rattle.book_rows.specs.Offsets.{key_cmp}
use Rattle.book_rows.specs.Outcome.{all_tables, no_room}
use Rattle.book_rows.specs.Sequences.{is_of_group}
use Rattle.book_rows.specs.Spans.{is_span}
use Rattle.book_rows.specs.declared.kinds.LockKind.{LockKind}
use Rattle.book_rows.specs.declared.kinds.PubKind.{PubKind}
use Rattle.book_rows.specs.declared.kinds.SeqState.{SeqState}
use Rattle.book_rows.specs.declared.rows.Book.{Book}
use Rattle.book_rows.specs.declared.rows.ChunkRow.{ChunkRow}
use Rattle.book_rows.specs.declared.rows.OffsetRow.{OffsetRow}
use Rattle.book_rows.specs.declared.rows.PendingRow.{PendingRow}
use Rattle.book_rows.specs.declared.rows.PosseRow.{PosseRow}
use Rattle.book_rows.specs.declared.rows.Publication.{Publication}
use Rattle.book_rows.specs.declared.rows.Ranges.{Ranges}
use Rattle.book_rows.specs.declared.rows.Report.{Report}
use Rattle.book_rows.specs.declared.rows.SegmentRow.{SegmentRow}
use Rattle.book_rows.specs.declared.rows.SequenceRow.{SequenceRow}
use Rattle.book_rows.specs.declared.rows.SupervisorRow.{SupervisorRow}
use Rattle.book_rows.specs.declared.rows.TaskRow.{TaskRow}
use Rattle.book_rows.specs.declared.rows.UpgradeRow.{UpgradeRow}
use Rattle.book_rows.specs.declared.kinds.LockKind.TheVariants as LockKinds
use Rattle.book_rows.specs.declared.kinds.PubKind.TheVariants as PubKinds
use Rattle.book_rows.specs.declared.kinds.SeqState.TheVariants as States
use Rattle.book_rows.specs.declared.kinds.TaskStatus.TheVariants as Statuses

-- ---- limits of rows

abbrev pub is_task_row : TaskRow → Bool
is_task_row t = is_task_id t.task && is_task_id t.group && is_name t.source && nat_le t.priority priority_limit && nat_le (length t.wants) want_limit && list_all is_want t.wants

abbrev pub is_posse_row : PosseRow → Bool
is_posse_row p = is_task_id p.group && is_name p.source && is_span p.span && is_instant p.version && nat_le p.priority priority_limit && list_all is_task_id p.members

abbrev pub is_chunk_row : ChunkRow → Bool
is_chunk_row c = is_name c.source && is_span c.span && is_instant c.version

abbrev pub is_segment_row : SegmentRow → Bool
is_segment_row r = is_id r.id && is_id r.root

abbrev pub is_pending_row : PendingRow → Bool
is_pending_row p = is_id p.id && is_id p.root && is_name p.sequence && is_optional_id p.previous

abbrev pub is_upgrade_row : UpgradeRow → Bool
is_upgrade_row u = is_id u.root

-- partitions ascend; a reset's list may be empty
abbrev pub are_row_ranges : Option Ranges → Bool
are_row_ranges None = true
are_row_ranges (Some ranges) = is_name ranges.stream && are_parts ranges.parts

abbrev pub is_publication_row : Publication → Bool
is_publication_row m =
    is_task_id m.group && is_name m.source && is_few m.spans && list_all (λ s. is_span s.span) m.spans
    && is_few m.adds && list_all is_id m.adds && is_few m.empties && list_all is_id m.empties && are_row_ranges m.ranges

abbrev pub is_offset_row : OffsetRow → Bool
is_offset_row r = is_name r.source && is_name r.stream && nat_le r.partition partition_limit && nat_le r.offset offset_limit

abbrev pub is_supervisor_row : SupervisorRow → Bool
is_supervisor_row s =
    is_name s.source && is_name s.stream && is_between 1 item_limit s.partitions && is_between 1 item_limit s.task_count
    && is_between 1 replica_limit s.replicas && is_duration s.duration && is_duration s.timeout

abbrev pub is_report : Report → Bool
is_report r = is_task_id r.task && are_offsets r.offsets

abbrev pub is_sequence_row : SequenceRow → Bool
is_sequence_row u =
    is_name u.source && is_instant u.opened && is_instant u.closed && are_offsets u.starts && are_offsets u.ends
    && list_all is_task_id u.live && list_all is_report u.reports

-- ---- what a kind of publication, and a state of a sequence, excludes

abbrev pub has_no_since : Publication → Bool
has_no_since m = list_all (λ s. s.since == 0) m.spans

abbrev pub are_points : Option Ranges → Bool
are_points None = false
are_points (Some ranges) = list_all (λ r. r.start == r.end) ranges.parts

abbrev pub fits_kind : PubKind → Publication → Bool
fits_kind PubKinds.Append m = is_empty m.spans && is_empty m.empties
fits_kind PubKinds.Over m = has_no_since m
fits_kind PubKinds.Replace m = true
fits_kind PubKinds.Drop m = (length m.spans == 1) && has_no_since m && bytes_eq m.group no_group && is_empty m.empties
fits_kind PubKinds.Reset m = is_empty m.spans && bytes_eq m.group no_group && are_points m.ranges && is_empty m.empties

-- a sequence that reads or is paused isn't closed and has no ends
abbrev pub fits_state : SeqState → SequenceRow → Bool
fits_state States.Reading u = int_eq u.closed (pos 0) && is_empty u.ends
fits_state States.Paused u = int_eq u.closed (pos 0) && is_empty u.ends
fits_state _ u = true

-- ---- limits

-- tables, numbers and lists are within their limits
pub record IsLimited (b : Book) : Type 0 where
  pub room : no_room all_tables b ≡ None
  pub clock : is_instant b.clock ≡ true
  pub last : is_instant b.last && int_le (pos 0) b.last ≡ true
  pub tasks : list_all is_task_row b.tasks ≡ true
  pub posses : list_all is_posse_row b.posses ≡ true
  pub chunks : list_all is_chunk_row b.chunks ≡ true
  pub segments : list_all is_segment_row b.segments ≡ true
  pub pendings : list_all is_pending_row b.pendings ≡ true
  pub upgrades : list_all is_upgrade_row b.upgrades ≡ true
  pub publications : list_all is_publication_row b.publications ≡ true
  pub offsets : list_all is_offset_row b.offsets ≡ true
  pub supervisors : list_all is_supervisor_row b.supervisors ≡ true
  pub sequences : list_all is_sequence_row b.sequences ≡ true
  pub kinds : list_all (λ m. fits_kind m.kind m) b.publications ≡ true
  pub states : list_all (λ u. fits_state u.state u) b.sequences ≡ true

-- ---- keys

-- no two elements of the list pass the test
abbrev pub AreDistinct : {X : Type 0} → (X → X → Bool) → List X → Type 0
AreDistinct same xs = Pairs (λ x y. same x y ≡ false) xs

abbrev pub same_task : TaskRow → TaskRow → Bool
same_task t u = bytes_eq t.task u.task

abbrev pub same_chunk_row : ChunkRow → ChunkRow → Bool
same_chunk_row c d = bytes_eq c.source d.source && same_extent c.span d.span && int_eq c.version d.version

abbrev pub same_upgrade : UpgradeRow → UpgradeRow → Bool
same_upgrade u v = (u.posse == v.posse) && same_id u.root v.root

abbrev pub same_supervisor : SupervisorRow → SupervisorRow → Bool
same_supervisor s z = bytes_eq s.source z.source

abbrev pub same_sequence : SequenceRow → SequenceRow → Bool
same_sequence u v = is_of_group u.source u.group v && (u.index == v.index)

-- root pendings of one source, sequence and previous id
abbrev pub same_request : PendingRow → PendingRow → Bool
same_request p q = bytes_eq p.id.source q.id.source && bytes_eq p.sequence q.sequence && same_previous p.previous q.previous

abbrev pub segment_ids : List SegmentRow → List SegId
segment_ids rows = map (λ r. r.id) rows

abbrev pub pending_ids : List PendingRow → List SegId
pending_ids ps = map (λ p. p.id) ps

-- the ids that the publications add, and their tombstones
abbrev pub all_adds : List Publication → List SegId
all_adds ms = gathered (λ m. m.adds) ms

abbrev pub all_empties : List Publication → List SegId
all_empties ms = gathered (λ m. m.empties) ms

pub record HasKeys (b : Book) : Type 0 where
  pub tasks : AreDistinct same_task b.tasks
  pub numbers : HasDistinctNumbers b.posses
  pub ascending : Pairs (λ p q. p.number < q.number) b.posses
  pub below : AllByRecursion (λ p. p.number < b.next_lock) b.posses
  pub chunks : AreDistinct same_chunk_row b.chunks
  pub ids : AreDistinct same_id (segment_ids b.segments ++ pending_ids b.pendings)
  pub upgrades : AreDistinct same_upgrade b.upgrades
  pub offsets : Pairs (λ r s. is_less (key_cmp r s) ≡ true) b.offsets
  pub supervisors : AreDistinct same_supervisor b.supervisors
  pub sequences : AreDistinct same_sequence b.sequences
  pub requests : AreDistinct same_request (filter is_root b.pendings)
  pub once : AreDistinct same_id (pending_ids b.pendings ++ (all_adds b.publications ++ all_empties b.publications))

-- ---- versions

abbrev pub is_append : LockKind → Bool
is_append kind = same_kind kind LockKinds.Append

-- an appending lock has version 0, any other one above
abbrev pub fits_version : PosseRow → Bool
fits_version p = cond (is_append p.lock_kind) (int_eq p.version (pos 0)) (int_lt (pos 0) p.version)

-- two locks, neither an appending one, of one version
abbrev pub same_version : PosseRow → PosseRow → Bool
same_version p q = not (is_append p.lock_kind) && not (is_append q.lock_kind) && int_eq p.version q.version

pub record HasVersions (last : ℤ) (qs : List PosseRow) (cs : List ChunkRow) : Type 0 where
  pub locks : list_all (λ q. int_le q.version last) qs ≡ true
  pub chunks : list_all (λ c. int_le c.version last) cs ≡ true
  pub kinds : list_all fits_version qs ≡ true
  pub distinct : AreDistinct same_version qs

-- ---- members

-- the running task of this id, with the lock's group, source and priority
pub record IsMemberTask (ts : List TaskRow) (q : PosseRow) (task : List ℕ) : Type 0 where
  pub row : TaskRow
  pub among : In row ts
  pub task_is : row.task ≡ task
  pub runs : row.status ≡ Statuses.Running
  pub group_is : row.group ≡ q.group
  pub source_is : row.source ≡ q.source
  pub priority_is : row.priority ≡ q.priority

pub record HasMembers (ts : List TaskRow) (q : PosseRow) : Type 0 where
  pub some : is_empty q.members ≡ false
  pub distinct : AreDistinct bytes_eq q.members
  pub tasks : (task : List ℕ) → In task q.members → IsMemberTask ts q task

abbrev pub HaveMembers : List TaskRow → List PosseRow → Type 0
HaveMembers ts qs = (q : PosseRow) → In q qs → HasMembers ts q

-- ---- ids have their chunk row, with a next part above their own

pub record HasChunk (cs : List ChunkRow) (a : SegId) : Type 0 where
  pub chunk : ChunkRow
  pub among : In chunk cs
  pub is_in : IsIn chunk a
  pub below : a.part < chunk.next

pub record HaveChunks (b : Book) : Type 0 where
  pub segments : (a : SegId) → In a (segment_ids b.segments) → HasChunk b.chunks a
  pub pendings : (a : SegId) → In a (pending_ids b.pendings) → HasChunk b.chunks a
  pub adds : (a : SegId) → In a (all_adds b.publications) → HasChunk b.chunks a
  pub empties : (a : SegId) → In a (all_empties b.publications) → HasChunk b.chunks a

-- ---- commits

pub record HaveCommits (qs : List PosseRow) (rows : List SegmentRow) (pubs : List Publication) : Type 0 where
  pub commits : list_all (λ r. nat_lt r.commit (length pubs)) rows ≡ true
  pub locks : list_all (λ q. nat_le q.since (length pubs)) qs ≡ true
  pub spans : list_all (λ m. list_all (λ s. nat_le s.since (length pubs)) m.spans) pubs ≡ true

-- a tombstone is its own root, has part 0 in a chunk of core 1, and is one of its publication's
pub record IsTombstone (cs : List ChunkRow) (pubs : List Publication) (r : SegmentRow) : Type 0 where
  pub own : r.root ≡ r.id
  pub part_is : r.id.part ≡ 0
  pub chunk : ChunkRow
  pub among : In chunk cs
  pub is_in : IsIn chunk r.id
  pub core_is : chunk.core ≡ 1
  pub publication : Publication
  pub at : at_place r.commit pubs ≡ Some publication
  pub listed : In r.id publication.empties

-- the root of any other segment is one that a publication adds, not after the row's own
pub record HasAddedRoot (pubs : List Publication) (r : SegmentRow) : Type 0 where
  pub place : ℕ
  pub publication : Publication
  pub at : at_place place pubs ≡ Some publication
  pub listed : In r.root publication.adds
  pub not_after : place ≤ r.commit

pub record HaveRoots (b : Book) : Type 0 where
  pub tombstones : (r : SegmentRow) → In r b.segments → r.tombstone ≡ true → IsTombstone b.chunks b.publications r
  pub others : (r : SegmentRow) → In r b.segments → r.tombstone ≡ false → HasAddedRoot b.publications r

-- ---- the whole

pub record HasShape (b : Book) : Type 0 where
  pub limits : IsLimited b
  pub keys : HasKeys b
  pub versions : HasVersions b.last b.posses b.chunks
  pub members : HaveMembers b.tasks b.posses
  pub chunks : HaveChunks b
  pub commits : HaveCommits b.posses b.segments b.publications
  pub roots : HaveRoots b
