-- Which rows break each rule, in the words of the rules.
use Rattle.std.specs.Prelude.{◌&&◌, ◌++◌, ◌<◌, ◌∷◌, ◌≡◌, ◌≢◌, ◌≤◌, ◌⊎◌, List, [], false, int_le, int_lt, length, true, ℕ}
use Rattle.std.specs.List.{AllByRecursion}
use Rattle.iv_span.specs.Extent.{covers, overlap}
use Rattle.iv_time.specs.Range.{is_instant}
use Rattle.seg_names.specs.Ids.{same_id}
use Rattle.seg_names.specs.declared.seg_id.SegId.{SegId}
use Rattle.book_rows.specs.Allocation.{is_root}
use Rattle.book_rows.specs.Ids.{is_less, same_chunk}
use Rattle.book_rows.specs.Kinds.{guards}
use Rattle.book_rows.specs.Lists.{In, count}
use Rattle.book_rows.specs.Live.{DoMeet, IsIn, IsLive, IsValid}
use Rattle.book_rows.specs.Offsets.{key_cmp}
use Rattle.book_rows.specs.Outcome.{is_full, number_limit, part_limit}
use Rattle.book_rows.specs.Rules.{CarriesUpgrades, GoTogether, HaveCores, IsRooted, IsUpgrade, ShowsContents}
use Rattle.book_rows.specs.SequenceRules.{AreSequencesSound}
use Rattle.book_rows.specs.Shape.{HasAddedRoot, HasChunk, HasMembers, IsTombstone, fits_kind, fits_state, fits_version, is_chunk_row, is_offset_row, is_pending_row, is_posse_row, is_publication_row, is_segment_row, is_sequence_row, is_supervisor_row, is_task_row, is_upgrade_row, pending_ids, same_chunk_row, same_request, same_sequence, same_supervisor, same_task, same_upgrade, same_version, segment_ids}
use Rattle.book_rows.specs.Locks.{same_number}
use Rattle.book_rows.specs.Tiles.{IsTiled}
use Rattle.book_rows.specs.declared.kinds.Table.{Table}
use Rattle.book_rows.specs.declared.rows.Book.{Book}
use Rattle.book_rows.specs.declared.rows.ChunkRow.{ChunkRow}
use Rattle.book_rows.specs.declared.rows.PendingRow.{PendingRow}
use Rattle.book_rows.specs.declared.rows.PosseRow.{PosseRow}
use Rattle.book_rows.specs.declared.rows.Publication.{Publication}
use Rattle.book_rows.specs.declared.rows.SegmentRow.{SegmentRow}
use Rattle.laws_unsound.specs.Counts.{before_chunks, before_offsets, before_pendings, before_posses, before_publications, before_segments, before_sequences, before_supervisors, before_tasks, before_upgrades}
use Rattle.laws_unsound.specs.Named.{IsBookRow, IsRowOf, IsRowOfPair, IsRowOfRowed}
use Rattle.laws_unsound.specs.ShapeRows.{has_last, once_ids, single_tables}
use Rattle.laws_unsound.specs.Unsound.{Rule, Shape, Compatible, OneSpan, BelowLocks, Rooted, Whole, Copied, Carried, Shown, Tiled, InSequence}

-- ---- the shape

-- a table is too long, a single number of the book or a row out of its limits, or a row has what its kind or state excludes
abbrev pub BreaksLimits : Book → ℕ → Type 0
BreaksLimits b n =
    IsBookRow ((table : Table) × In table single_tables × (is_full table b ≡ true)) n
    ⊎ IsRowOf (before_chunks b) (λ c. part_limit < c.next) b.chunks n
    ⊎ IsBookRow (is_instant b.clock ≡ false) n
    ⊎ IsBookRow (has_last b ≡ false) n
    ⊎ IsRowOf before_tasks (λ t. is_task_row t ≡ false) b.tasks n
    ⊎ IsRowOf (before_posses b) (λ q. is_posse_row q ≡ false) b.posses n
    ⊎ IsRowOf (before_chunks b) (λ c. is_chunk_row c ≡ false) b.chunks n
    ⊎ IsRowOf (before_segments b) (λ r. is_segment_row r ≡ false) b.segments n
    ⊎ IsRowOf (before_pendings b) (λ p. is_pending_row p ≡ false) b.pendings n
    ⊎ IsRowOf (before_upgrades b) (λ u. is_upgrade_row u ≡ false) b.upgrades n
    ⊎ IsRowOf (before_publications b) (λ m. is_publication_row m ≡ false) b.publications n
    ⊎ IsRowOf (before_offsets b) (λ r. is_offset_row r ≡ false) b.offsets n
    ⊎ IsRowOf (before_supervisors b) (λ s. is_supervisor_row s ≡ false) b.supervisors n
    ⊎ IsRowOf (before_sequences b) (λ u. is_sequence_row u ≡ false) b.sequences n
    ⊎ IsRowOf (before_publications b) (λ m. fits_kind m.kind m ≡ false) b.publications n
    ⊎ IsRowOf (before_sequences b) (λ u. fits_state u.state u ≡ false) b.sequences n

-- a lock's number is too great, in its own row or in one of what stands under it
abbrev pub BreaksNumbers : Book → ℕ → Type 0
BreaksNumbers b n =
    IsRowOf (before_posses b) (λ q. number_limit ≤ q.number) b.posses n
    ⊎ IsRowOf (before_pendings b) (λ p. number_limit ≤ p.posse) b.pendings n
    ⊎ IsRowOf (before_upgrades b) (λ u. number_limit ≤ u.posse) b.upgrades n

-- root pendings of one source, sequence and previous id
abbrev pub AskAlike : PendingRow → PendingRow → Type 0
AskAlike p q = (is_root p ≡ true) × (is_root q ≡ true) × (same_request p q ≡ true)

-- a key stands in two rows, or rows don't ascend
abbrev pub BreaksKeys : Book → ℕ → Type 0
BreaksKeys b n =
    IsRowOfPair before_tasks (λ t u. same_task t u ≡ true) b.tasks n
    ⊎ IsRowOfPair (before_posses b) (λ p q. same_number p q ≡ true) b.posses n
    ⊎ IsRowOfPair (before_posses b) (λ p q. q.number ≤ p.number) b.posses n
    ⊎ IsRowOf (before_posses b) (λ q. b.next_lock ≤ q.number) b.posses n
    ⊎ IsRowOfPair (before_chunks b) (λ c d. same_chunk_row c d ≡ true) b.chunks n
    ⊎ IsRowOfPair (before_segments b) (λ a c. same_id a c ≡ true) (segment_ids b.segments ++ pending_ids b.pendings) n
    ⊎ IsRowOfPair (before_upgrades b) (λ u v. same_upgrade u v ≡ true) b.upgrades n
    ⊎ IsRowOfPair (before_offsets b) (λ r s. is_less (key_cmp r s) ≡ false) b.offsets n
    ⊎ IsRowOfPair (before_supervisors b) (λ s z. same_supervisor s z ≡ true) b.supervisors n
    ⊎ IsRowOfPair (before_sequences b) (λ u v. same_sequence u v ≡ true) b.sequences n
    ⊎ IsRowOfPair (before_pendings b) AskAlike b.pendings n
    ⊎ IsRowOfRowed (λ a c. same_id a c ≡ true) (once_ids b) n

-- a version is above the last one, one that its type of lock can't have, or one of two locks
abbrev pub BreaksVersions : Book → ℕ → Type 0
BreaksVersions b n =
    IsRowOf (before_posses b) (λ q. int_le q.version b.last ≡ false) b.posses n
    ⊎ IsRowOf (before_chunks b) (λ c. int_le c.version b.last ≡ false) b.chunks n
    ⊎ IsRowOf (before_posses b) (λ q. fits_version q ≡ false) b.posses n
    ⊎ IsRowOfPair (before_posses b) (λ p q. same_version p q ≡ true) b.posses n

-- an id has no chunk row with a next part above its own
abbrev pub LacksChunk : List ChunkRow → List SegId → Type 0
LacksChunk cs ids = ((a : SegId) → In a ids → HasChunk cs a) → ⊥

abbrev pub BreaksChunks : Book → ℕ → Type 0
BreaksChunks b n =
    IsRowOf (before_segments b) (λ r. HasChunk b.chunks r.id → ⊥) b.segments n
    ⊎ IsRowOf (before_pendings b) (λ p. HasChunk b.chunks p.id → ⊥) b.pendings n
    ⊎ IsRowOf (before_publications b) (λ m. LacksChunk b.chunks m.adds) b.publications n
    ⊎ IsRowOf (before_publications b) (λ m. LacksChunk b.chunks m.empties) b.publications n

-- a row counts publications that aren't there
abbrev pub BreaksCommits : Book → ℕ → Type 0
BreaksCommits b n =
    IsRowOf (before_segments b) (λ r. length b.publications ≤ r.commit) b.segments n
    ⊎ IsRowOf (before_posses b) (λ q. length b.publications < q.since) b.posses n
    ⊎ IsRowOf (before_publications b) (λ m. AllByRecursion (λ s. s.since ≤ length b.publications) m.spans → ⊥) b.publications n

-- a tombstone is one of its publication's, and the root of any other segment was added
pub record HasItsRoot (cs : List ChunkRow) (pubs : List Publication) (r : SegmentRow) : Type 0 where
  pub tombstone : r.tombstone ≡ true → IsTombstone cs pubs r
  pub other : r.tombstone ≡ false → HasAddedRoot pubs r

abbrev pub BreaksShape : Book → ℕ → Type 0
BreaksShape b n =
    BreaksLimits b n
    ⊎ BreaksNumbers b n
    ⊎ BreaksKeys b n
    ⊎ BreaksVersions b n
    ⊎ IsRowOf (before_posses b) (λ q. HasMembers b.tasks q → ⊥) b.posses n
    ⊎ BreaksChunks b n
    ⊎ BreaksCommits b n
    ⊎ IsRowOf (before_segments b) (λ r. HasItsRoot b.chunks b.publications r → ⊥) b.segments n

-- ---- locks and live chunks

-- a lock that doesn't go together with another
abbrev pub BreaksCompatible : Book → ℕ → Type 0
BreaksCompatible b n = IsRowOfPair (before_posses b) (λ p q. GoTogether p q → ⊥) b.posses n

-- the chunk of this row is live: by this id
pub record IsLiveChunk (rows : List SegmentRow) (ps : List PendingRow) (c : ChunkRow) : Type 0 where
  pub id : SegId
  pub is_live : IsLive rows ps id
  pub is_in : IsIn c id

-- two live chunks of one version that overlap and aren't one
pub record AreTwoSpans (rows : List SegmentRow) (ps : List PendingRow) (c d : ChunkRow) : Type 0 where
  pub one : IsLiveChunk rows ps c
  pub other : IsLiveChunk rows ps d
  pub do_meet : DoMeet one.id other.id
  pub version_is : one.id.version ≡ other.id.version
  pub spans_differ : one.id.span ≢ other.id.span

abbrev pub BreaksOneSpan : Book → ℕ → Type 0
BreaksOneSpan b n = IsRowOfPair (before_chunks b) (AreTwoSpans b.segments b.pendings) b.chunks n

-- a live chunk that overlaps a valid exclusive or replacing lock, and has a greater version
pub record IsAboveLock (qs : List PosseRow) (rows : List SegmentRow) (ps : List PendingRow) (c : ChunkRow) : Type 0 where
  pub live : IsLiveChunk rows ps c
  pub lock : PosseRow
  pub is_valid : IsValid qs lock
  pub guards_is : guards lock.lock_kind ≡ true
  pub source_is : live.id.source ≡ lock.source
  pub overlap_is : overlap live.id.span lock.span ≡ true
  pub above : int_le live.id.version lock.version ≡ false

abbrev pub BreaksBelowLocks : Book → ℕ → Type 0
BreaksBelowLocks b n = IsRowOf (before_chunks b) (IsAboveLock b.posses b.segments b.pendings) b.chunks n

-- ---- pendings, upgrade rows and cores

abbrev pub BreaksRooted : Book → ℕ → Type 0
BreaksRooted b n =
    IsRowOf (before_pendings b) (λ p. IsRooted b.posses b.pendings p → ⊥) b.pendings n
    ⊎ IsRowOf (before_upgrades b) (λ u. IsUpgrade b.posses b.publications u → ⊥) b.upgrades n

-- the rule doesn't hold of the chunk alone
abbrev pub BreaksWhole : Book → ℕ → Type 0
BreaksWhole b n = IsRowOf (before_chunks b) (λ c. HaveCores b.posses (c ∷ []) b.segments b.pendings → ⊥) b.chunks n

-- ---- chunks above others

-- a chunk that an id is of has a core, contains each root pending of another chunk, and has one copy of it
pub record HasCopies (ps : List PendingRow) (c d : ChunkRow) (a : SegId) : Type 0 where
  pub core : 0 < d.core
  pub contains : (r : PendingRow) → In r ps → r.id ≡ r.root → IsIn c r.id → covers a.span r.id.span ≡ true
  pub copies : (r : PendingRow) → In r ps → r.id ≡ r.root → IsIn c r.id → count (λ x. same_chunk x.id a && same_id x.root r.id) ps ≡ 1

-- the second, a live chunk, lies above the first, and has no core or lacks a copy
pub record IsBareAbove (rows : List SegmentRow) (ps : List PendingRow) (c d : ChunkRow) : Type 0 where
  pub low : IsLiveChunk rows ps c
  pub high : IsLiveChunk rows ps d
  pub do_meet : DoMeet low.id high.id
  pub above : int_lt low.id.version high.id.version ≡ true
  pub lacks : HasCopies ps c d high.id → ⊥

abbrev pub BreaksCopied : Book → ℕ → Type 0
BreaksCopied b n = IsRowOfPair (before_chunks b) (λ c d. IsBareAbove b.segments b.pendings c d ⊎ IsBareAbove b.segments b.pendings d c) b.chunks n

-- ---- what is carried, shown and read, and sequences

-- the rule doesn't hold of the lock alone
abbrev pub BreaksCarried : Book → ℕ → Type 0
BreaksCarried b n = IsRowOf (before_posses b) (λ q. CarriesUpgrades (q ∷ []) b.chunks b.upgrades b.publications → ⊥) b.posses n

abbrev pub BreaksShown : Book → ℕ → Type 0
BreaksShown b n = IsBookRow (ShowsContents b.segments b.publications → ⊥) n

abbrev pub BreaksTiled : Book → ℕ → Type 0
BreaksTiled b n = IsBookRow (IsTiled b.publications b.offsets → ⊥) n

abbrev pub BreaksInSequence : Book → ℕ → Type 0
BreaksInSequence b n = IsBookRow (AreSequencesSound b → ⊥) n

-- ---- each rule

abbrev pub Breaks : Rule → Book → ℕ → Type 0
Breaks Shape b n = BreaksShape b n
Breaks Compatible b n = BreaksCompatible b n
Breaks OneSpan b n = BreaksOneSpan b n
Breaks BelowLocks b n = BreaksBelowLocks b n
Breaks Rooted b n = BreaksRooted b n
Breaks Whole b n = BreaksWhole b n
Breaks Copied b n = BreaksCopied b n
Breaks Carried b n = BreaksCarried b n
Breaks Shown b n = BreaksShown b n
Breaks Tiled b n = BreaksTiled b n
Breaks InSequence b n = BreaksInSequence b n
