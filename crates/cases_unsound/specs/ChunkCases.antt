-- Rules on locks, live chunks and what stands under them: each broken in a book of good shape.
use Rattle.std.specs.Prelude.{List, [], false, negsuc, true, ℕ, ℤ, ◌++◌, ◌∷◌}
use Rattle.iv_span.specs.Extent.{Extent}
use Rattle.seg_names.specs.declared.seg_id.SegId.{SegId}
use Rattle.book_rows.specs.declared.kinds.LockKind.TheVariants as LockKinds
use Rattle.book_rows.specs.declared.kinds.PubKind.TheVariants as PubKinds
use Rattle.book_rows.specs.declared.rows.Book.{Book}
use Rattle.book_rows.specs.declared.rows.ChunkRow.{ChunkRow}
use Rattle.book_rows.specs.declared.rows.PendingRow.{PendingRow}
use Rattle.book_rows.specs.declared.rows.PosseRow.{PosseRow}
use Rattle.book_rows.specs.declared.rows.SegmentRow.{SegmentRow}
use Rattle.scenes.specs.Publishing.{hour_id, upgrade_row_of}
use Rattle.scenes.specs.Script.{day, id, minutes, next_day, now, now1, s2, seventh_hour, v, v0, x}
use Rattle.scenes.specs.Rows.{p_lock, p_row, r_lock}
use Rattle.laws_unsound.specs.Unsound.{BelowLocks, Compatible, Copied, OneSpan, Rooted, Whole}
use Rattle.cases_unsound.specs.SoundBook.{Breaks, BreaksNone, appended, book, hour_chunk, the_pending, tomb_chunk, used_row}

-- ---- locks: the first of two that aren't compatible; a revoked lock is with any

abbrev pub exclusive_lock : PosseRow
exclusive_lock = record r_lock { lock_kind = LockKinds.Exclusive }

abbrev pub third_lock : PosseRow
third_lock = record r_lock { number = 3; version = now1; since = 4 }

abbrev pub with_third : PosseRow → Book
with_third q = record book { posses = p_lock ∷ r_lock ∷ q ∷ []; next_lock = 4; last = now1 }

abbrev pub LocksInConflict : Type 0
LocksInConflict =
    Breaks (record book { posses = p_lock ∷ exclusive_lock ∷ [] }) Compatible 4
    × Breaks (with_third third_lock) Compatible 5
    × BreaksNone (with_third (record third_lock { revoked = true }))
    × BreaksNone (with_third (record third_lock { span = next_day }))

-- ---- a chunk more, in row 8, with an id that a last publication adds

abbrev pub chunk : Extent → ℤ → ℕ → ChunkRow
chunk span version core = record { source = hour_chunk.source; span = span; version = version; core = core; next = 1 }

abbrev pub name : ChunkRow → ℕ → SegId
name c part = record { source = c.source; span = c.span; version = c.version; part = part }

-- the chunk's first part is used
abbrev pub with_live : ChunkRow → Book
with_live c = record book {
  last = now1;
  chunks = book.chunks ++ c ∷ [];
  segments = book.segments ++ used_row (name c 0) 4 ∷ [];
  publications = book.publications ++ record (appended (name c 0)) { source = c.source } ∷ [];
}

-- nothing is in it
abbrev pub with_dead : ChunkRow → Book
with_dead c = record book { last = now1; chunks = book.chunks ++ c ∷ [] }

-- ---- of one version: the first of two that overlap; a chunk that isn't live may

abbrev pub ChunksOfOneVersion : Type 0
ChunksOfOneVersion =
    Breaks (with_live (chunk day v0 0)) OneSpan 6
    × BreaksNone (with_dead (chunk day v0 0))
    × BreaksNone (with_live (record (chunk day v0 0) { span = next_day }))

-- ---- under a replacing lock, and under an exclusive one alone: a chunk of a greater version

abbrev pub ChunksUnderLocks : Type 0
ChunksUnderLocks =
    Breaks (with_live (chunk seventh_hour now1 0)) BelowLocks 8
    × Breaks (record (with_live (chunk seventh_hour now1 0)) { posses = exclusive_lock ∷ [] }) BelowLocks 7
    × BreaksNone (with_dead (chunk seventh_hour now1 0))
    × BreaksNone (with_live (chunk next_day now1 0))

-- ---- pendings: another root, another lock, one that is revoked, doesn't contain the root, or is of another source; and copies that don't contain
-- the root, have no greater version, or are of another sequence

abbrev pub with_pendings : List PendingRow → Book
with_pendings ps = record book { pendings = ps }

-- a copy of the pending in an upper chunk that isn't there yet has this span and version
abbrev pub with_copy : Extent → ℤ → Book
with_copy span version = record book { chunks = book.chunks ++ chunk span version 0 ∷ []; pendings = the_pending ∷ record the_pending { id = id span version 0 } ∷ [] }

-- a lock of the other source, with a task of its own, in one row more of each table
abbrev pub with_foreign_lock : Book
with_foreign_lock = record book {
  tasks = book.tasks ++ record p_row { task = x; group = x; source = v } ∷ [];
  posses = book.posses ++ record p_lock { number = 3; group = x; source = v; members = x ∷ [] } ∷ [];
  next_lock = 4;
  pendings = record the_pending { posse = 3 } ∷ [];
}

abbrev pub RootsOfPendings : Type 0
RootsOfPendings =
    Breaks (with_pendings (record the_pending { root = hour_id 1 } ∷ [])) Rooted 11
    × Breaks (with_pendings (record the_pending { posse = 3 } ∷ [])) Rooted 11
    × Breaks (record book { posses = record p_lock { revoked = true } ∷ r_lock ∷ [] }) Rooted 11
    × Breaks (record book { posses = record p_lock { span = seventh_hour } ∷ r_lock ∷ [] }) Rooted 11
    × Breaks with_foreign_lock Rooted 13
    × Breaks (with_copy seventh_hour now) Rooted 13
    × Breaks (with_copy day (negsuc 0)) Rooted 13
    × Breaks (record (with_copy day now) { pendings = the_pending ∷ record the_pending { id = id day now 0; sequence = s2 } ∷ [] }) Rooted 13

-- ---- upgrade rows: of another lock, of one that doesn't replace, or of a root that was added before the lock

abbrev pub LocksOfUpgrades : Type 0
LocksOfUpgrades =
    Breaks (record book { upgrades = upgrade_row_of 1 (hour_id 1) ∷ [] }) Rooted 12
    × Breaks (record book { upgrades = upgrade_row_of 3 (hour_id 1) ∷ [] }) Rooted 12
    × Breaks (record book { upgrades = upgrade_row_of 2 (hour_id 0) ∷ [] }) Rooted 12
    × Breaks (record book { posses = p_lock ∷ record r_lock { revoked = true } ∷ [] }) Rooted 12
    × Breaks (record book { posses = p_lock ∷ record r_lock { span = seventh_hour } ∷ [] }) Rooted 12

-- ---- cores: a part that is missing, a core of appending and of shared locks, none of a replacing one, and a chunk beside its lock

abbrev pub shared_lock : PosseRow
shared_lock = record third_lock { lock_kind = LockKinds.Shared; span = next_day }

abbrev pub CoresOfChunks : Type 0
CoresOfChunks =
    Breaks (record book { chunks = record hour_chunk { core = 1 } ∷ tomb_chunk ∷ [] }) Whole 6
    × Breaks (with_live (record (chunk next_day now1 2) { next = 2 })) Whole 8
    × BreaksNone (with_live (chunk next_day now1 1))
    × BreaksNone (with_dead (record (chunk next_day now1 2) { next = 2 }))
    × Breaks (with_dead (chunk day now 0)) Whole 8
    × Breaks (with_dead (chunk day now 1)) Whole 8

abbrev pub CoresOfShared : Type 0
CoresOfShared =
    Breaks (record (with_live (chunk next_day now1 1)) { posses = p_lock ∷ r_lock ∷ shared_lock ∷ []; next_lock = 4 }) Whole 9
    × Breaks (record (with_live (chunk seventh_hour now1 0)) { posses = p_lock ∷ record r_lock { lock_kind = LockKinds.Shared; revoked = true } ∷ shared_lock ∷ []; next_lock = 4; upgrades = [] }) Whole 9

-- ---- an upper chunk: with the copy, without it, with two, one that doesn't contain the root, and one without a core

-- the day's chunk of the replacing lock, with the copy of the upgrade row and these pendings' copies
abbrev pub day_chunk : ℕ → ChunkRow
day_chunk next = record (chunk day now 1) { next = next }

abbrev pub copy_of : SegId → ℕ → SegmentRow
copy_of root part = record { id = id day now part; used = true; root = root; commit = 4; tombstone = false }

abbrev pub replaced : List PendingRow → Book
replaced ps = record book {
  chunks = hour_chunk ∷ tomb_chunk ∷ day_chunk 4 ∷ [];
  segments = book.segments ++ used_row (id day now 0) 4 ∷ copy_of (hour_id 1) 1 ∷ [];
  upgrades = [];
  pendings = ps;
  publications = book.publications ++ record (appended (id day now 0)) { kind = PubKinds.Replace; spans = record { span = day; since = 1 } ∷ [] } ∷ [];
}

abbrev pub a_copy : ℕ → PendingRow
a_copy part = record the_pending { id = id day now part }

abbrev pub CopiesOfPendings : Type 0
CopiesOfPendings =
    BreaksNone (replaced (the_pending ∷ a_copy 2 ∷ []))
    × Breaks (replaced (the_pending ∷ [])) Copied 6
    × Breaks (replaced (the_pending ∷ a_copy 2 ∷ a_copy 3 ∷ [])) Copied 6
    × Breaks (with_live (chunk (record { start = minutes 330; end = minutes 420 }) now 1)) Copied 6

-- two chunks that nothing pends in
abbrev pub above_no_lock : ℕ → Book
above_no_lock core = record (with_live (chunk next_day v0 0)) {
  chunks = book.chunks ++ chunk next_day v0 0 ∷ chunk next_day now1 core ∷ [];
  segments = book.segments ++ used_row (id next_day v0 0) 4 ∷ used_row (id next_day now1 0) 5 ∷ [];
  publications = book.publications ++ appended (id next_day v0 0) ∷ record (appended (id next_day now1 0)) { kind = PubKinds.Over; spans = record { span = next_day; since = 0 } ∷ [] } ∷ [];
}

abbrev pub CoresOfUpperChunks : Type 0
CoresOfUpperChunks = BreaksNone (above_no_lock 1) × Breaks (above_no_lock 0) Copied 8
