-- The shape: keys, versions, members, chunk rows of ids, commits and roots.
use Rattle.std.specs.Prelude.{List, [], ℕ, ◌++◌, ◌∷◌}
use Rattle.book_rows.specs.declared.kinds.PubKind.TheVariants as PubKinds
use Rattle.book_rows.specs.declared.kinds.TaskStatus.TheVariants as Statuses
use Rattle.book_rows.specs.declared.rows.Book.{Book}
use Rattle.book_rows.specs.declared.rows.PosseRow.{PosseRow}
use Rattle.book_rows.specs.declared.rows.SegmentRow.{SegmentRow}
use Rattle.scenes.specs.Publishing.{foreign_id, hour_id, pending_row_of, seventh_id}
use Rattle.scenes.specs.Script.{day, next_day, now, now1, p, r, s, s2, v, v0, x}
use Rattle.scenes.specs.Rows.{p_lock, p_row, r_lock, r_row}
use Rattle.laws_unsound.specs.Unsound.{Shape}
use Rattle.cases_unsound.specs.SoundBook.{Breaks, BreaksNone, appended, book, emptied, ended_replica, hour_chunk, published, read, reading, running_replica, the_offset, the_pending, the_supervisor, the_upgrade, tomb, tomb_chunk, used_row}

-- ---- keys: the first of the two rows

abbrev pub KeysOfTasksAndLocks : Type 0
KeysOfTasksAndLocks =
    Breaks (record book { tasks = book.tasks ++ r_row ∷ [] }) Shape 1
    × Breaks (record book { posses = p_lock ∷ r_lock ∷ record r_lock { source = v } ∷ [] }) Shape 5
    × Breaks (record book { posses = r_lock ∷ p_lock ∷ [] }) Shape 4
    × Breaks (record book { next_lock = 2 }) Shape 5

abbrev pub KeysOfChunksAndIds : Type 0
KeysOfChunksAndIds =
    Breaks (record book { chunks = hour_chunk ∷ tomb_chunk ∷ hour_chunk ∷ [] }) Shape 6
    × Breaks (record book { segments = book.segments ++ used_row (hour_id 0) 0 ∷ [] }) Shape 8
    × Breaks (record book { pendings = pending_row_of (hour_id 1) (hour_id 1) 1 s ∷ [] }) Shape 9
    × Breaks (record book { upgrades = the_upgrade ∷ the_upgrade ∷ [] }) Shape 12

abbrev pub KeysOfStreams : Type 0
KeysOfStreams =
    Breaks (record book { offsets = the_offset ∷ the_offset ∷ [] }) Shape 17
    × Breaks (record book { offsets = record the_offset { partition = 1 } ∷ the_offset ∷ [] }) Shape 17
    × Breaks (record book { supervisors = the_supervisor ∷ the_supervisor ∷ [] }) Shape 18
    × Breaks (record book { sequences = published ∷ reading ∷ reading ∷ [] }) Shape 20

-- two root pendings of one source, sequence and previous id, and of two sequences
abbrev pub two_pendings : List ℕ → Book
two_pendings sequence = record book { chunks = record hour_chunk { next = 4 } ∷ tomb_chunk ∷ []; pendings = the_pending ∷ pending_row_of (hour_id 3) (hour_id 3) 1 sequence ∷ [] }

abbrev pub KeysOfRequests : Type 0
KeysOfRequests = Breaks (two_pendings s) Shape 11 × BreaksNone (two_pendings s2)

-- an id that two publications add, one that is added and still pending, and one that is added and a tombstone
abbrev pub IdsOnce : Type 0
IdsOnce =
    Breaks (record book { publications = book.publications ++ appended (hour_id 1) ∷ [] }) Shape 14
    × Breaks (record book { publications = book.publications ++ appended (hour_id 2) ∷ [] }) Shape 11
    × Breaks (record book { publications = appended (hour_id 0) ∷ appended (hour_id 1) ∷ record emptied { adds = foreign_id day ∷ [] } ∷ read ∷ [] }) Shape 15

-- ---- versions

abbrev pub with_second : PosseRow → Book
with_second q = record book { posses = p_lock ∷ q ∷ [] }

abbrev pub VersionsOfRows : Type 0
VersionsOfRows =
    Breaks (with_second (record r_lock { version = now1 })) Shape 5
    × Breaks (record book { chunks = hour_chunk ∷ tomb_chunk ∷ record tomb_chunk { version = now1 } ∷ [] }) Shape 8
    × Breaks (record book { posses = record p_lock { version = now } ∷ r_lock ∷ [] }) Shape 4
    × Breaks (with_second (record r_lock { version = v0 })) Shape 5
    × Breaks (record book { posses = p_lock ∷ r_lock ∷ record r_lock { number = 3; span = next_day } ∷ []; next_lock = 4 }) Shape 5
    × BreaksNone (record book { posses = p_lock ∷ r_lock ∷ record r_lock { number = 3; span = next_day; version = now1; since = 4 } ∷ []; next_lock = 4; last = now1 })

-- ---- members: none, one twice, one that isn't there, waits, or is of another group, source or priority

abbrev pub MembersOfLocks : Type 0
MembersOfLocks =
    Breaks (with_second (record r_lock { members = [] })) Shape 5
    × Breaks (with_second (record r_lock { members = r ∷ r ∷ [] })) Shape 5
    × Breaks (with_second (record r_lock { members = r ∷ x ∷ [] })) Shape 5
    × Breaks (record book { tasks = p_row ∷ record r_row { status = Statuses.Waiting } ∷ ended_replica ∷ running_replica ∷ [] }) Shape 5
    × Breaks (with_second (record r_lock { group = p })) Shape 5
    × Breaks (with_second (record r_lock { source = v })) Shape 5
    × Breaks (with_second (record r_lock { priority = 51 })) Shape 5

-- ---- an id without its chunk row, or with a part that isn't given yet

abbrev pub ChunksOfIds : Type 0
ChunksOfIds =
    Breaks (record book { chunks = record hour_chunk { next = 1 } ∷ tomb_chunk ∷ [] }) Shape 9
    × Breaks (record book { chunks = record hour_chunk { next = 2 } ∷ tomb_chunk ∷ [] }) Shape 11
    × Breaks (record book { publications = book.publications ++ appended (seventh_id 0) ∷ [] }) Shape 17
    × Breaks (record book { publications = appended (hour_id 0) ∷ appended (hour_id 1) ∷ record emptied { empties = foreign_id day ∷ foreign_id next_day ∷ [] } ∷ read ∷ [] }) Shape 15

-- ---- publications that are still to come

abbrev pub CommitsToCome : Type 0
CommitsToCome =
    Breaks (record book { segments = used_row (hour_id 0) 0 ∷ used_row (hour_id 1) 4 ∷ tomb ∷ [] }) Shape 9
    × BreaksNone (record book { segments = used_row (hour_id 0) 0 ∷ used_row (hour_id 1) 3 ∷ tomb ∷ [] })
    × Breaks (with_second (record r_lock { since = 5 })) Shape 5
    × Breaks (record book { publications = appended (hour_id 0) ∷ appended (hour_id 1) ∷ record emptied { kind = PubKinds.Replace; spans = record { span = day; since = 5 } ∷ [] } ∷ read ∷ [] }) Shape 15

-- ---- tombstones: one with another root, of a part above 0, of another core, of another publication; and roots that nothing, or a later publication, added

abbrev pub with_tomb : SegmentRow → Book
with_tomb row = record book { segments = used_row (hour_id 0) 0 ∷ used_row (hour_id 1) 1 ∷ row ∷ [] }

abbrev pub TombstonesOfPublications : Type 0
TombstonesOfPublications =
    Breaks (with_tomb (record tomb { root = hour_id 0 })) Shape 10
    × Breaks (record (with_tomb (record tomb { id = record (foreign_id day) { part = 1 }; root = record (foreign_id day) { part = 1 } })) { chunks = hour_chunk ∷ record tomb_chunk { next = 2 } ∷ [] }) Shape 10
    × Breaks (record book { chunks = hour_chunk ∷ record tomb_chunk { core = 0 } ∷ [] }) Shape 10
    × Breaks (with_tomb (record tomb { commit = 0 })) Shape 10

abbrev pub RootsOfSegments : Type 0
RootsOfSegments =
    Breaks (record book { segments = used_row (hour_id 0) 0 ∷ record (used_row (hour_id 1) 1) { root = hour_id 2 } ∷ tomb ∷ [] }) Shape 9
    × Breaks (record book { segments = used_row (hour_id 0) 0 ∷ used_row (hour_id 1) 0 ∷ tomb ∷ [] }) Shape 9
