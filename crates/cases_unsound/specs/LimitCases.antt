-- The shape: limits of the book, of its rows, and of what kinds and states exclude.
use Rattle.std.specs.Prelude.{None, [], codes, negsuc, ◌++◌, ◌∷◌}
use Rattle.seg_names.specs.declared.seg_id.SegId.{SegId}
use Rattle.book_rows.specs.declared.kinds.PubKind.TheVariants as PubKinds
use Rattle.book_rows.specs.declared.kinds.SeqState.TheVariants as States
use Rattle.book_rows.specs.declared.rows.Book.{Book}
use Rattle.book_rows.specs.declared.rows.Publication.{Publication}
use Rattle.book_rows.specs.declared.rows.SpanSince.{SpanSince}
use Rattle.scenes.specs.Publishing.{hour_id, range, ranges}
use Rattle.scenes.specs.Script.{day, id, next_day, now, p, v}
use Rattle.scenes.specs.Rows.{p_lock, p_row, r_lock, r_row}
use Rattle.scenes.specs.Supervising.{at_offset}
use Rattle.scenes.specs.Bounds.{after_last, last_moment}
use Rattle.laws_unsound.specs.Unsound.{Rooted, Shape}
use Rattle.cases_unsound.specs.SoundBook.{Breaks, BreaksNone, appended, book, emptied, ended_replica, hour_chunk, published, read, reading, running_replica, the_offset, the_pending, the_supervisor, the_upgrade, tomb, tomb_chunk, used_row}

-- an id that ends at no instant
abbrev pub no_id : SegId
no_id = id (record { start = day.start; end = after_last }) now 0

-- ---- numbers of the book, which have no row

abbrev pub NumbersOfTheBook : Type 0
NumbersOfTheBook =
    BreaksNone (record book { next_lock = 9007199254740992 })
    × Breaks (record book { next_lock = 9007199254740993 }) Shape 0
    × BreaksNone (record book { clock = last_moment; last = last_moment })
    × Breaks (record book { clock = after_last }) Shape 0
    × Breaks (record book { last = after_last }) Shape 0
    × Breaks (record book { last = negsuc 0 }) Shape 0

-- ---- a row out of its limits, table by table

abbrev pub RowsOutOfLimits : Type 0
RowsOutOfLimits =
    Breaks (record book { tasks = p_row ∷ record r_row { task = [] } ∷ ended_replica ∷ running_replica ∷ [] }) Shape 1
    × Breaks (record book { posses = p_lock ∷ record r_lock { group = [] } ∷ [] }) Shape 5
    × Breaks (record book { chunks = record hour_chunk { source = [] } ∷ tomb_chunk ∷ [] }) Shape 6
    × Breaks (record book { segments = used_row (hour_id 0) 0 ∷ record (used_row (hour_id 1) 1) { root = no_id } ∷ tomb ∷ [] }) Shape 9
    × Breaks (record book { pendings = record the_pending { sequence = [] } ∷ [] }) Shape 11
    × Breaks (record book { upgrades = record the_upgrade { root = no_id } ∷ [] }) Shape 12
    × Breaks (record book { publications = appended (hour_id 0) ∷ appended (hour_id 1) ∷ record emptied { group = [] } ∷ read ∷ [] }) Shape 15
    × Breaks (record book { offsets = record the_offset { stream = [] } ∷ [] }) Shape 17
    × Breaks (record book { supervisors = record the_supervisor { replicas = 0 } ∷ [] }) Shape 18
    × Breaks (record book { sequences = published ∷ record reading { opened = after_last } ∷ [] }) Shape 20

-- the next part of a chunk
abbrev pub PartsOfChunks : Type 0
PartsOfChunks =
    BreaksNone (record book { chunks = record hour_chunk { next = 1000000 } ∷ tomb_chunk ∷ [] })
    × Breaks (record book { chunks = record hour_chunk { next = 1000001 } ∷ tomb_chunk ∷ [] }) Shape 6

-- ---- numbers of locks, each in the row that has it: where it may be one, what is missing is the lock

abbrev pub NumbersOfLocks : Type 0
NumbersOfLocks =
    Breaks (record book { posses = p_lock ∷ record r_lock { number = 9007199254740992 } ∷ []; next_lock = 9007199254740992 }) Shape 5
    × Breaks (record book { pendings = record the_pending { posse = 9007199254740992 } ∷ [] }) Shape 11
    × Breaks (record book { pendings = record the_pending { posse = 9007199254740991 } ∷ [] }) Rooted 11
    × Breaks (record book { upgrades = record the_upgrade { posse = 9007199254740992 } ∷ [] }) Shape 12
    × Breaks (record book { upgrades = record the_upgrade { posse = 9007199254740991 } ∷ [] }) Rooted 12

-- ---- what a kind of publication excludes: one more publication, in row 17

abbrev pub and_one : Publication → Book
and_one m = record book { publications = book.publications ++ m ∷ [] }

abbrev pub next_span : SpanSince
next_span = record { span = next_day; since = 0 }

abbrev pub dropped : Publication
dropped = record { kind = PubKinds.Drop; group = codes "-"; source = v; spans = next_span ∷ []; adds = []; empties = []; ranges = None }

abbrev pub was_reset : Publication
was_reset = record { kind = PubKinds.Reset; group = codes "-"; source = v; spans = []; adds = []; empties = []; ranges = ranges [] }

abbrev pub KindsOfPublications : Type 0
KindsOfPublications =
    Breaks (and_one (record read { group = p; spans = next_span ∷ [] })) Shape 17
    × Breaks (and_one (record dropped { kind = PubKinds.Over; spans = record next_span { since = 1 } ∷ [] })) Shape 17
    × BreaksNone (and_one (record dropped { kind = PubKinds.Replace; spans = record next_span { since = 1 } ∷ [] }))

abbrev pub DropsByKind : Type 0
DropsByKind =
    BreaksNone (and_one dropped)
    × Breaks (and_one (record dropped { group = p })) Shape 17
    × Breaks (and_one (record dropped { spans = [] })) Shape 17
    × Breaks (and_one (record dropped { spans = next_span ∷ next_span ∷ [] })) Shape 17
    × Breaks (and_one (record dropped { spans = record next_span { since = 1 } ∷ [] })) Shape 17

abbrev pub ResetsByKind : Type 0
ResetsByKind =
    BreaksNone (and_one was_reset)
    × Breaks (and_one (record was_reset { group = p })) Shape 17
    × Breaks (and_one (record was_reset { spans = next_span ∷ [] })) Shape 17
    × Breaks (and_one (record was_reset { ranges = None })) Shape 17
    × Breaks (and_one (record was_reset { ranges = ranges (range 0 5 6 ∷ []) })) Shape 17

-- ---- what the state of a sequence excludes

abbrev pub StatesOfSequences : Type 0
StatesOfSequences =
    Breaks (record book { sequences = published ∷ record reading { closed = now } ∷ [] }) Shape 20
    × Breaks (record book { sequences = published ∷ record reading { ends = at_offset 10 } ∷ [] }) Shape 20
    × Breaks (record book { sequences = published ∷ record reading { state = States.Paused; closed = now } ∷ [] }) Shape 20
    × BreaksNone (record book { sequences = published ∷ record reading { state = States.Paused } ∷ [] })
    × BreaksNone (record book { sequences = published ∷ record reading { state = States.Closed; closed = now; ends = at_offset 12 } ∷ [] })
