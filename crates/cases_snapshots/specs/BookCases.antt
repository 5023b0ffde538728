-- Worked bytes of books. Numbers are big-endian.
use Rattle.std.specs.Prelude.{◌++◌, ◌∷◌, ◌≡◌, List, None, Ok, [], map, ℕ}
use Rattle.seg_names.specs.declared.seg_id.SegId.{SegId}
use Rattle.book_rows.specs.Answer.{empty_book}
use Rattle.book_rows.specs.declared.commands.Command.{Command}
use Rattle.book_rows.specs.declared.commands.Command.TheVariants as Commands
use Rattle.book_rows.specs.declared.kinds.LockKind.TheVariants as LockKinds
use Rattle.book_rows.specs.declared.kinds.PubKind.TheVariants as PubKinds
use Rattle.book_rows.specs.declared.kinds.TaskKind.TheVariants as TaskKinds
use Rattle.book_rows.specs.declared.rows.Book.{Book}
use Rattle.book_rows.specs.declared.rows.ChunkRow.{ChunkRow}
use Rattle.book_rows.specs.declared.rows.Publication.{Publication}
use Rattle.scenes.specs.Script.{after, day, id, insert, lock, now, r, start, t, w}
use Rattle.snap_codec.specs.Fits.{IsSpelled}
use Rattle.snap_codec.specs.Rows.{book_field, publication_field}
use Rattle.snap_codec.specs.Snapshots.{book_of}

-- these are the book's bytes, and read as the book
abbrev pub HasBytes : Book → List ℕ → Type 0
HasBytes b bytes = (book_field b ≡ bytes) × (book_of bytes ≡ Ok b)

-- ---- numbers and texts

abbrev pub zero_4 : List ℕ
zero_4 = 0 ∷ 0 ∷ 0 ∷ 0 ∷ []

abbrev pub zero_8 : List ℕ
zero_8 = 0 ∷ 0 ∷ 0 ∷ 0 ∷ 0 ∷ 0 ∷ 0 ∷ 0 ∷ []

abbrev pub one_4 : List ℕ
one_4 = 0 ∷ 0 ∷ 0 ∷ 1 ∷ []

abbrev pub one_8 : List ℕ
one_8 = 0 ∷ 0 ∷ 0 ∷ 0 ∷ 0 ∷ 0 ∷ 0 ∷ 1 ∷ []

-- 0000-01-01, the moment of the empty book: 62167219200000 milliseconds before 1970, in two's complement
abbrev pub first_moment : List ℕ
first_moment = 255 ∷ 255 ∷ 199 ∷ 117 ∷ 144 ∷ 251 ∷ 160 ∷ 0 ∷ []

-- 2024-04-01, and 2024-03-01 up to the day after
abbrev pub moment : List ℕ
moment = 0 ∷ 0 ∷ 1 ∷ 142 ∷ 150 ∷ 244 ∷ 168 ∷ 0 ∷ []

abbrev pub whole_day : List ℕ
whole_day = 0 ∷ 0 ∷ 1 ∷ 141 ∷ 247 ∷ 79 ∷ 132 ∷ 0 ∷ 0 ∷ 0 ∷ 1 ∷ 141 ∷ 252 ∷ 117 ∷ 224 ∷ 0 ∷ []

-- a text of one byte: the source `w`, the task `r`, the stream `t`, and `-`
abbrev pub text_w : List ℕ
text_w = 1 ∷ 119 ∷ []

abbrev pub text_r : List ℕ
text_r = 1 ∷ 114 ∷ []

abbrev pub text_t : List ℕ
text_t = 1 ∷ 116 ∷ []

abbrev pub text_none : List ℕ
text_none = 1 ∷ 45 ∷ []

-- the id of the day at the moment, part 0
abbrev pub day_id : List ℕ
day_id = text_w ++ whole_day ++ moment ++ zero_4

-- ---- the empty book

abbrev pub EmptyBookHasBytes : Type 0
EmptyBookHasBytes =
    HasBytes empty_book
    (first_moment ++ zero_8 ++ one_8 ++ zero_4 ++ zero_4 ++ zero_4 ++ zero_4 ++ zero_4 ++ zero_4 ++ zero_4 ++ zero_4 ++ zero_4 ++ zero_4)

-- ---- a reset to the offset 5

abbrev pub reset : Command
reset = Commands.Reset w t (record { partition = 0; offset = 5 } ∷ [])

abbrev pub offset_5 : List ℕ
offset_5 = 0 ∷ 0 ∷ 0 ∷ 0 ∷ 0 ∷ 0 ∷ 0 ∷ 5 ∷ []

-- code 5, the group `-`, no spans, no ids, and ranges of one partition that start where they end
abbrev pub reset_publication : List ℕ
reset_publication = 5 ∷ text_none ++ text_w ++ zero_4 ++ zero_4 ++ 1 ∷ text_t ++ one_4 ++ zero_4 ++ offset_5 ++ offset_5

abbrev pub ResetHasBytes : Type 0
ResetHasBytes =
    HasBytes (after (reset ∷ []))
    (first_moment ++ zero_8 ++ one_8 ++ zero_4 ++ zero_4 ++ zero_4 ++ zero_4 ++ zero_4 ++ zero_4
    ++ one_4 ++ reset_publication ++ one_4 ++ text_w ++ text_t ++ zero_4 ++ offset_5 ++ zero_4 ++ zero_4)

-- ---- the batch task `r` inserts what the day has

abbrev pub locked : List Command
locked = start r TaskKinds.Batch ++ lock r LockKinds.Exclusive day ∷ []

-- id and group, source, kind 2, priority 50, status 2, and no wants
abbrev pub task_bytes : List ℕ
task_bytes = text_r ++ text_r ++ text_w ++ 2 ∷ 0 ∷ 0 ∷ 0 ∷ 50 ∷ 2 ∷ zero_4

-- number 1, type 1, group, source, span, version, priority 50, one member, not revoked, since no publication
abbrev pub lock_bytes : List ℕ
lock_bytes = one_8 ++ 1 ∷ text_r ++ text_w ++ whole_day ++ moment ++ 0 ∷ 0 ∷ 0 ∷ 50 ∷ one_4 ++ text_r ++ 0 ∷ zero_8

-- core 1, next part 1
abbrev pub chunk_bytes : List ℕ
chunk_bytes = text_w ++ whole_day ++ moment ++ one_4 ++ one_4

-- a book of that task and lock, a chunk, a segment and a publication
abbrev pub with_publication : List ℕ → List ℕ → List ℕ
with_publication segment publication =
    moment ++ moment ++ 0 ∷ 0 ∷ 0 ∷ 0 ∷ 0 ∷ 0 ∷ 0 ∷ 2 ∷ one_4 ++ task_bytes ++ one_4 ++ lock_bytes ++ one_4 ++ chunk_bytes ++ one_4 ++ segment ++ zero_4 ++ zero_4
    ++ one_4 ++ publication ++ zero_4 ++ zero_4 ++ zero_4

-- code 2: group, source, the day with no number of publications, the id, no ranges
abbrev pub InsertedHasBytes : Type 0
InsertedHasBytes =
    HasBytes (after (locked ++ insert r day (id day now 0 ∷ []) ∷ []))
    (with_publication (day_id ++ 1 ∷ day_id ++ zero_8) (2 ∷ text_r ++ text_w ++ one_4 ++ whole_day ++ zero_8 ++ one_4 ++ day_id ++ 0 ∷ []))

-- code 6: the same with no ids, and the tombstone behind them
abbrev pub EmptiedHasBytes : Type 0
EmptiedHasBytes =
    HasBytes (after (locked ++ Commands.Insert r (day ∷ []) [] (id day now 0 ∷ []) None ∷ []))
    (with_publication (day_id ++ 3 ∷ day_id ++ zero_8) (6 ∷ text_r ++ text_w ++ one_4 ++ whole_day ++ zero_8 ++ zero_4 ++ one_4 ++ day_id ++ 0 ∷ []))

-- ---- replacements

-- one of the day, since the first publication
abbrev pub replacement : List SegId → List SegId → Publication
replacement adds empties = record { kind = PubKinds.Replace; group = r; source = w; spans = record { span = day; since = 1 } ∷ []; adds = adds; empties = empties; ranges = None }

abbrev pub ReplacedHasBytes : Type 0
ReplacedHasBytes =
    (publication_field (replacement (id day now 0 ∷ []) []) ≡ 3 ∷ text_r ++ text_w ++ one_4 ++ whole_day ++ one_8 ++ one_4 ++ day_id ++ 0 ∷ [])
    × (publication_field (replacement [] (id day now 0 ∷ [])) ≡ 7 ∷ text_r ++ text_w ++ one_4 ++ whole_day ++ one_8 ++ zero_4 ++ one_4 ++ day_id ++ 0 ∷ [])

-- ---- the core of a chunk

-- the same book, but for the cores of its chunks
abbrev pub with_core : ℕ → ChunkRow → ChunkRow
with_core core c = record c { core = core }

abbrev pub with_cores : ℕ → Book → Book
with_cores core b = record b { chunks = map (with_core core) b.chunks }

abbrev pub inserted : Book
inserted = after (locked ++ insert r day (id day now 0 ∷ []) ∷ [])

-- 2^32 - 1 fits its field, and so the book has bytes; with one more it has none
abbrev pub CoresFitFourBytes : Type 0
CoresFitFourBytes = IsSpelled inserted × IsSpelled (with_cores 4294967295 inserted) × (IsSpelled (with_cores 4294967296 inserted) → ⊥)
