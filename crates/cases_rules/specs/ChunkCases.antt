-- Chunks that ids go into: by visibility, by pendings, by the version of the lock; their parts and rows.
use Rattle.book_rows.specs.Answer.{answer, answers, next}
use Rattle.book_rows.specs.declared.commands.Command.{Command}
use Rattle.book_rows.specs.declared.rows.Book.{Book}
use Rattle.book_rows.specs.declared.rows.PendingRow.{PendingRow}
use Rattle.std.specs.Prelude.{List, None, Some, [], codes, true, ℕ, ◌++◌, ◌∷◌, ◌≡◌}
use Rattle.cases_rules.specs.PlaceCases.{half_minute_used}
use Rattle.cases_rules.specs.ReplaceCases.{both, chunk_row, replaced_under_pending}
use Rattle.scenes.specs.Asking.{Leaves, ask_hour, batch, compaction, conflict, exclusive, exclusive_at, gets, hours, just_before, lock_row, lost, now_plus, realtime, time}
use Rattle.scenes.specs.Script.{after, s, s2, s3, Answers, a, alloc, b, c, day, hour, id, insert, now, now1, now2, p, q, refuse, succeed, v0, w}
use Rattle.scenes.specs.Publishing.{pending_row_of, used_row}
use Rattle.scenes.specs.Bounds.{last_moment}
use Rattle.book_rows.specs.declared.commands.Command.TheVariants as Commands
use Rattle.iv_time.specs.declared.granularity.Granularity.TheVariants as Granularities
use Rattle.book_rows.specs.declared.kinds.LockKind.TheVariants as LockKinds
use Rattle.book_rows.specs.declared.kinds.PubKind.TheVariants as PubKinds
use Rattle.book_rows.specs.declared.replies.Refusal.TheVariants as Refusals
use Rattle.book_rows.specs.declared.replies.Reply.TheVariants as Replies
use Rattle.book_rows.specs.declared.kinds.Table.TheVariants as Tables

-- ---- the visible chunk

abbrev pub hour_inserted : List Command
hour_inserted = batch a ++ (exclusive a hour ∷ insert a hour (id hour now 0 ∷ []) ∷ succeed a ∷ [])

-- a used segment gives its chunk from its start up to its end
abbrev pub VisibleEdges : Type 0
VisibleEdges =
    Answers (hour_inserted ++ realtime p)
    (alloc p LockKinds.Append s (time 5 0) Granularities.Day
    ∷ alloc p LockKinds.Append s2 (just_before 6 0) Granularities.Minute
    ∷ alloc p LockKinds.Append s3 (time 6 0) Granularities.Day
    ∷ [])
    (gets (id hour now 1) 2 ∷ gets (id hour now 2) 2 ∷ gets (id (hours 6 7) v0 0) 3 ∷ [])

-- a day, then an hour late in it, then one early in it
abbrev pub two_hours_over_day : List Command
two_hours_over_day =
    batch a
    ++ (exclusive a day ∷ insert a day (id day now 0 ∷ []) ∷ succeed a ∷ [])
    ++ batch b
    ++ (exclusive b (hours 7 8) ∷ insert b (hours 7 8) (id (hours 7 8) now1 0 ∷ []) ∷ succeed b ∷ [])
    ++ batch q
    ++ (exclusive q (hours 5 6) ∷ insert q (hours 5 6) (id (hours 5 6) now2 0 ∷ []) ∷ succeed q ∷ [])

-- of the segments that cut a chunk the first in the order of rows is told, and the greater chunks are whole
abbrev pub FirstCutIsTold : Type 0
FirstCutIsTold =
    Answers (two_hours_over_day ++ realtime p)
    (ask_hour p s (time 10 0) ∷ ask_hour p s (time 5 30) ∷ ask_hour p s2 (time 7 30) ∷ ask_hour p s3 (time 8 0) ∷ [])
    (refuse (Refusals.ChunkCut (id (hours 7 8) now1 0))
    ∷ gets (id (hours 5 6) now2 1) 4
    ∷ gets (id (hours 7 8) now1 1) 5
    ∷ refuse (Refusals.ChunkCut (id (hours 7 8) now1 0))
    ∷ [])

-- a cut chunk is told before a lock in the way and before a lost one
abbrev pub CutBeforeLock : Type 0
CutBeforeLock =
    Answers (two_hours_over_day ++ (compaction c ++ (exclusive c day ∷ (realtime p ++ exclusive p day ∷ []))))
    (ask_hour c s (time 10 0) ∷ ask_hour c s (time 5 30) ∷ [])
    (refuse (Refusals.ChunkCut (id (hours 7 8) now1 0)) ∷ lost 4 ∷ [])

-- a replacement is visible before the pending under it, which its request still has
abbrev pub VisibleBeforePending : Type 0
VisibleBeforePending =
    Answers (both ++ replaced_under_pending)
    (ask_hour p s2 (time 5 20) ∷ ask_hour p s (time 5 20) ∷ [])
    (gets (id day now 2) 3 ∷ gets (id hour v0 0) 1 ∷ [])

-- ---- a pending's chunk

-- a pending gives its chunk from its start up to its end, whatever granularity is asked for
abbrev pub PendingEdges : Type 0
PendingEdges =
    Answers (realtime p ++ ask_hour p (codes "s0") (time 5 10) ∷ [])
    (alloc p LockKinds.Append s (time 5 0) Granularities.Minute
    ∷ alloc p LockKinds.Append s2 (just_before 6 0) Granularities.Year
    ∷ alloc p LockKinds.Append s3 (time 6 0) Granularities.Hour
    ∷ [])
    (gets (id hour v0 1) 1 ∷ gets (id hour v0 2) 1 ∷ gets (id (hours 6 7) v0 0) 2 ∷ [])

-- an id goes into the chunk of another task's pending, in a lock of its own
abbrev pub IntoOthersChunk : Type 0
IntoOthersChunk =
    Answers (realtime p ++ (batch q ++ ask_hour p s (time 5 10) ∷ []))
    (ask_hour q s2 (time 5 10) ∷ alloc q LockKinds.Shared s3 (time 5 10) Granularities.Hour ∷ [])
    (gets (id hour v0 1) 2 ∷ conflict 1 ∷ [])

-- two pendings that have the same time, which no list of commands makes
abbrev pub pendings_are : List PendingRow → Book
pendings_are rows = record (after (realtime p)) { chunks = chunk_row day v0 0 1 ∷ chunk_row hour v0 0 1 ∷ []; pendings = rows }

abbrev pub pending_day : PendingRow
pending_day = pending_row_of (id day v0 0) (id day v0 0) 1 s

abbrev pub pending_hour : PendingRow
pending_hour = pending_row_of (id hour v0 0) (id hour v0 0) 2 s2

-- of two pendings that have the time the first in the order of rows gives its chunk
abbrev pub FirstPendingsChunk : Type 0
FirstPendingsChunk =
    (answer (pendings_are (pending_day ∷ pending_hour ∷ [])) (ask_hour p s3 (time 5 10)) ≡ gets (id day v0 1) 1)
    × (answer (pendings_are (pending_hour ∷ pending_day ∷ [])) (ask_hour p s3 (time 5 10)) ≡ gets (id hour v0 1) 1)

-- ---- the version of the lock

-- a new chunk has the version of the lock that is granted, also of a wider one that is joined, and of the clock where that is later
abbrev pub VersionOfLock : Type 0
VersionOfLock =
    Answers (batch a ++ exclusive a day ∷ [])
    (alloc a LockKinds.Exclusive s (time 5 10) Granularities.Hour
    ∷ alloc a LockKinds.Exclusive s2 (time 7 10) Granularities.Hour
    ∷ alloc a LockKinds.Shared s3 (time 9 10) Granularities.Hour
    ∷ Commands.Unlock a 1
    ∷ alloc a LockKinds.Shared s3 (time 5 10) Granularities.Hour
    ∷ alloc a LockKinds.Exclusive s (time 30 0) Granularities.Hour
    ∷ [])
    (gets (id hour now 0) 1
    ∷ gets (id (hours 7 8) now 0) 1
    ∷ conflict 1
    ∷ Replies.Unlock true
    ∷ gets (id hour now1 0) 2
    ∷ gets (id (hours 30 31) now2 0) 3
    ∷ [])
    × Answers (batch a ++ Commands.Manage (now_plus 10) ∷ []) (alloc a LockKinds.Exclusive s (time 5 10) Granularities.Hour ∷ []) (gets (id hour (now_plus 10) 0) 1 ∷ [])

-- where the versions have ended, an appending lock alone gives an id
abbrev pub NoVersionNoId : Type 0
NoVersionNoId =
    Answers (batch a ++ exclusive_at a day last_moment ∷ [])
    (alloc a LockKinds.Exclusive s (time 30 0) Granularities.Hour
    ∷ alloc a LockKinds.Shared s (time 30 0) Granularities.Hour
    ∷ alloc a LockKinds.Append s (time 30 0) Granularities.Hour
    ∷ alloc a LockKinds.Exclusive s2 (time 5 10) Granularities.Hour
    ∷ [])
    (refuse Refusals.ClockEnd ∷ refuse Refusals.ClockEnd ∷ gets (id (hours 30 31) v0 0) 2 ∷ gets (id hour last_moment 0) 1 ∷ [])

-- ---- rows

abbrev pub allocated_once : Book
allocated_once = after (realtime p ++ ask_hour p s (time 5 10) ∷ [])

-- the first id makes its chunk, without a core, and its pending; the next one moves the next part, remembers the previous id, and sets the clock
abbrev pub AllocatedRows : Type 0
AllocatedRows =
    (allocated_once.chunks ≡ chunk_row hour v0 0 1 ∷ [])
    × (allocated_once.pendings ≡ pending_row_of (id hour v0 0) (id hour v0 0) 1 s ∷ [])
    × (allocated_once.posses ≡ lock_row 1 LockKinds.Append p hour v0 75 ∷ [])
    × (allocated_once.segments ≡ [])
    × (allocated_once.publications ≡ [])
    × (next allocated_once (Commands.Allocate p LockKinds.Append s (Some (id hour v0 0)) (time 5 10) Granularities.Hour now2)
    ≡ record allocated_once {
      clock = now2;
      chunks = chunk_row hour v0 0 2 ∷ [];
      pendings = pending_row_of (id hour v0 0) (id hour v0 0) 1 s
          ∷ record (pending_row_of (id hour v0 1) (id hour v0 1) 1 s) { previous = Some (id hour v0 0) }
          ∷ [];
    })

-- a refused allocation leaves no chunk and no lock behind
abbrev pub RefusedMakesNoChunk : Type 0
RefusedMakesNoChunk =
    Leaves (after (batch a ++ (batch b ++ exclusive a hour ∷ []))) (ask_hour b s (time 5 10))
    × Leaves (after (half_minute_used ++ realtime p)) (alloc p LockKinds.Append s (time 5 10) Granularities.Minute)
    × Leaves allocated_once (ask_hour p s (time 7 10))

-- ---- the end of the parts

-- an hour's chunk with one segment, and with so many parts given
abbrev pub parts_given : ℕ → Book
parts_given n =
    record (after (realtime p)) {
      chunks = chunk_row hour v0 0 n ∷ [];
      segments = used_row (id hour v0 5) (id hour v0 5) 0 ∷ [];
      publications = record { kind = PubKinds.Append; group = q; source = w; spans = []; adds = id hour v0 5 ∷ []; empties = []; ranges = None } ∷ [];
    }

-- a chunk gives a million parts and no more; its full chunk doesn't send an id elsewhere
abbrev pub PartsEnd : Type 0
PartsEnd =
    answers (parts_given 999999) (ask_hour p s (time 5 10) ∷ ask_hour p s2 (time 5 10) ∷ ask_hour p s (time 5 10) ∷ [])
    ≡ gets (id hour v0 999999) 1 ∷ refuse (Refusals.TableFull Tables.Parts) ∷ gets (id hour v0 999999) 1 ∷ []
