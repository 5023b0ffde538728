-- Locks: revoking, conflicts, what goes together, versions, and tasks that wait.
use Rattle.book_rows.specs.declared.rows.Book.{Book}
use Rattle.book_rows.specs.Answer.{answer, book_after, changes, empty_book, next}
use Rattle.std.specs.Prelude.{◌++◌, ◌∷◌, [], codes, false, pos, true, ◌≡◌}
use Rattle.scenes.specs.Script.{Answers, a, alloc, append, b, c, day, hour, id, lock, minutes, next_day, now, now1, now2, p, r, refuse, start, v0, x, y}
use Rattle.scenes.specs.Bounds.{last_moment}
use Rattle.book_rows.specs.declared.commands.Command.TheVariants as Commands
use Rattle.iv_time.specs.declared.granularity.Granularity.TheVariants as Granularities
use Rattle.book_rows.specs.declared.kinds.LockKind.TheVariants as LockKinds
use Rattle.book_rows.specs.declared.replies.Refusal.TheVariants as Refusals
use Rattle.book_rows.specs.declared.replies.Reply.TheVariants as Replies
use Rattle.book_rows.specs.declared.kinds.TaskKind.TheVariants as TaskKinds

-- ---- a lock of lower priority is revoked, and one of equal priority refuses

abbrev pub RevokedAndRefused : Type 0
RevokedAndRefused =
    Answers (start a TaskKinds.Batch ++ (start b TaskKinds.Batch ++ start c TaskKinds.Compaction))
    (lock c LockKinds.Exclusive hour ∷ lock a LockKinds.Exclusive hour ∷ lock b LockKinds.Exclusive hour ∷ [])
    (Replies.Lock 1 [] hour now ∷ Replies.Lock 2 (1 ∷ []) hour now1 ∷ refuse (Refusals.LockConflict 2) ∷ [])

-- ---- what a revoked lock held is gone, until the task leaves it

abbrev pub LostUntilLeft : Type 0
LostUntilLeft =
    Answers (start a TaskKinds.Batch ++ start c TaskKinds.Compaction)
    (alloc c LockKinds.Exclusive (codes "s") (minutes 310) Granularities.Hour
    ∷ lock a LockKinds.Exclusive hour
    ∷ lock c LockKinds.Exclusive hour
    ∷ append c (id hour now 0 ∷ [])
    ∷ Commands.Unlock c 1
    ∷ Commands.Unlock c 1
    ∷ Commands.Unlock a 2
    ∷ lock c LockKinds.Exclusive hour
    ∷ [])
    (Replies.Allocate (id hour now 0) 1 []
    ∷ Replies.Lock 2 (1 ∷ []) hour now1
    ∷ refuse (Refusals.LockRevoked 1)
    ∷ refuse (Refusals.NotAllocated (id hour now 0))
    ∷ Replies.Unlock true
    ∷ Replies.Unlock false
    ∷ Replies.Unlock true
    ∷ Replies.Lock 3 [] hour now2
    ∷ [])

-- ---- an appending lock goes with a replacing one that contains it, and with no other

abbrev pub AppendsInside : Type 0
AppendsInside =
    Answers (start r TaskKinds.Batch ++ start p TaskKinds.Realtime)
    (lock r LockKinds.Replace day ∷ lock p LockKinds.Append hour ∷ [])
    (Replies.Lock 1 [] day now ∷ Replies.Lock 2 [] hour v0 ∷ [])

abbrev pub AppendsAcross : Type 0
AppendsAcross =
    Answers (start r TaskKinds.Batch ++ (start x TaskKinds.Compaction ++ start y TaskKinds.Realtime))
    (lock r LockKinds.Replace hour ∷ lock x LockKinds.Append day ∷ lock y LockKinds.Append day ∷ [])
    (Replies.Lock 1 [] hour now ∷ refuse (Refusals.LockConflict 1) ∷ Replies.Lock 2 (1 ∷ []) day v0 ∷ [])

-- ---- versions end with the last instant; an appending lock needs none

abbrev pub ClockEnds : Type 0
ClockEnds =
    Answers (start a TaskKinds.Batch)
    (Commands.Lock a LockKinds.Exclusive day last_moment
    ∷ lock a LockKinds.Exclusive next_day
    ∷ lock a LockKinds.Append next_day
    ∷ alloc a LockKinds.Append (codes "s") (pos 253402300799000) Granularities.Minute
    ∷ [])
    (Replies.Lock 1 [] day last_moment
    ∷ refuse Refusals.ClockEnd
    ∷ Replies.Lock 2 [] next_day v0
    ∷ refuse (Refusals.NoBucket (pos 253402300799000))
    ∷ [])

-- ---- a task's own lock is in its way, and a wider one of the same kind is joined

abbrev pub OwnLockInTheWay : Type 0
OwnLockInTheWay =
    Answers (start a TaskKinds.Batch)
    (lock a LockKinds.Shared day ∷ lock a LockKinds.Exclusive hour ∷ lock a LockKinds.Shared hour ∷ [])
    (Replies.Lock 1 [] day now ∷ refuse (Refusals.LockConflict 1) ∷ Replies.Lock 1 [] day now ∷ [])

-- ---- a lock that the task holds already is granted again, and sets the clock

abbrev pub one_lock : Book
one_lock = book_after empty_book (start a TaskKinds.Batch ++ lock a LockKinds.Exclusive day ∷ [])

abbrev pub GrantedAgain : Type 0
GrantedAgain =
    (answer one_lock (Commands.Lock a LockKinds.Exclusive hour now2) ≡ Replies.Lock 1 [] day now)
    × (changes one_lock (Commands.Lock a LockKinds.Exclusive hour now2) ≡ true)
    × ((next one_lock (Commands.Lock a LockKinds.Exclusive hour now2)).clock ≡ now2)
