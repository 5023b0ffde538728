-- Worked cases of the laws: in each the premises are met, and what the law says is seen.
use Rattle.std.specs.Prelude.{◌&&◌, ◌++◌, ◌∷◌, ◌≡◌, List, None, Ok, Some, [], codes, false, length, pos, true}
use Rattle.std.specs.List.{list_all}
use Rattle.iv_span.specs.Extent.{has}
use Rattle.iv_time.specs.declared.granularity.Granularity.TheVariants as Granularities
use Rattle.seg_names.specs.declared.seg_id.SegId.{SegId}
use Rattle.book_rows.specs.Allocation.{fits_request, known_pending, place}
use Rattle.book_rows.specs.Answer.{answer, changes, next}
use Rattle.book_rows.specs.Append.{is_allocated}
use Rattle.book_rows.specs.Form.{AllKeepForm, keeps_form}
use Rattle.book_rows.specs.Locks.{clear, posse_of}
use Rattle.book_rows.specs.Over.{Inserting, Replacing}
use Rattle.book_rows.specs.Publications.{appending, in_spans, publication_of, repeat_of}
use Rattle.book_rows.specs.Shape.{AreDistinct, same_version}
use Rattle.book_rows.specs.declared.answers.Clear.TheVariants as Clears
use Rattle.book_rows.specs.declared.commands.Command.TheVariants as Commands
use Rattle.book_rows.specs.declared.kinds.LockKind.TheVariants as LockKinds
use Rattle.book_rows.specs.declared.kinds.PubKind.TheVariants as PubKinds
use Rattle.book_rows.specs.declared.replies.Refusal.TheVariants as Refusals
use Rattle.book_rows.specs.declared.replies.Reply.TheVariants as Replies
use Rattle.book_rows.specs.declared.rows.Book.{Book}
use Rattle.laws_revocation.specs.Commits.{IsRevokedIn, locks_of_publish, publishes_under}
use Rattle.laws_revocation.specs.GivenIds.{is_given, next_part}
use Rattle.laws_revocation.specs.LockNumbers.{HasNumbers}
use Rattle.laws_revocation.specs.LostLocks.{HasLost, ReachesSpan, Runs}
use Rattle.cases_shown.specs.RevocationScenes.{alloc, allocated_run, c_row, copied_run, half_lost, hour_before, insert, known_run, left_run, lost_row, numbers, pending_ids, pending_locks, revocations, revoked_run, started, two_ids}
use Rattle.scenes.specs.Script.{a, after, append, c, hour, id, lock, now, now1, now2, w}
use Rattle.scenes.specs.Publishing.{hour_id, replace_spans}
use Rattle.scenes.specs.Rows.{hour_pending}

-- ---- numbers, pendings and ids

-- lock 1 is revoked by the command that makes lock 2, goes with its member, and the next lock is 3
abbrev pub LockComesAndGoes : Type 0
LockComesAndGoes =
    (numbers (after allocated_run) ≡ 1 ∷ [])
    × (revocations (after allocated_run) ≡ false ∷ [])
    × (numbers (after revoked_run) ≡ 1 ∷ 2 ∷ [])
    × (revocations (after revoked_run) ≡ true ∷ false ∷ [])
    × (numbers (after left_run) ≡ [])
    × (numbers (after (left_run ++ alloc c ∷ [])) ≡ 3 ∷ [])

-- its pending goes by the command that revokes it, and the next pending is of the next lock
abbrev pub PendingComesAndGoes : Type 0
PendingComesAndGoes =
    (pending_locks (after allocated_run) ≡ 1 ∷ [])
    × (revocations (after revoked_run) ≡ true ∷ false ∷ [])
    × (pending_locks (after revoked_run) ≡ [])
    × (numbers (after left_run) ≡ [])
    × (pending_locks (after (left_run ++ alloc c ∷ [])) ≡ 3 ∷ [])

-- an id is given as it is allocated, and is so while no pending has it; the next one has the next part
abbrev pub IdIsGivenOnce : Type 0
IdIsGivenOnce =
    AllKeepForm (left_run ++ alloc c ∷ [])
    × (is_given (after started).chunks (hour_id 0) ≡ false)
    × (answer (after started) (alloc c) ≡ Replies.Allocate (hour_id 0) 1 [])
    × (pending_ids (after allocated_run) ≡ hour_id 0 ∷ [])
    × (is_given (after allocated_run).chunks (hour_id 0) ≡ true)
    × (pending_ids (after left_run) ≡ [])
    × (is_given (after left_run).chunks (hour_id 0) ≡ true)
    × (next_part (after left_run).chunks (hour_id 0) ≡ 1)
    × (answer (after left_run) (alloc c) ≡ Replies.Allocate (hour_id 1) 3 [])
    × (next_part (after (left_run ++ alloc c ∷ [])).chunks (hour_id 0) ≡ 2)

-- a copy is a pending of its root's lock, and both go where that ends; its id is given once too
abbrev pub CopyIsGivenOnce : Type 0
CopyIsGivenOnce =
    AllKeepForm (copied_run ++ Commands.Unlock c 1 ∷ [])
    × (pending_ids (after copied_run) ≡ hour_id 0 ∷ id hour now 1 ∷ [])
    × (pending_locks (after copied_run) ≡ 1 ∷ 1 ∷ [])
    × (is_given (after allocated_run).chunks (id hour now 1) ≡ false)
    × (is_given (after copied_run).chunks (id hour now 1) ≡ true)
    × (numbers (after (copied_run ++ Commands.Unlock c 1 ∷ [])) ≡ 2 ∷ [])
    × (pending_ids (after (copied_run ++ Commands.Unlock c 1 ∷ [])) ≡ [])
    × (is_given (after (copied_run ++ Commands.Unlock c 1 ∷ [])).chunks (id hour now 1) ≡ true)

-- ---- refusals

-- the check of the hour that the compaction lost, and its request for a lock there
abbrev pub LockIsLost : Type 0
LockIsLost =
    Runs (after revoked_run) c c_row
    × HasLost (after revoked_run).posses c w hour
    × (clear (after revoked_run).posses c w hour LockKinds.Exclusive ≡ Clears.Revoked 1)
    × (answer (after revoked_run) (lock c LockKinds.Append hour) ≡ Replies.Refused (Refusals.LockRevoked 1))

-- its request for a new id there
abbrev pub NewIdIsLost : Type 0
NewIdIsLost =
    Runs (after revoked_run) c c_row
    × HasLost (after revoked_run).posses c w hour
    × (known_pending (after revoked_run).pendings w (codes "s") None ≡ None)
    × (place (after revoked_run).segments (after revoked_run).pendings w (pos 1709271000000) Granularities.Hour ≡ Ok (record { span = hour; version = None }))
    × (answer (after revoked_run) (alloc c) ≡ Replies.Refused (Refusals.LockRevoked 1))

-- its request for an id that is known, of a lock that it has still
abbrev pub KnownIdIsLost : Type 0
KnownIdIsLost =
    Runs (after known_run) c c_row
    × HasLost (after known_run).posses c w hour
    × (known_pending (after known_run).pendings w (codes "s") None ≡ Some hour_pending)
    × ((has hour (pos 1709271000000) && fits_request c_row LockKinds.Append (posse_of 1 (after known_run).posses)) ≡ true)
    × (answer (after known_run) (alloc c) ≡ Replies.Refused (Refusals.LockRevoked 2))

abbrev pub both_ids : List SegId
both_ids = id hour_before now 0 ∷ id hour now1 0 ∷ []

-- its insert into the hour before, which it has still, and the hour that it lost
abbrev pub InsertIsLost : Type 0
InsertIsLost =
    ReachesSpan (after (half_lost LockKinds.Exclusive)) c c_row Inserting (in_spans (hour_before ∷ hour ∷ []) both_ids [] None) (hour_before ∷ [])
    × HasLost (after (half_lost LockKinds.Exclusive)).posses c w hour
    × (answer (after (half_lost LockKinds.Exclusive)) (insert c (hour_before ∷ hour ∷ []) both_ids) ≡ Replies.Refused (Refusals.LockRevoked 2))
    × (changes (after (half_lost LockKinds.Exclusive)) (insert c (hour_before ∷ hour ∷ []) both_ids) ≡ false)

-- its replacement of the same two hours
abbrev pub ReplaceIsLost : Type 0
ReplaceIsLost =
    ReachesSpan (after (half_lost LockKinds.Replace)) c c_row Replacing (in_spans (hour_before ∷ hour ∷ []) both_ids [] None) (hour_before ∷ [])
    × HasLost (after (half_lost LockKinds.Replace)).posses c w hour
    × (answer (after (half_lost LockKinds.Replace)) (replace_spans c (hour_before ∷ hour ∷ []) both_ids) ≡ Replies.Refused (Refusals.LockRevoked 2))
    × (changes (after (half_lost LockKinds.Replace)) (replace_spans c (hour_before ∷ hour ∷ []) both_ids) ≡ false)

abbrev pub two_hour_ids : List SegId
two_hour_ids = id hour_before (pos 0) 0 ∷ hour_id 0 ∷ []

-- its append of an id that it has still and of one that it lost
abbrev pub AppendIsLost : Type 0
AppendIsLost =
    Runs (after two_ids) c c_row
    × (repeat_of (publication_of PubKinds.Append c_row [] (appending two_hour_ids None)) (after two_ids).publications ≡ None)
    × (list_all (is_allocated (after two_ids).posses (after two_ids).pendings c) (id hour_before (pos 0) 0 ∷ []) ≡ true)
    × (pending_ids (after two_ids) ≡ id hour_before (pos 0) 0 ∷ [])
    × (is_allocated (after two_ids).posses (after two_ids).pendings c (hour_id 0) ≡ false)
    × (answer (after two_ids) (append c two_hour_ids) ≡ Replies.Refused (Refusals.NotAllocated (hour_id 0)))
    × (changes (after two_ids) (append c two_hour_ids) ≡ false)

-- ---- publishes and their locks

-- an append publishes under the lock of its pending, until that is revoked
abbrev pub AppendUnderLock : Type 0
AppendUnderLock =
    (locks_of_publish (after allocated_run) (append c (hour_id 0 ∷ [])) ≡ 1 ∷ [])
    × (publishes_under 1 (after allocated_run) (append c (hour_id 0 ∷ [])) ≡ true)
    × (revocations (after revoked_run) ≡ true ∷ false ∷ [])
    × (publishes_under 1 (after revoked_run) (append c (hour_id 0 ∷ [])) ≡ false)

-- the locks after the later hour was lost
abbrev pub lost_hour : Book
lost_hour = after (half_lost LockKinds.Exclusive)

-- an id of the lost lock's version is inserted by nobody, and one of the valid lock's is
abbrev pub VersionIsLost : Type 0
VersionIsLost =
    HasNumbers lost_hour
    × AreDistinct same_version lost_hour.posses
    × IsRevokedIn lost_hour (lost_row 2 LockKinds.Exclusive now1)
    × (keeps_form (insert a (hour ∷ []) (id hour now1 0 ∷ [])) ≡ true)
    × (answer lost_hour (insert c (hour ∷ []) (id hour now1 0 ∷ [])) ≡ Replies.Refused (Refusals.LockRevoked 2))
    × (answer lost_hour (insert a (hour ∷ []) (id hour now1 0 ∷ [])) ≡ Replies.Refused (Refusals.WrongVersion (id hour now1 0)))
    × (changes lost_hour (insert a (hour ∷ []) (id hour now1 0 ∷ [])) ≡ false)
    × (changes lost_hour (replace_spans a (hour ∷ []) (id hour now1 0 ∷ [])) ≡ false)
    × (answer lost_hour (insert a (hour ∷ []) (id hour now2 0 ∷ [])) ≡ Replies.Insert 0)
    × (changes lost_hour (insert a (hour ∷ []) (id hour now2 0 ∷ [])) ≡ true)
    × (length (next lost_hour (insert a (hour ∷ []) (id hour now2 0 ∷ []))).publications ≡ 1)

-- an insert and a replacement publish under the locks of their spans
abbrev pub SpansUnderLocks : Type 0
SpansUnderLocks =
    (locks_of_publish (after revoked_run) (insert a (hour ∷ []) (id hour now 0 ∷ [])) ≡ 2 ∷ [])
    × (publishes_under 2 (after revoked_run) (insert a (hour ∷ []) (id hour now 0 ∷ [])) ≡ true)
    × (locks_of_publish (after (half_lost LockKinds.Replace)) (replace_spans a (hour ∷ []) (id hour now2 0 ∷ [])) ≡ 3 ∷ [])
    × (publishes_under 3 (after (half_lost LockKinds.Replace)) (replace_spans a (hour ∷ []) (id hour now2 0 ∷ [])) ≡ true)
    × (publishes_under 2 (after (half_lost LockKinds.Replace)) (replace_spans c (hour ∷ []) (id hour now1 0 ∷ [])) ≡ false)
