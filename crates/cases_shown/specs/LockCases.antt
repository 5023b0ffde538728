-- Worked cases of the laws on locks and their pendings, and on what publishes under them.
use Rattle.std.specs.Prelude.{◌++◌, ◌∷◌, ◌≡◌, Some, [], false, length, pos, true}
use Rattle.book_rows.specs.Answer.{answer, changes, next}
use Rattle.book_rows.specs.Form.{keeps_form}
use Rattle.book_rows.specs.Locks.{posse_of}
use Rattle.book_rows.specs.Sound.{Sound}
use Rattle.book_rows.specs.declared.commands.Command.TheVariants as Commands
use Rattle.book_rows.specs.declared.kinds.LockKind.TheVariants as LockKinds
use Rattle.book_rows.specs.declared.replies.Refusal.TheVariants as Refusals
use Rattle.book_rows.specs.declared.replies.Reply.TheVariants as Replies
use Rattle.book_rows.specs.declared.rows.PosseRow.{PosseRow}
use Rattle.laws_revocation.specs.Commits.{locks_of_publish, publishes_under}
use Rattle.laws_revocation.specs.GivenIds.{is_given}
use Rattle.laws_revocation.specs.HeldPendings.{HasHeldPendings}
use Rattle.laws_revocation.specs.LockNumbers.{HasNumbers, IsOver}
use Rattle.laws_revocation.specs.LostLocks.{HasLost, Runs}
use Rattle.cases_shown.specs.RevocationScenes.{alloc, allocated_run, a_row, c_row, copied_run, half_lost, hour_before, insert, left_run, lost_row, numbers, pending_ids, pending_locks, revocations, revoked_run, two_hours}
use Rattle.scenes.specs.Script.{after, append, a, c, hour, id, lock, now, now1, now2, w}
use Rattle.scenes.specs.Publishing.{hour_id, replace_spans}

-- ---- a sound book

-- its locks have numbers of their own, below the next one; its pendings are of a valid lock, and their ids differ and were given
abbrev pub SoundBookWithPendings : Type 0
SoundBookWithPendings =
    Sound (after copied_run)
    × (numbers (after copied_run) ≡ 1 ∷ 2 ∷ [])
    × ((after copied_run).next_lock ≡ 3)
    × (revocations (after copied_run) ≡ false ∷ false ∷ [])
    × (pending_locks (after copied_run) ≡ 1 ∷ 1 ∷ [])
    × (pending_ids (after copied_run) ≡ hour_id 0 ∷ id hour now 1 ∷ [])
    × (is_given (after copied_run).chunks (hour_id 0) ≡ true)
    × (is_given (after copied_run).chunks (id hour now 1) ≡ true)

-- ---- what becomes of a lock

-- the batch task's lock, by which it takes the hour
abbrev pub taken_row : PosseRow
taken_row = a_row 2 LockKinds.Exclusive hour now

-- lock 1 is there as it was, but revoked, and stays so; the later ones have numbers that weren't given
abbrev pub LockIsRevokedForGood : Type 0
LockIsRevokedForGood =
    HasNumbers (after revoked_run)
    × ((after allocated_run).posses ≡ record (lost_row 1 LockKinds.Append (pos 0)) { revoked = false } ∷ [])
    × ((after allocated_run).next_lock ≡ 2)
    × ((after revoked_run).posses ≡ lost_row 1 LockKinds.Append (pos 0) ∷ taken_row ∷ [])
    × ((after revoked_run).next_lock ≡ 3)
    × ((after (revoked_run ++ lock a LockKinds.Exclusive hour_before ∷ [])).posses ≡ lost_row 1 LockKinds.Append (pos 0) ∷ taken_row ∷ a_row 3 LockKinds.Exclusive hour_before now1 ∷ [])

-- its number is over as it is revoked, as it is gone and after that, and nothing is published under it
abbrev pub NumberIsOver : Type 0
NumberIsOver =
    Sound (after revoked_run)
    × HasNumbers (after revoked_run)
    × HasHeldPendings (after revoked_run)
    × IsOver 1 (after revoked_run)
    × (publishes_under 1 (after allocated_run) (append c (hour_id 0 ∷ [])) ≡ true)
    × (publishes_under 1 (after revoked_run) (append c (hour_id 0 ∷ [])) ≡ false)
    × Sound (after left_run)
    × IsOver 1 (after left_run)
    × ((after left_run).next_lock ≡ 3)
    × (numbers (after left_run) ≡ [])
    × IsOver 1 (after (left_run ++ alloc c ∷ []))
    × (numbers (after (left_run ++ alloc c ∷ [])) ≡ 3 ∷ [])
    × (publishes_under 1 (after (left_run ++ alloc c ∷ [])) (append c (hour_id 0 ∷ [])) ≡ false)
    × (publishes_under 3 (after (left_run ++ alloc c ∷ [])) (append c (hour_id 1 ∷ [])) ≡ true)

-- ---- the ids of an insert and a replacement

-- each is of the version of the lock under which it is published
abbrev pub IdsUnderLocks : Type 0
IdsUnderLocks =
    HasNumbers (after revoked_run)
    × (keeps_form (insert a (hour ∷ []) (id hour now 0 ∷ [])) ≡ true)
    × (changes (after revoked_run) (insert a (hour ∷ []) (id hour now 0 ∷ [])) ≡ true)
    × (locks_of_publish (after revoked_run) (insert a (hour ∷ []) (id hour now 0 ∷ [])) ≡ 2 ∷ [])
    × (posse_of 2 (after revoked_run).posses ≡ Some taken_row)
    × (length (after revoked_run).publications ≡ 0)
    × (length (next (after revoked_run) (insert a (hour ∷ []) (id hour now 0 ∷ []))).publications ≡ 1)
    × HasNumbers (after (half_lost LockKinds.Replace))
    × (keeps_form (replace_spans a (hour ∷ []) (id hour now2 0 ∷ [])) ≡ true)
    × (changes (after (half_lost LockKinds.Replace)) (replace_spans a (hour ∷ []) (id hour now2 0 ∷ [])) ≡ true)
    × (locks_of_publish (after (half_lost LockKinds.Replace)) (replace_spans a (hour ∷ []) (id hour now2 0 ∷ [])) ≡ 3 ∷ [])
    × (posse_of 3 (after (half_lost LockKinds.Replace)).posses ≡ Some (a_row 3 LockKinds.Replace hour now2))

-- ---- what a replacement has to read

-- the compaction is answered for the hour that it has still, and refused for the one that it lost; the batch task, which has that now, is answered
abbrev pub ToReplaceIsLost : Type 0
ToReplaceIsLost =
    Runs (after (half_lost LockKinds.Replace)) c c_row
    × HasLost (after (half_lost LockKinds.Replace)).posses c w hour
    × (answer (after (half_lost LockKinds.Replace)) (Commands.ToReplace c hour_before) ≡ Replies.ToReplace [])
    × (answer (after (half_lost LockKinds.Replace)) (Commands.ToReplace c hour) ≡ Replies.Refused (Refusals.LockRevoked 2))
    × (answer (after (half_lost LockKinds.Replace)) (Commands.ToReplace a hour) ≡ Replies.ToReplace [])

-- where it lost both hours, the least lock is named that overlaps the span
abbrev pub LeastIsNamed : Type 0
LeastIsNamed =
    (numbers (after (half_lost LockKinds.Replace ++ lock a LockKinds.Replace hour_before ∷ [])) ≡ 1 ∷ 2 ∷ 3 ∷ 4 ∷ [])
    × (revocations (after (half_lost LockKinds.Replace ++ lock a LockKinds.Replace hour_before ∷ [])) ≡ true ∷ true ∷ false ∷ false ∷ [])
    × (answer (after (half_lost LockKinds.Replace ++ lock a LockKinds.Replace hour_before ∷ [])) (Commands.ToReplace c two_hours) ≡ Replies.Refused (Refusals.LockRevoked 1))
    × (answer (after (half_lost LockKinds.Replace ++ lock a LockKinds.Replace hour_before ∷ [])) (Commands.ToReplace c hour) ≡ Replies.Refused (Refusals.LockRevoked 2))
    × (answer (after (half_lost LockKinds.Replace ++ lock a LockKinds.Replace hour_before ∷ [])) (lock c LockKinds.Append two_hours) ≡ Replies.Refused (Refusals.LockRevoked 1))
