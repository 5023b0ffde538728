-- Worked cases of the laws on ids: those that were given and those that are lost.
use Rattle.std.specs.Prelude.{◌++◌, ◌∷◌, ◌≡◌, Bool, List, None, [], false, map, pos, true, ℕ, ℤ}
use Rattle.seg_names.specs.declared.seg_id.SegId.{SegId}
use Rattle.book_rows.specs.Answer.{answer, changes, next}
use Rattle.book_rows.specs.Form.{AllKeepForm, keeps_form}
use Rattle.book_rows.specs.Sound.{Sound}
use Rattle.book_rows.specs.declared.commands.Command.{Command}
use Rattle.book_rows.specs.declared.commands.Command.TheVariants as Commands
use Rattle.book_rows.specs.declared.kinds.LockKind.TheVariants as LockKinds
use Rattle.book_rows.specs.declared.replies.Refusal.TheVariants as Refusals
use Rattle.book_rows.specs.declared.replies.Reply.TheVariants as Replies
use Rattle.book_rows.specs.declared.rows.Book.{Book}
use Rattle.book_rows.specs.declared.rows.ChunkRow.{ChunkRow}
use Rattle.book_rows.specs.declared.rows.SegmentRow.{SegmentRow}
use Rattle.laws_revocation.specs.GivenIds.{is_given}
use Rattle.laws_revocation.specs.LockNumbers.{HasNumbers, IsOver}
use Rattle.laws_revocation.specs.LostLocks.{IsNotPending}
use Rattle.cases_shown.specs.RevocationScenes.{alloc, allocated_run, copied_run, hour_before, insert, left_run, pending_ids, revoked_run, started}
use Rattle.scenes.specs.Script.{a, after, append, c, hour, id, lock, now, w}
use Rattle.scenes.specs.Publishing.{hour_id, replace_spans}
use Rattle.scenes.specs.Rows.{hour_pending}

-- ---- chunks

abbrev pub chunk_row : ℤ → ℕ → ℕ → ChunkRow
chunk_row version core next = record { source = w; span = hour; version = version; core = core; next = next }

-- a chunk's row stays, also where no id of it is left, and its next part grows
abbrev pub ChunkGoesOn : Type 0
ChunkGoesOn =
    ((after allocated_run).chunks ≡ chunk_row (pos 0) 0 1 ∷ [])
    × ((after left_run).chunks ≡ chunk_row (pos 0) 0 1 ∷ [])
    × ((after (left_run ++ alloc c ∷ [])).chunks ≡ chunk_row (pos 0) 0 2 ∷ [])
    × ((after copied_run).chunks ≡ chunk_row (pos 0) 0 1 ∷ chunk_row now 1 2 ∷ [])

-- ---- an id that is a pending's still

-- it is answered again, by the same pending
abbrev pub KnownIdIsAnswered : Type 0
KnownIdIsAnswered =
    HasNumbers (after allocated_run)
    × ((after allocated_run).pendings ≡ hour_pending ∷ [])
    × (is_given (after allocated_run).chunks (hour_id 0) ≡ true)
    × (answer (after allocated_run) (alloc c) ≡ Replies.Allocate (hour_id 0) 1 [])
    × AllKeepForm (lock a LockKinds.Exclusive hour_before ∷ [])
    × ((after (allocated_run ++ lock a LockKinds.Exclusive hour_before ∷ [])).pendings ≡ hour_pending ∷ [])

-- ---- ids of a lost lock

abbrev pub row_ids : Book → List SegId
row_ids b = map (λ r. r.id) b.segments

abbrev pub row_roots : Book → List SegId
row_roots b = map (λ r. r.root) b.segments

abbrev pub listed_ids : Book → List (List SegId)
listed_ids b = map (λ m. m.adds ++ m.empties) b.publications

-- an id of an appending lock: the compaction neither appends nor inserts it, and the batch task neither inserts it nor puts it in a replacement, since its own lock has another version
abbrev pub LostIdIsPutByNone : Type 0
LostIdIsPutByNone =
    Sound (after allocated_run)
    × AllKeepForm revoked_run
    × ((after allocated_run).pendings ≡ hour_pending ∷ [])
    × IsOver 1 (after revoked_run)
    × (pending_ids (after revoked_run) ≡ [])
    × (answer (after left_run) (alloc c) ≡ Replies.Allocate (hour_id 1) 3 [])
    × (answer (after revoked_run) (append c (hour_id 0 ∷ [])) ≡ Replies.Refused (Refusals.NotAllocated (hour_id 0)))
    × (keeps_form (insert a (hour ∷ []) (hour_id 0 ∷ [])) ≡ true)
    × (answer (after revoked_run) (insert c (hour ∷ []) (hour_id 0 ∷ [])) ≡ Replies.Refused (Refusals.LockRevoked 1))
    × (answer (after revoked_run) (insert a (hour ∷ []) (hour_id 0 ∷ [])) ≡ Replies.Refused (Refusals.WrongVersion (hour_id 0)))
    × (answer (after revoked_run) (Commands.Insert a (hour ∷ []) [] (hour_id 0 ∷ []) None) ≡ Replies.Refused (Refusals.WrongVersion (hour_id 0)))
    × (answer (after (left_run ++ lock a LockKinds.Replace hour ∷ [])) (replace_spans a (hour ∷ []) (hour_id 0 ∷ [])) ≡ Replies.Refused (Refusals.WrongVersion (hour_id 0)))

-- it was a pending's as its lock was taken; the batch task then inserts an id of its own, and no row has the lost one or is a copy of it, nor is it listed
abbrev pub LostIdIsNowhere : Type 0
LostIdIsNowhere =
    Sound (after allocated_run)
    × ((after allocated_run).pendings ≡ hour_pending ∷ [])
    × IsOver 1 (next (after allocated_run) (lock a LockKinds.Exclusive hour))
    × AllKeepForm (revoked_run ++ insert a (hour ∷ []) (id hour now 0 ∷ []) ∷ [])
    × (row_ids (after (revoked_run ++ insert a (hour ∷ []) (id hour now 0 ∷ []) ∷ [])) ≡ id hour now 0 ∷ [])
    × (row_roots (after (revoked_run ++ insert a (hour ∷ []) (id hour now 0 ∷ []) ∷ [])) ≡ id hour now 0 ∷ [])
    × (listed_ids (after (revoked_run ++ insert a (hour ∷ []) (id hour now 0 ∷ []) ∷ [])) ≡ (id hour now 0 ∷ []) ∷ [])

-- a copy in the batch task's own chunk is lost with the compaction's lock
abbrev pub lost_copy : List Command
lost_copy = copied_run ++ Commands.Unlock c 1 ∷ []

abbrev pub with_copy : List SegId
with_copy = id hour now 0 ∷ id hour now 1 ∷ []

-- the batch task has the lock of its version, which has that chunk: its replacement is refused for that. It has no lock for an insert
abbrev pub LostCopyIsPutByNone : Type 0
LostCopyIsPutByNone =
    HasNumbers (after lost_copy)
    × (is_given (after lost_copy).chunks (id hour now 1) ≡ true)
    × IsNotPending (after lost_copy) (id hour now 1)
    × (keeps_form (replace_spans a (hour ∷ []) with_copy) ≡ true)
    × (answer (after lost_copy) (replace_spans a (hour ∷ []) with_copy) ≡ Replies.Refused (Refusals.VersionUsed hour))
    × (changes (after lost_copy) (replace_spans a (hour ∷ []) with_copy) ≡ false)
    × (answer (after lost_copy) (insert a (hour ∷ []) with_copy) ≡ Replies.Refused (Refusals.LockMissing hour))
    × (changes (after lost_copy) (insert a (hour ∷ []) with_copy) ≡ false)
    × (row_ids (after lost_copy) ≡ id hour now 0 ∷ [])
    × (listed_ids (after lost_copy) ≡ (id hour now 0 ∷ []) ∷ [])

-- ---- ids that have a row

-- the batch task has an exclusive lock and inserted an id
abbrev pub inserted_run : List Command
inserted_run = started ++ lock a LockKinds.Exclusive hour ∷ insert a (hour ∷ []) (id hour now 0 ∷ []) ∷ []

-- what it inserted is inserted no more, also together with another id
abbrev pub GivenIdIsInsertedByNone : Type 0
GivenIdIsInsertedByNone =
    HasNumbers (after inserted_run)
    × (is_given (after inserted_run).chunks (id hour now 0) ≡ true)
    × (keeps_form (insert a (hour ∷ []) with_copy) ≡ true)
    × (answer (after inserted_run) (insert a (hour ∷ []) with_copy) ≡ Replies.Refused (Refusals.VersionUsed hour))
    × (changes (after inserted_run) (insert a (hour ∷ []) with_copy) ≡ false)
    × (answer (after inserted_run) (insert a (hour ∷ []) (id hour now 0 ∷ [])) ≡ Replies.Insert 0)
    × (changes (after inserted_run) (insert a (hour ∷ []) (id hour now 0 ∷ [])) ≡ false)

abbrev pub inserted_row : Bool → SegmentRow
inserted_row used = record { id = id hour now 0; used = used; root = id hour now 0; commit = 0; tombstone = false }

-- the lock ends and the hour is dropped: the row is the one that was there, no longer used, and the insert alone lists its id
abbrev pub DroppedRowWasThere : Type 0
DroppedRowWasThere =
    AllKeepForm (Commands.Unlock a 1 ∷ Commands.Drop w hour ∷ [])
    × HasNumbers (after inserted_run)
    × (is_given (after inserted_run).chunks (id hour now 0) ≡ true)
    × IsNotPending (after inserted_run) (id hour now 0)
    × ((after inserted_run).segments ≡ inserted_row true ∷ [])
    × (listed_ids (after inserted_run) ≡ (id hour now 0 ∷ []) ∷ [])
    × ((after (inserted_run ++ Commands.Unlock a 1 ∷ Commands.Drop w hour ∷ [])).segments ≡ inserted_row false ∷ [])
    × (listed_ids (after (inserted_run ++ Commands.Unlock a 1 ∷ Commands.Drop w hour ∷ [])) ≡ (id hour now 0 ∷ []) ∷ [] ∷ [])
