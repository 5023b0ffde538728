-- Worked cases of the laws of keys: what a law supposes is met, and what it says is so. Each begins at a book that is shown to be sound; only `SecondIsDistinct`
-- leaves that open.
use Rattle.std.specs.Prelude.{◌++◌, ◌∷◌, ◌≡◌, List, [], codes, filter, length, map, true, ℕ}
use Rattle.book_rows.specs.Allocation.{is_root}
use Rattle.book_rows.specs.Answer.{answer, next}
use Rattle.book_rows.specs.Form.{KeepsForm}
use Rattle.book_rows.specs.Lists.{gathered}
use Rattle.book_rows.specs.Shape.{HaveChunks, HaveRoots, all_adds, all_empties, pending_ids, same_request, segment_ids}
use Rattle.book_rows.specs.declared.commands.Command.{Command}
use Rattle.book_rows.specs.declared.kinds.SeqState.TheVariants as States
use Rattle.book_rows.specs.declared.rows.Book.{Book}
use Rattle.book_rows.specs.declared.rows.PendingRow.{PendingRow}
use Rattle.scenes.specs.Script.{after, v, day, hour, lock, next_day, now, p, r, v0, w}
use Rattle.scenes.specs.Publishing.{alloc_hour, day_id, hour_id, pending_row_of, replace_day, tomb_row_of, upgrade_row_of, used_row}
use Rattle.scenes.specs.Supervising.{supervise}
use Rattle.cases_rules.specs.ReplaceCases.{chunk_row}
use Rattle.cases_rules.specs.SequenceCases.{supervise_of}
use Rattle.cases_rules.specs.SoundBookCases.{day_under_lock}
use Rattle.cases_limits.specs.LimitCases.{both_read, first_closes, first_pauses}
use Rattle.cases_limits.specs.SoundScenes.{ChangesSound, append_third, ask_fourth, both_opened, day_emptied, day_replaced, empty_day, fourth_asked, one_supervisor, third_appended}
use Rattle.laws_keys.specs.KeyLaws.{AreCommitted, AreKeyed, HasDistinctIds, HasDistinctRequests, HasDistinctSequences, HasDistinctSupervisors, HasDistinctUpgrades}
use Rattle.book_rows.specs.declared.commands.Command.TheVariants as Commands
use Rattle.book_rows.specs.declared.kinds.LockKind.TheVariants as LockKinds
use Rattle.book_rows.specs.declared.replies.Reply.TheVariants as Replies

-- ---- commits, after a command on a sound book

-- what the locks count, and what the spans of the publications do
abbrev pub counts_of_locks : Book → List ℕ
counts_of_locks b = map (λ q. q.since) b.posses

abbrev pub counts_of_spans : Book → List ℕ
counts_of_spans b = gathered (λ m. map (λ s. s.since) m.spans) b.publications

-- after a replace each segment's commit is below the number of publications, and no lock or span counts more
abbrev pub CommitsAreBounded : Type 0
CommitsAreBounded =
    ChangesSound day_under_lock replace_day
    × (length day_replaced.publications ≡ 3)
    × (map (λ s. s.commit) day_replaced.segments ≡ 0 ∷ 1 ∷ 2 ∷ 2 ∷ [])
    × (counts_of_locks day_replaced ≡ 0 ∷ 1 ∷ [])
    × (counts_of_spans day_replaced ≡ 1 ∷ [])
    × AreCommitted day_replaced

abbrev pub lock_next_day : Command
lock_next_day = lock r LockKinds.Exclusive next_day

-- a new lock counts all publications
abbrev pub NewLockCountsAll : Type 0
NewLockCountsAll =
    ChangesSound day_under_lock lock_next_day
    × (length (next day_under_lock lock_next_day).publications ≡ 2)
    × (counts_of_locks (next day_under_lock lock_next_day) ≡ 0 ∷ 1 ∷ 2 ∷ [])
    × AreCommitted (next day_under_lock lock_next_day)

-- ---- upgrade rows, after a command on a sound book

-- an append adds a second one of the lock, of another root
abbrev pub UpgradesAreDistinct : Type 0
UpgradesAreDistinct =
    ChangesSound day_under_lock append_third
    × (third_appended.upgrades ≡ upgrade_row_of 2 (hour_id 1) ∷ upgrade_row_of 2 (hour_id 2) ∷ [])
    × HasDistinctUpgrades third_appended

-- ---- requests for ids, after a command on a sound book

-- a root pending of the hour
abbrev pub pending : ℕ → List ℕ → PendingRow
pending part sequence = pending_row_of (hour_id part) (hour_id part) 1 sequence

-- another sequence gets another pending, and the same one the pending that is there
abbrev pub RequestsAreDistinct : Type 0
RequestsAreDistinct =
    ChangesSound day_under_lock ask_fourth
    × (fourth_asked.pendings ≡ pending 2 (codes "s3") ∷ pending 3 (codes "s4") ∷ [])
    × HasDistinctRequests fourth_asked
    × KeepsForm (alloc_hour p (codes "s3"))
    × (answer day_under_lock (alloc_hour p (codes "s3")) ≡ Replies.Allocate (hour_id 2) 1 [])
    × ((next day_under_lock (alloc_hour p (codes "s3"))).pendings ≡ pending 2 (codes "s3") ∷ [])

abbrev pub copied : PendingRow
copied = pending_row_of (day_id 2) (hour_id 2) 1 (codes "s3")

-- a copy is of its root's request, but no root pending itself
abbrev pub CopiesAreNoRequests : Type 0
CopiesAreNoRequests =
    ChangesSound day_under_lock replace_day
    × (day_replaced.pendings ≡ pending 2 (codes "s3") ∷ copied ∷ [])
    × (same_request (pending 2 (codes "s3")) copied ≡ true)
    × (filter is_root day_replaced.pendings ≡ pending 2 (codes "s3") ∷ [])
    × HasDistinctRequests day_replaced

-- ---- ids and their chunks, after a command on a sound book

-- those of segments, of pendings, and those that publications add
abbrev pub IdsAreInChunks : Type 0
IdsAreInChunks =
    ChangesSound day_under_lock replace_day
    × (day_replaced.chunks ≡ chunk_row hour v0 0 3 ∷ chunk_row day now 1 3 ∷ [])
    × (segment_ids day_replaced.segments ≡ hour_id 0 ∷ hour_id 1 ∷ day_id 0 ∷ day_id 1 ∷ [])
    × (pending_ids day_replaced.pendings ≡ hour_id 2 ∷ day_id 2 ∷ [])
    × (all_adds day_replaced.publications ≡ hour_id 0 ∷ hour_id 1 ∷ day_id 0 ∷ [])
    × HaveChunks day_replaced

-- and those of tombstones
abbrev pub TombstonesAreInChunks : Type 0
TombstonesAreInChunks =
    ChangesSound day_under_lock empty_day
    × (day_emptied.chunks ≡ chunk_row hour v0 0 3 ∷ chunk_row day now 1 3 ∷ [])
    × (all_empties day_emptied.publications ≡ day_id 0 ∷ [])
    × HaveChunks day_emptied

-- no two segments or pendings have one id
abbrev pub IdsAreDistinct : Type 0
IdsAreDistinct =
    ChangesSound day_under_lock replace_day
    × (segment_ids day_replaced.segments ++ pending_ids day_replaced.pendings ≡ hour_id 0 ∷ hour_id 1 ∷ day_id 0 ∷ day_id 1 ∷ hour_id 2 ∷ day_id 2 ∷ [])
    × HasDistinctIds day_replaced

-- ---- roots, after a command on a sound book

-- a tombstone, and a copy whose root an earlier publication adds
abbrev pub RootsArePublished : Type 0
RootsArePublished =
    ChangesSound day_under_lock empty_day
    × (day_emptied.segments
    ≡ used_row (hour_id 0) (hour_id 0) 0
    ∷ used_row (hour_id 1) (hour_id 1) 1
    ∷ tomb_row_of (day_id 0) 2
    ∷ used_row (day_id 1) (hour_id 1) 2
    ∷ [])
    × (map (λ m. m.adds) day_emptied.publications ≡ (hour_id 0 ∷ []) ∷ (hour_id 1 ∷ []) ∷ [] ∷ [])
    × (map (λ m. m.empties) day_emptied.publications ≡ [] ∷ [] ∷ (day_id 0 ∷ []) ∷ [])
    × HaveRoots day_emptied

-- ---- supervisors, after a command on a sound book

-- another source gets one, and the same one no second
abbrev pub SupervisorsAreDistinct : Type 0
SupervisorsAreDistinct =
    ChangesSound one_supervisor (supervise_of v 1 1 1)
    × (map (λ s. s.source) (next one_supervisor (supervise_of v 1 1 1)).supervisors ≡ w ∷ v ∷ [])
    × HasDistinctSupervisors (next one_supervisor (supervise_of v 1 1 1))
    × KeepsForm supervise
    × (next one_supervisor supervise ≡ one_supervisor)

-- ---- sequences

abbrev pub groups_of_rows : Book → List ℕ
groups_of_rows b = map (λ u. u.group) b.sequences

abbrev pub indexes_of_rows : Book → List ℕ
indexes_of_rows b = map (λ u. u.index) b.sequences

-- a tick on a sound book opens one of each group
abbrev pub SequencesAreDistinct : Type 0
SequencesAreDistinct =
    ChangesSound one_supervisor (Commands.Tick now)
    × (groups_of_rows both_opened ≡ 0 ∷ 1 ∷ [])
    × (indexes_of_rows both_opened ≡ 0 ∷ 0 ∷ [])
    × HasDistinctSequences both_opened

abbrev pub first_closed : Book
first_closed = after (both_read ++ first_pauses ∷ first_closes ∷ [])

-- where the first of a group is closed, a tick opens one of the next index; that this reached book is sound is left to the law that every reached book is
abbrev pub SecondIsDistinct : Type 0
SecondIsDistinct =
    KeepsForm (Commands.Tick now)
    × HasDistinctSequences first_closed
    × (groups_of_rows first_closed ≡ 0 ∷ 1 ∷ [])
    × (map (λ u. u.state) first_closed.sequences ≡ States.Closed ∷ States.Reading ∷ [])
    × (groups_of_rows (next first_closed (Commands.Tick now)) ≡ 0 ∷ 1 ∷ 0 ∷ [])
    × (indexes_of_rows (next first_closed (Commands.Tick now)) ≡ 0 ∷ 0 ∷ 1 ∷ [])
    × HasDistinctSequences (next first_closed (Commands.Tick now))

-- ---- all of it, after a command on a sound book

abbrev pub EmptiedIsKeyed : Type 0
EmptiedIsKeyed = ChangesSound day_under_lock empty_day × AreKeyed day_emptied
