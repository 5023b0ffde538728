-- Books that break one soundness rule each: a row of a sound book is taken away, added or changed.
use Rattle.book_rows.specs.Answer.{empty_book}
use Rattle.book_rows.specs.Rules.{AreBelowLocks, AreCompatible, AreRooted, AreUpgrades, CarriesUpgrades, HaveCopies, HaveCores, HaveOneSpan, ShowsContents}
use Rattle.book_rows.specs.SequenceRules.{IsPublishedOnce, IsSoundGroup}
use Rattle.book_rows.specs.Shape.{HasKeys, HasShape, HasVersions, HaveChunks, HaveCommits}
use Rattle.book_rows.specs.Tiles.{IsTiled}
use Rattle.book_rows.specs.declared.rows.Book.{Book}
use Rattle.book_rows.specs.declared.rows.PosseRow.{PosseRow}
use Rattle.book_rows.specs.declared.rows.SegmentRow.{SegmentRow}
use Rattle.book_rows.specs.declared.rows.SequenceRow.{SequenceRow}
use Rattle.seg_names.specs.Ids.{same_id}
use Rattle.std.specs.Prelude.{List, [], false, filter, map, not, pos, ℕ, ◌++◌, ◌∷◌}
use Rattle.cases_rules.specs.AppendCases.{one_append}
use Rattle.cases_rules.specs.NothingCases.{inserting}
use Rattle.scenes.specs.Script.{after, s, a, day, hour, id, now, now1, start, t, v0, w}
use Rattle.scenes.specs.Publishing.{hour_id, pending_row_of, upgrade_row_of, used_row}
use Rattle.scenes.specs.Supervising.{at_offset, r000}
use Rattle.cases_rules.specs.RangeCases.{offset_row_of, two_stored}
use Rattle.cases_rules.specs.ReplaceCases.{after_stream_day, both, chunk_row, stream_day}
use Rattle.cases_rules.specs.ReportCases.{first_row}
use Rattle.cases_rules.specs.SequenceCases.{supervisor_row_of}
use Rattle.cases_rules.specs.SoundBookCases.{three_locks}
use Rattle.book_rows.specs.declared.kinds.SeqState.TheVariants as States
use Rattle.book_rows.specs.declared.kinds.TaskKind.TheVariants as TaskKinds

-- ---- a lock that was revoked stands as if it were valid: the book keeps its shape, and two of its locks don't go together

abbrev pub unrevoked : Book
unrevoked = record (after three_locks) { posses = map (λ (q : PosseRow). record q { revoked = false }) (after three_locks).posses }

abbrev pub UnrevokedLock : Type 0
UnrevokedLock = HasShape unrevoked × (AreCompatible unrevoked.posses → ⊥)

-- ---- a copy of a root is gone, or is there twice

abbrev pub without_copy : List SegmentRow
without_copy = filter (λ row. not (same_id row.id (id day now 1))) after_stream_day.segments

abbrev pub CopyLostOrDoubled : Type 0
CopyLostOrDoubled =
    (ShowsContents without_copy after_stream_day.publications → ⊥)
    × (ShowsContents (after_stream_day.segments ++ used_row (id day now 2) (hour_id 1) 2 ∷ []) after_stream_day.publications → ⊥)

-- ---- two tasks of one id, an id that is a segment and a pending, and a lock number that is still to come

abbrev pub one_task : Book
one_task = after (start a TaskKinds.Batch)

abbrev pub KeysThatMeet : Type 0
KeysThatMeet =
    (HasKeys (record one_task { tasks = one_task.tasks ++ one_task.tasks }) → ⊥)
    × (HasKeys (record (after one_append) { pendings = pending_row_of (hour_id 0) (hour_id 0) 1 s ∷ [] }) → ⊥)
    × (HasKeys (record (after one_append) { next_lock = 1 }) → ⊥)

-- ---- a version above the last one, a commit that isn't there, an id without its chunk, and one whose part isn't given yet

abbrev pub RowsToCome : Type 0
RowsToCome =
    (HasVersions (pos 0) (after (inserting day)).posses [] → ⊥)
    × (HaveCommits [] (after one_append).segments [] → ⊥)
    × (HaveChunks (record (after one_append) { chunks = [] }) → ⊥)
    × (HaveChunks (record (after one_append) { chunks = chunk_row hour v0 0 0 ∷ [] }) → ⊥)

-- ---- two live chunks of one version that overlap, and one above a valid exclusive lock

abbrev pub ChunksThatMeet : Type 0
ChunksThatMeet =
    (HaveOneSpan (used_row (id day v0 0) (id day v0 0) 0 ∷ used_row (hour_id 0) (hour_id 0) 0 ∷ []) [] → ⊥)
    × (AreBelowLocks (after (inserting day)).posses (used_row (id hour now1 0) (id hour now1 0) 0 ∷ []) [] → ⊥)

-- ---- a pending and an upgrade row whose lock is gone

abbrev pub RowsOfNoLock : Type 0
RowsOfNoLock =
    (AreRooted [] (pending_row_of (hour_id 0) (hour_id 0) 1 s ∷ []) → ⊥)
    × (AreUpgrades [] (upgrade_row_of 1 (hour_id 0) ∷ []) (after one_append).publications → ⊥)

-- ---- a core of which a part is missing, and a chunk of appending locks with a core

abbrev pub WrongCores : Type 0
WrongCores =
    (HaveCores [] (chunk_row day now 2 2 ∷ []) (used_row (id day now 0) (id day now 0) 0 ∷ []) [] → ⊥)
    × (HaveCores [] (chunk_row hour v0 1 1 ∷ []) (used_row (hour_id 0) (hour_id 0) 0 ∷ []) [] → ⊥)

-- ---- a chunk above another without a core, or without the copy of a pending

abbrev pub WrongUpperChunks : Type 0
WrongUpperChunks =
    (HaveCopies (chunk_row hour v0 0 1 ∷ chunk_row day now 0 1 ∷ []) (used_row (hour_id 0) (hour_id 0) 0 ∷ used_row (id day now 0) (id day now 0) 1 ∷ []) [] → ⊥)
    × (HaveCopies (chunk_row hour v0 0 1 ∷ chunk_row day now 1 1 ∷ []) (used_row (id day now 0) (id day now 0) 0 ∷ []) (pending_row_of (hour_id 0) (hour_id 0) 1 s ∷ []) → ⊥)

-- ---- the upgrade row of what a replacement has to carry is missing

abbrev pub MissingUpgradeRow : Type 0
MissingUpgradeRow = CarriesUpgrades (after (both ++ stream_day)).posses (after (both ++ stream_day)).chunks [] (after (both ++ stream_day)).publications → ⊥

-- ---- a stored offset that no range ends at

abbrev pub OffsetOfNoRange : Type 0
OffsetOfNoRange = IsTiled (after two_stored).publications (offset_row_of w t 0 9 ∷ offset_row_of w t 1 20 ∷ []) → ⊥

-- ---- a sequence that doesn't start where the offsets stand, one that isn't counted from 0, and one that no publication published

abbrev pub starting_at : ℕ → SequenceRow
starting_at offset = record (first_row States.Reading (pos 0) [] (r000 ∷ []) []) { starts = at_offset offset }

-- a book that has this sequence and no other row
abbrev pub of_sequence : SequenceRow → Book
of_sequence u = record empty_book { sequences = u ∷ [] }

abbrev pub WrongSequences : Type 0
WrongSequences =
    (IsSoundGroup (of_sequence (starting_at 5)) (supervisor_row_of w) 0 → ⊥)
    × (IsSoundGroup (of_sequence (record (starting_at 0) { index = 1 })) (supervisor_row_of w) 0 → ⊥)
    × (IsPublishedOnce [] (first_row States.Published now (at_offset 10) (r000 ∷ []) []) → ⊥)
