-- Books that keep the soundness rules, and what the rules say of them at instants, ids, partitions and groups.
use Rattle.book_rows.specs.Contents.{alive}
use Rattle.book_rows.specs.Live.{is_covered}
use Rattle.book_rows.specs.Offsets.{stored}
use Rattle.book_rows.specs.Rules.{AreCompatible, upgraded}
use Rattle.book_rows.specs.SequenceRules.{Chain, IsOwn}
use Rattle.book_rows.specs.Sequences.{open_rows, partitions_of, positions}
use Rattle.book_rows.specs.Sound.{Sound}
use Rattle.book_rows.specs.Tiles.{ends_with, run_of}
use Rattle.book_rows.specs.Visible.{shown}
use Rattle.book_rows.specs.declared.commands.Command.{Command}
use Rattle.book_rows.specs.declared.rows.Book.{Book}
use Rattle.book_rows.specs.declared.rows.SequenceRow.{SequenceRow}
use Rattle.seg_names.specs.declared.seg_id.SegId.{SegId}
use Rattle.std.specs.List.{AllByRecursion}
use Rattle.std.specs.Prelude.{List, None, Option, Some, [], codes, false, nat_le, pos, true, ℕ, ℤ, ◌++◌, ◌∷◌, ◌≡◌}
use Rattle.cases_rules.specs.AppendCases.{one_append}
use Rattle.cases_rules.specs.NothingCases.{mixed_insert}
use Rattle.scenes.specs.Script.{after, a, b, c, day, drop, hour, id, lock, minutes, next_day, now, p, start, succeed, t, w}
use Rattle.scenes.specs.Publishing.{alloc_hour, hour_id, point, range, read_only, reset}
use Rattle.scenes.specs.Supervising.{at_offset, r000, r010, report_row}
use Rattle.scenes.specs.Rows.{r_lock}
use Rattle.cases_rules.specs.RangeCases.{offset_row_of, two_stored}
use Rattle.cases_rules.specs.ReplaceCases.{after_stream_day, both, stream_day}
use Rattle.cases_rules.specs.ReportCases.{first_row}
use Rattle.cases_rules.specs.SequenceCases.{published_ten, supervisor_row_of}
use Rattle.cases_rules.specs.StreamCases.{both_publish, offsets_tried, two_replicas}
use Rattle.book_rows.specs.declared.commands.Command.TheVariants as Commands
use Rattle.book_rows.specs.declared.kinds.LockKind.TheVariants as LockKinds
use Rattle.book_rows.specs.declared.kinds.SeqState.TheVariants as States
use Rattle.book_rows.specs.declared.kinds.TaskKind.TheVariants as TaskKinds

abbrev pub three_locks : List Command
three_locks =
    start a TaskKinds.Batch
    ++ start b TaskKinds.Batch
    ++ start c TaskKinds.Compaction
    ++ (lock c LockKinds.Exclusive hour ∷ lock a LockKinds.Exclusive hour ∷ lock b LockKinds.Exclusive hour ∷ [])

-- ---- the book after a revocation and a conflict is sound

abbrev pub SoundAfterRevocation : Type 0
SoundAfterRevocation = Sound (after three_locks)

-- ---- so is the book of a stream's day under a replacing lock, with an upgrade row and one more pending

abbrev pub day_under_lock : Book
day_under_lock = after (both ++ stream_day ++ alloc_hour p (codes "s3") ∷ [])

abbrev pub SoundUnderLock : Type 0
SoundUnderLock = Sound day_under_lock

-- ---- and so is the book after the replacement

abbrev pub SoundAfterReplacement : Type 0
SoundAfterReplacement = Sound after_stream_day

-- ---- what is shown of a root at an instant is what was published of it

abbrev pub IsShownAt : Book → ℤ → SegId → ℕ → Type 0
IsShownAt book t root n = (shown book.segments w t root ≡ n) × (alive (λ k. true) book.publications w t root ≡ n)

abbrev pub ShownAfterReplacement : Type 0
ShownAfterReplacement =
    IsShownAt after_stream_day (minutes 310) (hour_id 0) 0
    × IsShownAt after_stream_day (minutes 310) (hour_id 1) 1
    × IsShownAt after_stream_day (minutes 310) (id day now 0) 1
    × IsShownAt after_stream_day (minutes 299) (hour_id 1) 0
    × IsShownAt after_stream_day (minutes 300) (hour_id 1) 1
    × IsShownAt after_stream_day (minutes 359) (hour_id 1) 1
    × IsShownAt after_stream_day (minutes 360) (hour_id 1) 0
    × IsShownAt after_stream_day (minutes 0) (id day now 0) 1
    × IsShownAt after_stream_day (minutes 1440) (id day now 0) 0

abbrev pub ShownOfTombstones : Type 0
ShownOfTombstones =
    IsShownAt (after mixed_insert) (minutes 310) (id day now 0) 0
    × IsShownAt (after mixed_insert) (minutes 1440) (id next_day now 0) 1
    × IsShownAt (after (one_append ++ succeed p ∷ drop hour ∷ [])) (minutes 310) (hour_id 0) 0

-- ---- before a replacement its upgrade rows are what was added since its lock, and after it its chunk covers the instant

abbrev pub IsCarriedAt : ℤ → SegId → ℕ → Type 0
IsCarriedAt t root n =
    (upgraded (after (both ++ stream_day)).upgrades 2 t root ≡ n)
    × (alive (λ k. nat_le 1 k) (after (both ++ stream_day)).publications w t root ≡ n)

abbrev pub UpgradeRowsAreWhatWasAdded : Type 0
UpgradeRowsAreWhatWasAdded =
    IsCarriedAt (minutes 310) (hour_id 0) 0
    × IsCarriedAt (minutes 310) (hour_id 1) 1
    × IsCarriedAt (minutes 360) (hour_id 1) 0
    × (is_covered (after (both ++ stream_day)).chunks r_lock (minutes 310) ≡ false)
    × (is_covered after_stream_day.chunks r_lock (minutes 310) ≡ true)
    × (is_covered after_stream_day.chunks r_lock (minutes 1440) ≡ false)

-- ---- the ranges since the last reset tile each partition up to its stored offset

abbrev pub EndsAt : Book → ℕ → Option ℕ → Type 0
EndsAt book partition offset =
    (ends_with (run_of w t partition book.publications).from (run_of w t partition book.publications).ranges ≡ Some offset)
    × (stored book.offsets w t partition ≡ offset)

abbrev pub RangesTile : Type 0
RangesTile =
    EndsAt (after (two_replicas ++ both_publish ++ offsets_tried)) 0 (Some 10)
    × EndsAt (after (two_stored ++ read_only p (range 0 10 12 ∷ []) ∷ [])) 0 (Some 12)
    × EndsAt (after (two_stored ++ read_only p (range 0 10 12 ∷ []) ∷ [])) 1 (Some 20)
    × EndsAt (after (two_stored ++ read_only p (range 0 10 12 ∷ []) ∷ [])) 2 None
    × EndsAt (after (two_stored ++ reset (point 0 4 ∷ []) ∷ read_only p (range 0 4 6 ∷ []) ∷ [])) 0 (Some 6)
    × EndsAt (after (two_stored ++ reset (point 0 4 ∷ []) ∷ read_only p (range 0 4 6 ∷ []) ∷ [])) 1 None

-- ---- the valid locks of an appending and a replacing task go together

abbrev pub ReplacingGoesWithAppending : Type 0
ReplacingGoesWithAppending = AreCompatible (after (both ++ stream_day)).posses

-- ---- the unpublished sequences of a group go on from one another, from the stored offsets on

abbrev pub three_sequences : List SequenceRow
three_sequences =
    first_row States.Published now (at_offset 10) (r000 ∷ []) (report_row r000 10 ∷ [])
    ∷ record {
      source = w;
      group = 0;
      index = 1;
      state = States.Closed;
      opened = now;
      closed = now;
      starts = at_offset 10;
      ends = at_offset 12;
      live = r010 ∷ [];
      reports = report_row r010 12 ∷ [];
    }
    ∷ record {
      source = w;
      group = 0;
      index = 2;
      state = States.Reading;
      opened = now;
      closed = pos 0;
      starts = at_offset 12;
      ends = [];
      live = codes "sup:w:0:2:0" ∷ [];
      reports = [];
    }
    ∷ []

abbrev pub two_unpublished : Book
two_unpublished = after (published_ten ++ Commands.Tick now ∷ Commands.Manage now ∷ Commands.Checkpoint r010 (at_offset 12) ∷ Commands.Tick now ∷ [])

abbrev pub SequencesGoOn : Type 0
SequencesGoOn =
    (two_unpublished.sequences ≡ three_sequences)
    × (two_unpublished.offsets ≡ offset_row_of w t 0 10 ∷ [])
    × Chain (positions (offset_row_of w t 0 10 ∷ []) w t (partitions_of (supervisor_row_of w) 0)) (open_rows w 0 three_sequences)
    × AllByRecursion (IsOwn (partitions_of (supervisor_row_of w) 0)) three_sequences
