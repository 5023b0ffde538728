-- What the book behind any lines of a run has beside what it shows: of its locks, of its offsets, of its replacements, and of its sequences.
use Rattle.std.specs.Prelude.{◌≡◌, ◌≢◌, List, Some, false, true, ℕ, ℤ}
use Rattle.iv_span.specs.Extent.{Extent, has}
use Rattle.seg_names.specs.declared.seg_id.SegId.{SegId}
use Rattle.book_rows.specs.Answer.{answer}
use Rattle.book_rows.specs.Lists.{at_place}
use Rattle.book_rows.specs.Live.{IsValid, is_covered}
use Rattle.book_rows.specs.Locks.{compatible}
use Rattle.book_rows.specs.declared.commands.Command.TheVariants as Commands
use Rattle.book_rows.specs.declared.kinds.LockKind.TheVariants as LockKinds
use Rattle.book_rows.specs.declared.replies.Reply.TheVariants as Replies
use Rattle.book_rows.specs.declared.rows.Book.{Book}
use Rattle.book_rows.specs.declared.rows.PosseRow.{PosseRow}
use Rattle.laws_offsets.specs.Coverage.{AreReadOnce}
use Rattle.laws_sequences.specs.Links.{AreLinked}
use Rattle.laws_shown.specs.Asking.{IsReading}
use Rattle.laws_shown.specs.Carrying.{IsSplit}
use Rattle.laws_runs.specs.RunBooks.{OfRuns}

-- any two locks, neither of them revoked, are compatible
abbrev pub HasCompatibleLocks : Book → Type 0
HasCompatibleLocks b = (i j : ℕ) (p q : PosseRow) → at_place i b.posses ≡ Some p → at_place j b.posses ≡ Some q → i ≢ j → p.revoked ≡ false → q.revoked ≡ false → compatible p q ≡ true

abbrev pub RunsHaveCompatibleLocks : Type 0
RunsHaveCompatibleLocks = OfRuns HasCompatibleLocks

-- each offset of a partition, from where it begins up to the stored one, lies in one range since its stream's last reset
abbrev pub RunsReadOffsetsOnce : Type 0
RunsReadOffsetsOnce = OfRuns AreReadOnce

-- whatever list of roots `to_replace` answers is that to read under a lock of the task
abbrev pub AnswersReadings : Book → Type 0
AnswersReadings b = (task : List ℕ) (span : Extent) (roots : List SegId) → answer b (Commands.ToReplace task span) ≡ Replies.ToReplace roots → IsReading b task span roots

abbrev pub RunsAnswerReadings : Type 0
RunsAnswerReadings = OfRuns AnswersReadings

-- at an instant that a valid replacing lock doesn't cover yet, these roots and those of its upgrade rows split the contents
abbrev pub SplitsContents : Book → Type 0
SplitsContents b = (q : PosseRow) → IsValid b.posses q → q.lock_kind ≡ LockKinds.Replace → (t : ℤ) → has q.span t ≡ true → is_covered b.chunks q t ≡ false → (root : SegId) → IsSplit b q t root

abbrev pub RunsSplitContents : Type 0
RunsSplitContents = OfRuns SplitsContents

-- the unpublished sequences of each supervised group go on from one another, the first from the stored offsets
abbrev pub HasSequencesInLine : Book → Type 0
HasSequencesInLine b = AreLinked b.offsets b.supervisors b.sequences

abbrev pub RunsKeepSequencesInLine : Type 0
RunsKeepSequencesInLine = OfRuns HasSequencesInLine
