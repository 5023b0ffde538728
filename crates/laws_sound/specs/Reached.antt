-- What holds of every book that commands reach from the empty one: that of sound books, with no premise but the commands' form.
use Rattle.std.specs.Prelude.{◌∷◌, ◌≡◌, List, Option, false, length, true, ℕ, ℤ}
use Rattle.iv_span.specs.Extent.{Extent, has}
use Rattle.seg_names.specs.declared.seg_id.SegId.{SegId}
use Rattle.book_rows.specs.Answer.{answer, book_after, changes, next, reached}
use Rattle.book_rows.specs.Carried.{to_replace}
use Rattle.book_rows.specs.Form.{AllKeepForm}
use Rattle.book_rows.specs.Lists.{In}
use Rattle.book_rows.specs.Live.{IsValid, is_covered}
use Rattle.book_rows.specs.declared.commands.Command.{Command}
use Rattle.book_rows.specs.declared.commands.Command.TheVariants as Commands
use Rattle.book_rows.specs.declared.kinds.LockKind.TheVariants as LockKinds
use Rattle.book_rows.specs.declared.replies.Reply.TheVariants as Replies
use Rattle.book_rows.specs.declared.rows.Book.{Book}
use Rattle.book_rows.specs.declared.rows.PosseRow.{PosseRow}
use Rattle.book_rows.specs.declared.rows.Ranges.{Ranges}
use Rattle.laws_shown.specs.Appended.{IsShownOnce}
use Rattle.laws_shown.specs.Asking.{IsReading, MayAsk}
use Rattle.laws_shown.specs.Carrying.{IsReadList, IsSplit}
use Rattle.laws_shown.specs.History.{IsKept, IsShownAsPut}
use Rattle.laws_shown.specs.Printed.{IsContentsPut, IsTimelinePut}

-- what is shown at an instant is what the publications put there and did not take away, each root once
abbrev pub ReachedShowWhatWasPut : Type 0
ReachedShowWhatWasPut = (cs : List Command) → AllKeepForm cs → (source : List ℕ) (t : ℤ) (root : SegId) → IsShownAsPut (reached cs) source t root

-- and so do the printed timeline and the printed contents
abbrev pub ReachedTimelineIsWhatWasPut : Type 0
ReachedTimelineIsWhatWasPut = (cs : List Command) → AllKeepForm cs → (source : List ℕ) (t : ℤ) (root : SegId) → IsTimelinePut (reached cs) source t root

abbrev pub ReachedContentsAreWhatWasPut : Type 0
ReachedContentsAreWhatWasPut = (cs : List Command) → AllKeepForm cs → (source : List ℕ) (t : ℤ) (root : SegId) → IsContentsPut (reached cs) source t root

-- what a replacement reads is what the contents have that was added before its lock
abbrev pub ReachedReadWhatWasThere : Type 0
ReachedReadWhatWasThere = (cs : List Command) → AllKeepForm cs → (q : PosseRow) → IsReadList (reached cs) q (to_replace (reached cs).segments (reached cs).publications q)

-- and with its upgrade rows it splits the contents that the lock doesn't cover yet
abbrev pub ReachedSplitContents : Type 0
ReachedSplitContents = (cs : List Command) → AllKeepForm cs → (q : PosseRow) → IsValid (reached cs).posses q → q.lock_kind ≡ LockKinds.Replace
    → (t : ℤ) → has q.span t ≡ true → is_covered (reached cs).chunks q t ≡ false → (root : SegId) → IsSplit (reached cs) q t root

-- asked by command, a list of roots is answered only to a task that may ask, and is the reading under its lock
abbrev pub ReachedAnswersAreReadings : Type 0
ReachedAnswersAreReadings = (cs : List Command) → AllKeepForm cs → (task : List ℕ) (span : Extent) (roots : List SegId) → answer (reached cs) (Commands.ToReplace task span) ≡ Replies.ToReplace roots → IsReading (reached cs) task span roots

-- of a span that has an instant it may ask under one lock only
abbrev pub ReachedAskOneLock : Type 0
ReachedAskOneLock = (cs : List Command) → AllKeepForm cs → (task : List ℕ) (span : Extent) (t : ℤ) (p q : PosseRow) → has span t ≡ true → MayAsk (reached cs) task span p → MayAsk (reached cs) task span q → p ≡ q

-- the book behind commands, an append, and more commands
abbrev pub behind_append : List Command → List ℕ → List SegId → Option Ranges → List Command → Book
behind_append before task ids ranges after = book_after (next (reached before) (Commands.Append task ids ranges)) after

-- an append that changes the book, whatever commands that keep their form come before and after: each of its ids is shown once at each instant of its span at which no later publication takes it away
abbrev pub AppendedStaysShown : Type 0
AppendedStaysShown = (before after : List Command) (task : List ℕ) (ids : List SegId) (ranges : Option Ranges) → AllKeepForm before → AllKeepForm (Commands.Append task ids ranges ∷ after)
    → changes (reached before) (Commands.Append task ids ranges) ≡ true → (a : SegId) (t : ℤ) → In a ids → has a.span t ≡ true
    → IsKept (behind_append before task ids ranges after).publications a.source t (length (reached before).publications) → IsShownOnce (behind_append before task ids ranges after) a.source t a
