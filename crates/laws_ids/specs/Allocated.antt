-- From an allocation to what is shown, over commands that keep their form, from any sound book on.
use Rattle.std.specs.Prelude.{◌∷◌, ◌≡◌, List, Option, length, true, ℕ, ℤ}
use Rattle.iv_span.specs.Extent.{has}
use Rattle.iv_time.specs.declared.granularity.Granularity.{Granularity}
use Rattle.seg_names.specs.declared.seg_id.SegId.{SegId}
use Rattle.book_rows.specs.Answer.{answer, book_after, changes, next}
use Rattle.book_rows.specs.Lists.{In}
use Rattle.book_rows.specs.Shape.{all_adds}
use Rattle.book_rows.specs.Sound.{Sound}
use Rattle.book_rows.specs.declared.commands.Command.{Command}
use Rattle.book_rows.specs.declared.commands.Command.TheVariants as Commands
use Rattle.book_rows.specs.declared.kinds.LockKind.{LockKind}
use Rattle.book_rows.specs.declared.replies.Refusal.TheVariants as Refusals
use Rattle.book_rows.specs.declared.replies.Reply.TheVariants as Replies
use Rattle.book_rows.specs.declared.rows.Book.{Book}
use Rattle.book_rows.specs.declared.rows.PosseRow.{PosseRow}
use Rattle.book_rows.specs.declared.rows.Ranges.{Ranges}
use Rattle.laws_revocation.specs.LockNumbers.{HasValidLock}
use Rattle.laws_shown.specs.Appended.{IsRootPending, IsShownOnce}
use Rattle.laws_shown.specs.History.{IsKept}
use Rattle.book_rows.specs.Form.{AllKeepForm}

-- the command is an allocation, and is answered this id and lock
pub record IsAllocated (b : Book) (c : Command) (a : SegId) (n : ℕ) : Type 0 where
  pub task : List ℕ
  pub kind : LockKind
  pub sequence : List ℕ
  pub previous : Option SegId
  pub at : ℤ
  pub granularity : Granularity
  pub now : ℤ
  pub revoked : List ℕ
  pub command_is : c ≡ Commands.Allocate task kind sequence previous at granularity now
  pub answered : answer b c ≡ Replies.Allocate a n revoked

-- a valid lock has the number, and no publication added the id
pub record IsHeld (b : Book) (a : SegId) (n : ℕ) : Type 0 where
  pub lock : HasValidLock b.posses n
  pub not_added : In a (all_adds b.publications) → ⊥

-- no append by a member of the lock is refused for the id as one that isn't allocated
abbrev pub IsLetThrough : Book → SegId → ℕ → Type 0
IsLetThrough b a n = (q : PosseRow) (task : List ℕ) (ids : List SegId) (ranges : Option Ranges) → In q b.posses → q.number ≡ n → In task q.members
    → answer b (Commands.Append task ids ranges) ≡ Replies.Refused (Refusals.NotAllocated a) → ⊥

-- the book behind an append and more commands
abbrev pub after_append : Book → List ℕ → List SegId → Option Ranges → List Command → Book
after_append b task ids ranges after = book_after (next b (Commands.Append task ids ranges)) after

-- once an append of the id changes the book, and whatever commands that keep their form come after, it is shown once at each instant of its span at which no later publication takes it away
abbrev pub IsShownWhenAppended : Book → SegId → Type 0
IsShownWhenAppended b a = (after : List Command) (task : List ℕ) (ids : List SegId) (ranges : Option Ranges) → AllKeepForm (Commands.Append task ids ranges ∷ after) → In a ids → changes b (Commands.Append task ids ranges) ≡ true
    → (t : ℤ) → has a.span t ≡ true → IsKept (after_append b task ids ranges after).publications a.source t (length b.publications) → IsShownOnce (after_append b task ids ranges after) a.source t a

-- so is each id in a sound book
abbrev pub SoundAppendedStaysShown : Type 0
SoundAppendedStaysShown = (b : Book) (a : SegId) → Sound b → IsShownWhenAppended b a

-- the id waits: it is that of a root pending of the lock
pub record IsReady (b : Book) (a : SegId) (n : ℕ) : Type 0 where
  pub waits : IsRootPending b a n
  pub let_through : IsLetThrough b a n
  pub shown : IsShownWhenAppended b a

-- an id that was allocated in a sound book is ready where the commands since have left its lock valid and have not added it
abbrev pub AllocatedIsReady : Type 0
AllocatedIsReady = (b : Book) (c : Command) (cs : List Command) (a : SegId) (n : ℕ) → Sound b → AllKeepForm (c ∷ cs) → IsAllocated b c a n → IsHeld (book_after (next b c) cs) a n → IsReady (book_after (next b c) cs) a n
