-- From its allocation to its append and after: an allocated id is that of a pending, which may be appended, and is then shown until a publication takes it away.
use Rattle.std.specs.Prelude.{◌∷◌, ◌≡◌, List, None, Option, [], length, true, ℕ, ℤ}
use Rattle.iv_span.specs.Extent.{has}
use Rattle.iv_time.specs.declared.granularity.Granularity.{Granularity}
use Rattle.seg_names.specs.declared.seg_id.SegId.{SegId}
use Rattle.book_rows.specs.Allocation.{is_root}
use Rattle.book_rows.specs.Answer.{answer, book_after, changes, next}
use Rattle.book_rows.specs.Append.{append_fault}
use Rattle.book_rows.specs.Lists.{In}
use Rattle.book_rows.specs.Locks.{is_member_of, posse_of}
use Rattle.book_rows.specs.Sound.{Sound}
use Rattle.book_rows.specs.Visible.{shown}
use Rattle.book_rows.specs.declared.commands.Command.{Command}
use Rattle.book_rows.specs.declared.kinds.LockKind.{LockKind}
use Rattle.book_rows.specs.declared.rows.Book.{Book}
use Rattle.book_rows.specs.declared.rows.PendingRow.{PendingRow}
use Rattle.book_rows.specs.declared.rows.PosseRow.{PosseRow}
use Rattle.book_rows.specs.declared.rows.Ranges.{Ranges}
use Rattle.book_rows.specs.declared.commands.Command.TheVariants as Commands
use Rattle.book_rows.specs.declared.replies.Refusal.TheVariants as Refusals
use Rattle.book_rows.specs.declared.replies.Reply.TheVariants as Replies
use Rattle.laws_chunks.specs.Meaning.{IsShown}
use Rattle.laws_shown.specs.History.{IsKept}

-- ---- it is allocated

-- a root pending has this id and is of this lock
abbrev pub IsRootPending : Book → SegId → ℕ → Type 0
IsRootPending b a lock = (p : PendingRow) × In p b.pendings × (p.id ≡ a) × (p.posse ≡ lock) × (is_root p ≡ true)

-- that of the answer, in the book after
abbrev pub AllocatedIsPending : Type 0
AllocatedIsPending = (b : Book) (task : List ℕ) (kind : LockKind) (sequence : List ℕ) (previous : Option SegId) (at : ℤ) (granularity : Granularity) (now : ℤ) (a : SegId) (lock : ℕ) (revoked : List ℕ)
    → answer b (Commands.Allocate task kind sequence previous at granularity now) ≡ Replies.Allocate a lock revoked → IsRootPending (next b (Commands.Allocate task kind sequence previous at granularity now)) a lock

-- ---- it may be appended

-- as long as its root pending is there, and the task is a member of its lock
abbrev pub PendingMayBeAppended : Type 0
PendingMayBeAppended = (qs : List PosseRow) (ps : List PendingRow) (p : PendingRow) (task : List ℕ) → In p ps → is_root p ≡ true → is_member_of (posse_of p.posse qs) task ≡ true
    → append_fault qs ps task (p.id ∷ []) ≡ None

-- and whatever else it appends, and whatever else speaks against it: it isn't refused for this id as one that isn't allocated
abbrev pub PendingIsNotRefused : Type 0
PendingIsNotRefused = (b : Book) (p : PendingRow) (task : List ℕ) (ids : List SegId) (ranges : Option Ranges) → In p b.pendings → is_root p ≡ true → is_member_of (posse_of p.posse b.posses) task ≡ true
    → answer b (Commands.Append task ids ranges) ≡ Replies.Refused (Refusals.NotAllocated p.id) → ⊥

-- ---- it is shown

-- one visible row stands for it, and no other
pub record IsShownOnce (b : Book) (source : List ℕ) (t : ℤ) (root : SegId) : Type 0 where
  pub row : IsShown b.segments source t root
  pub once : shown b.segments source t root ≡ 1

-- a command that changes the book was done, and then others, up to a sound book
pub record IsDoneThen (b : Book) (c : Command) (cs : List Command) : Type 0 where
  pub sound : Sound b
  pub done : changes b c ≡ true
  pub still_sound : Sound (book_after (next b c) cs)

-- an append that isn't refused and isn't a repeat: whatever commands follow, each id is shown at each instant of its own span at which no later publication takes it away
abbrev pub AppendedIsShown : Type 0
AppendedIsShown = (b : Book) (task : List ℕ) (ids : List SegId) (ranges : Option Ranges) (cs : List Command) → IsDoneThen b (Commands.Append task ids ranges) cs
    → (a : SegId) (t : ℤ) → In a ids → has a.span t ≡ true → IsKept (book_after (next b (Commands.Append task ids ranges)) cs).publications a.source t (length b.publications)
    → IsShownOnce (book_after (next b (Commands.Append task ids ranges)) cs) a.source t a
