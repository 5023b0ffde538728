-- What is answered to a task that asks what its replacement has to read.
use Rattle.std.specs.Prelude.{◌≡◌, List, Some, false, true, ℕ, ℤ}
use Rattle.iv_span.specs.Extent.{Extent, covers, has, overlap}
use Rattle.seg_names.specs.declared.seg_id.SegId.{SegId}
use Rattle.book_rows.specs.Answer.{answer, changes, next}
use Rattle.book_rows.specs.Carried.{to_replace}
use Rattle.book_rows.specs.Ids.{id_before}
use Rattle.book_rows.specs.Lists.{In, list_links}
use Rattle.book_rows.specs.Live.{IsValid}
use Rattle.book_rows.specs.Outcome.{task_of}
use Rattle.book_rows.specs.Sound.{Sound}
use Rattle.book_rows.specs.declared.rows.Book.{Book}
use Rattle.book_rows.specs.declared.rows.PosseRow.{PosseRow}
use Rattle.book_rows.specs.declared.rows.TaskRow.{TaskRow}
use Rattle.book_rows.specs.declared.commands.Command.TheVariants as Commands
use Rattle.book_rows.specs.declared.kinds.LockKind.TheVariants as LockKinds
use Rattle.book_rows.specs.declared.kinds.TaskStatus.TheVariants as Statuses
use Rattle.book_rows.specs.declared.replies.Reply.TheVariants as Replies
use Rattle.laws_shown.specs.Carrying.{IsReadList}

-- the task runs, and no revoked lock of its source has it as a member and overlaps the span; it is a member of this lock of its source, which is valid and replacing and contains the span
pub record MayAsk (b : Book) (task : List ℕ) (span : Extent) (q : PosseRow) : Type 0 where
  pub row : TaskRow
  pub found : task_of task b.tasks ≡ Some row
  pub runs : row.status ≡ Statuses.Running
  pub lost_none : (lost : PosseRow) → In lost b.posses → lost.revoked ≡ true → lost.source ≡ row.source → In task lost.members → overlap lost.span span ≡ false
  pub is_valid : IsValid b.posses q
  pub kind_is : q.lock_kind ≡ LockKinds.Replace
  pub source_is : q.source ≡ row.source
  pub is_member : In task q.members
  pub contains : covers q.span span ≡ true

-- ---- what is answered

-- the task may ask under a lock, and these are the roots to read under it: the list that is defined for it, in id order and so each once
pub record IsReading (b : Book) (task : List ℕ) (span : Extent) (roots : List SegId) : Type 0 where
  pub lock : PosseRow
  pub may_ask : MayAsk b task span lock
  pub read : IsReadList b lock roots
  pub list_is : roots ≡ to_replace b.segments b.publications lock
  pub in_order : list_links id_before roots ≡ true

-- in a sound book a list of roots is answered only so
abbrev pub AnsweredIsReading : Type 0
AnsweredIsReading = (b : Book) (task : List ℕ) (span : Extent) (roots : List SegId) → Sound b → answer b (Commands.ToReplace task span) ≡ Replies.ToReplace roots → IsReading b task span roots

-- ---- who is answered

-- a task that may ask is answered a list of roots, and no refusal
abbrev pub AskingIsAnswered : Type 0
AskingIsAnswered = (b : Book) (task : List ℕ) (span : Extent) (q : PosseRow) → MayAsk b task span q → (roots : List SegId) × (answer b (Commands.ToReplace task span) ≡ Replies.ToReplace roots)

-- in a sound book, of a span that has an instant, it may ask under one lock only
abbrev pub OneLockIsAsked : Type 0
OneLockIsAsked = (b : Book) (task : List ℕ) (span : Extent) (t : ℤ) (p q : PosseRow) → Sound b → has span t ≡ true → MayAsk b task span p → MayAsk b task span q → p ≡ q

-- ---- what it changes

-- nothing, whoever asks
abbrev pub AskingChangesNothing : Type 0
AskingChangesNothing = (b : Book) (task : List ℕ) (span : Extent) → (changes b (Commands.ToReplace task span) ≡ false) × (next b (Commands.ToReplace task span) ≡ b)
