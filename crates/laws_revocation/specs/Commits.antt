-- Under which locks a command publishes.
use Rattle.std.specs.Prelude.{◌&&◌, ◌++◌, ◌∷◌, ◌≡◌, Bool, Err, List, None, Ok, Option, Result, Some, [], false, filter, map, true, ℕ}
use Rattle.iv_span.specs.Extent.{Extent, covers}
use Rattle.seg_names.specs.declared.seg_id.SegId.{SegId}
use Rattle.book_rows.specs.Allocation.{is_root}
use Rattle.book_rows.specs.Answer.{book_after, changes, empty_book, next}
use Rattle.book_rows.specs.Form.{KeepsForm}
use Rattle.book_rows.specs.Ids.{is_listed}
use Rattle.book_rows.specs.Lists.{In, stands_in}
use Rattle.book_rows.specs.Outcome.{task_of}
use Rattle.book_rows.specs.Over.{Filling, Inserting, Replacing, Target, check_over}
use Rattle.book_rows.specs.Publications.{Publish, in_spans}
use Rattle.book_rows.specs.Shape.{AreDistinct, is_append, same_version}
use Rattle.book_rows.specs.Sound.{Sound}
use Rattle.book_rows.specs.declared.commands.Command.{Command}
use Rattle.book_rows.specs.declared.commands.Command.TheVariants as Commands
use Rattle.book_rows.specs.declared.kinds.LockKind.{LockKind}
use Rattle.book_rows.specs.declared.kinds.LockKind.TheVariants as LockKinds
use Rattle.book_rows.specs.declared.replies.Refusal.{Refusal}
use Rattle.book_rows.specs.declared.rows.Book.{Book}
use Rattle.book_rows.specs.declared.rows.PendingRow.{PendingRow}
use Rattle.book_rows.specs.declared.rows.PosseRow.{PosseRow}
use Rattle.book_rows.specs.declared.rows.Publication.{Publication}
use Rattle.book_rows.specs.declared.rows.Ranges.{Ranges}
use Rattle.book_rows.specs.declared.rows.TaskRow.{TaskRow}
use Rattle.laws_revocation.specs.HeldPendings.{HasHeldPendings}
use Rattle.laws_revocation.specs.LockNumbers.{HasNumbers, IsOver}

-- ---- the locks of a publish

-- of an append: those of the pendings that it takes
abbrev pub locks_of_ids : Book → List SegId → List ℕ
locks_of_ids b ids = map (λ p. p.posse) (filter (λ p. is_root p && is_listed ids p.id) b.pendings)

-- of spans: those that the check found, one for each span, where it lets the spans through
abbrev pub locks_found : Result (List Target) Refusal → List ℕ
locks_found (Err why) = []
locks_found (Ok xs) = map (λ x. x.lock) xs

abbrev pub locks_of_over : Filling → Option TaskRow → Book → Publish → List ℕ
locks_of_over f None b p = []
locks_of_over f (Some t) b p = locks_found (check_over f b p t)

-- only three commands publish under locks
abbrev pub locks_of_publish : Book → Command → List ℕ
locks_of_publish b (Commands.Submit task group source kind priority locks) = []
locks_of_publish b (Commands.Manage now) = []
locks_of_publish b (Commands.Lock task lock_kind span now) = []
locks_of_publish b (Commands.Unlock task lock) = []
locks_of_publish b (Commands.Allocate task lock_kind sequence previous at granularity now) = []
locks_of_publish b (Commands.Append task ids ranges) = locks_of_ids b ids
locks_of_publish b (Commands.Insert task spans ids tombstones ranges) = locks_of_over Inserting (task_of task b.tasks) b (in_spans spans ids tombstones ranges)
locks_of_publish b (Commands.Replace task spans ids tombstones ranges) = locks_of_over Replacing (task_of task b.tasks) b (in_spans spans ids tombstones ranges)
locks_of_publish b (Commands.End task status) = []
locks_of_publish b (Commands.Drop source span) = []
locks_of_publish b (Commands.Reset source stream offsets) = []
locks_of_publish b (Commands.Supervise source stream partitions task_count replicas task_duration completion_timeout) = []
locks_of_publish b (Commands.Tick now) = []
locks_of_publish b (Commands.Paused task offsets) = []
locks_of_publish b (Commands.Checkpoint task offsets) = []
locks_of_publish b (Commands.ToReplace task span) = []
locks_of_publish b (Commands.Show what) = []

-- the command adds a publication, and does so under the lock of this number
abbrev pub publishes_under : ℕ → Book → Command → Bool
publishes_under n b c = changes b c && stands_in (locks_of_publish b c) n

-- ---- each publish has locks

-- a pending of one of the locks has the id
pub record HasIdLock (b : Book) (ns : List ℕ) (a : SegId) : Type 0 where
  pub pending : PendingRow
  pub among : In pending b.pendings
  pub id_is : pending.id ≡ a
  pub listed : stands_in ns pending.posse ≡ true

-- each id of an append that changes the book
abbrev pub EachIdHasLock : Type 0
EachIdHasLock = (b : Book) (task : List ℕ) (ids : List SegId) (ranges : Option Ranges) (a : SegId) → changes b (Commands.Append task ids ranges) ≡ true → In a ids → HasIdLock b (locks_of_publish b (Commands.Append task ids ranges)) a

-- one of the locks is valid and contains the span
pub record HasSpanLock (b : Book) (ns : List ℕ) (span : Extent) : Type 0 where
  pub lock : PosseRow
  pub among : In lock b.posses
  pub valid : lock.revoked ≡ false
  pub within : covers lock.span span ≡ true
  pub listed : stands_in ns lock.number ≡ true

-- each span of an insert that changes the book
abbrev pub EachInsertedSpanHasLock : Type 0
EachInsertedSpanHasLock = (b : Book) (task : List ℕ) (spans : List Extent) (ids tombs : List SegId) (ranges : Option Ranges) (span : Extent) → changes b (Commands.Insert task spans ids tombs ranges) ≡ true → In span spans
    → HasSpanLock b (locks_of_publish b (Commands.Insert task spans ids tombs ranges)) span

-- and of a replacement
abbrev pub EachReplacedSpanHasLock : Type 0
EachReplacedSpanHasLock = (b : Book) (task : List ℕ) (spans : List Extent) (ids tombs : List SegId) (ranges : Option Ranges) (span : Extent) → changes b (Commands.Replace task spans ids tombs ranges) ≡ true → In span spans
    → HasSpanLock b (locks_of_publish b (Commands.Replace task spans ids tombs ranges)) span

-- what it adds is one publication
abbrev pub PublishAddsOne : Type 0
PublishAddsOne = (n : ℕ) (b : Book) (c : Command) → publishes_under n b c ≡ true → (m : Publication) × ((next b c).publications ≡ b.publications ++ m ∷ [])

-- ---- the versions that are published

-- one of the locks is valid, of this kind and of the id's source, contains its span and has its version
pub record HasVersionLock (b : Book) (ns : List ℕ) (kind : LockKind) (a : SegId) : Type 0 where
  pub lock : PosseRow
  pub among : In lock b.posses
  pub valid : lock.revoked ≡ false
  pub kind_is : lock.lock_kind ≡ kind
  pub source_is : lock.source ≡ a.source
  pub within : covers lock.span a.span ≡ true
  pub version_is : lock.version ≡ a.version
  pub listed : stands_in ns lock.number ≡ true

-- each id and tombstone of an insert that changes the book
abbrev pub EachInsertedIdHasLock : Type 0
EachInsertedIdHasLock = (b : Book) (task : List ℕ) (spans : List Extent) (ids tombs : List SegId) (ranges : Option Ranges) (a : SegId) → HasNumbers b → KeepsForm (Commands.Insert task spans ids tombs ranges)
    → changes b (Commands.Insert task spans ids tombs ranges) ≡ true → In a (ids ++ tombs) → HasVersionLock b (locks_of_publish b (Commands.Insert task spans ids tombs ranges)) LockKinds.Exclusive a

-- and of a replacement
abbrev pub EachReplacedIdHasLock : Type 0
EachReplacedIdHasLock = (b : Book) (task : List ℕ) (spans : List Extent) (ids tombs : List SegId) (ranges : Option Ranges) (a : SegId) → HasNumbers b → KeepsForm (Commands.Replace task spans ids tombs ranges)
    → changes b (Commands.Replace task spans ids tombs ranges) ≡ true → In a (ids ++ tombs) → HasVersionLock b (locks_of_publish b (Commands.Replace task spans ids tombs ranges)) LockKinds.Replace a

-- a revoked lock, not an appending one
pub record IsRevokedIn (b : Book) (q : PosseRow) : Type 0 where
  pub among : In q b.posses
  pub revoked : q.revoked ≡ true
  pub kind_is : is_append q.lock_kind ≡ false

-- where versions are those of one lock, nothing is inserted, nor put in a replacement, under the version of a revoked lock; the form of the two commands is the same
abbrev pub RevokedVersionIsNotPublished : Type 0
RevokedVersionIsNotPublished = (b : Book) (task : List ℕ) (spans : List Extent) (ids tombs : List SegId) (ranges : Option Ranges) (q : PosseRow) (a : SegId) → HasNumbers b → AreDistinct same_version b.posses → IsRevokedIn b q → In a (ids ++ tombs)
    → a.version ≡ q.version → KeepsForm (Commands.Insert task spans ids tombs ranges) → (changes b (Commands.Insert task spans ids tombs ranges) ≡ false) × (changes b (Commands.Replace task spans ids tombs ranges) ≡ false)

-- ---- none is one that is revoked or gone

abbrev pub OverPublishesNothing : Type 0
OverPublishesNothing = (n : ℕ) (b : Book) (c : Command) → HasHeldPendings b → IsOver n b → publishes_under n b c ≡ false

-- once a lock of a sound book is revoked, whatever commands come after
abbrev pub RevokedPublishesNothing : Type 0
RevokedPublishesNothing = (b : Book) (cs : List Command) (c : Command) (q : PosseRow) → Sound b → In q b.posses → q.revoked ≡ true → publishes_under q.number (book_after b cs) c ≡ false

-- the same of a lock that has ended: its number was given, and no lock has it
abbrev pub EndedPublishesNothing : Type 0
EndedPublishesNothing = (b : Book) (cs : List Command) (c : Command) (n : ℕ) → Sound b → IsOver n b → publishes_under n (book_after b cs) c ≡ false

-- from the book without rows on, by any commands before, also such as don't keep their form
abbrev pub ReachedRevokedPublishesNothing : Type 0
ReachedRevokedPublishesNothing = (before after : List Command) (c : Command) (q : PosseRow) → In q (book_after empty_book before).posses → q.revoked ≡ true → publishes_under q.number (book_after (book_after empty_book before) after) c ≡ false

abbrev pub ReachedEndedPublishesNothing : Type 0
ReachedEndedPublishesNothing = (before after : List Command) (c : Command) (n : ℕ) → IsOver n (book_after empty_book before) → publishes_under n (book_after (book_after empty_book before) after) c ≡ false
