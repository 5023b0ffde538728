-- What each command makes of the publications and of the stored offsets.
use Rattle.std.specs.Prelude.{◌++◌, ◌∷◌, ◌≡◌, Bool, List, None, Option, Some, [], false, true, ℕ}
use Rattle.iv_span.specs.Extent.{Extent}
use Rattle.book_rows.specs.Answer.{changes, next}
use Rattle.book_rows.specs.Lists.{In}
use Rattle.book_rows.specs.Offsets.{advanced, compared, reset_to, stored}
use Rattle.book_rows.specs.Outcome.{is_full, task_of}
use Rattle.book_rows.specs.Publications.{drop_publication, reset_publication}
use Rattle.book_rows.specs.Tiles.{is_reset}
use Rattle.book_rows.specs.declared.commands.Command.{Command}
use Rattle.book_rows.specs.declared.kinds.Table.TheVariants as Tables
use Rattle.book_rows.specs.declared.replies.Refusal.{Refusal}
use Rattle.book_rows.specs.declared.rows.Book.{Book}
use Rattle.book_rows.specs.declared.rows.Offset.{Offset}
use Rattle.book_rows.specs.declared.rows.Publication.{Publication}
use Rattle.book_rows.specs.declared.rows.Range.{Range}
use Rattle.book_rows.specs.declared.rows.Ranges.{Ranges}
use Rattle.book_rows.specs.declared.rows.TaskRow.{TaskRow}
use Rattle.book_rows.specs.declared.commands.Command.TheVariants as Commands
use Rattle.laws_offsets.specs.Comparing.{GoesOn}

-- ---- publishes of tasks

-- the task that publishes, and the ranges that it says it has read
pub record TaskRanges : Type 0 where
  pub task : List ℕ
  pub ranges : Option Ranges

-- what an append, an insert or a replace publishes; no other command does
abbrev pub publish_of : Command → Option TaskRanges
publish_of (Commands.Append task ids ranges) = Some (record { task = task; ranges = ranges })
publish_of (Commands.Insert task spans ids tombstones ranges) = Some (record { task = task; ranges = ranges })
publish_of (Commands.Replace task spans ids tombstones ranges) = Some (record { task = task; ranges = ranges })
publish_of (Commands.Submit task group source kind priority locks) = None
publish_of (Commands.Manage now) = None
publish_of (Commands.Lock task lock_kind span now) = None
publish_of (Commands.Unlock task lock) = None
publish_of (Commands.Allocate task lock_kind sequence previous at granularity now) = None
publish_of (Commands.End task status) = None
publish_of (Commands.Drop source span) = None
publish_of (Commands.Reset source stream offsets) = None
publish_of (Commands.Supervise source stream partitions task_count replicas task_duration completion_timeout) = None
publish_of (Commands.Tick now) = None
publish_of (Commands.Paused task offsets) = None
publish_of (Commands.Checkpoint task offsets) = None
publish_of (Commands.ToReplace task span) = None
publish_of (Commands.Show what) = None

-- the ranges went on from what was stored, there is room for their ends, which are stored now, and one publication more has the
-- ranges; tasks and supervisors are as they were
pub record IsPublished (b after : Book) (p : TaskRanges) : Type 0 where
  pub task : TaskRow
  pub found : task_of p.task b.tasks ≡ Some task
  pub goes_on : compared b.offsets task.source p.ranges ≡ None
  pub offsets : after.offsets ≡ advanced b.offsets task.source p.ranges
  pub room : is_full Tables.Offsets after ≡ false
  pub publication : Publication
  pub publications : after.publications ≡ b.publications ++ publication ∷ []
  pub no_reset : is_reset publication.kind ≡ false
  pub source_is : publication.source ≡ task.source
  pub ranges_are : publication.ranges ≡ p.ranges
  pub tasks : after.tasks ≡ b.tasks
  pub supervisors : after.supervisors ≡ b.supervisors

-- a publish that changes the book
abbrev pub PublishGoesOn : Type 0
PublishGoesOn = (b : Book) (c : Command) (p : TaskRanges) → publish_of c ≡ Some p → changes b c ≡ true → IsPublished b (next b c) p

-- each range of a publish that changes the book ends at its start or later, and starts at what was stored
abbrev pub RangesStartAtStored : Type 0
RangesStartAtStored = (b : Book) (c : Command) (p : TaskRanges) (ranges : Ranges) (t : TaskRow) (r : Range) → publish_of c ≡ Some p → p.ranges ≡ Some ranges → task_of p.task b.tasks ≡ Some t → changes b c ≡ true
    → In r ranges.parts → GoesOn (stored b.offsets t.source ranges.stream r.partition) r

-- a publish whose ranges don't go on from what is stored leaves the book as it was
abbrev pub RefusedLeavesBook : Type 0
RefusedLeavesBook = (b : Book) (c : Command) (p : TaskRanges) (t : TaskRow) (why : Refusal) → publish_of c ≡ Some p → task_of p.task b.tasks ≡ Some t → compared b.offsets t.source p.ranges ≡ Some why
    → (changes b c ≡ false) × (next b c ≡ b)

-- ---- resets and drops

-- the offsets are stored in place of those of the stream, there is room for them, and one publication more lists them
pub record IsReset (b after : Book) (source stream : List ℕ) (offsets : List Offset) : Type 0 where
  pub stored : after.offsets ≡ reset_to b.offsets source stream offsets
  pub room : is_full Tables.Offsets after ≡ false
  pub publications : after.publications ≡ b.publications ++ reset_publication source stream offsets ∷ []

-- a reset that changes the book
abbrev pub ResetReplaces : Type 0
ResetReplaces = (b : Book) (source stream : List ℕ) (offsets : List Offset) → changes b (Commands.Reset source stream offsets) ≡ true → IsReset b (next b (Commands.Reset source stream offsets)) source stream offsets

-- the stored offsets, the tasks and the supervisors are as they were, and one publication more has no ranges
pub record IsDropped (b after : Book) (source : List ℕ) (span : Extent) : Type 0 where
  pub offsets : after.offsets ≡ b.offsets
  pub publications : after.publications ≡ b.publications ++ drop_publication source span ∷ []
  pub tasks : after.tasks ≡ b.tasks
  pub supervisors : after.supervisors ≡ b.supervisors

-- a drop that changes the book
abbrev pub DropLeavesOffsets : Type 0
DropLeavesOffsets = (b : Book) (source : List ℕ) (span : Extent) → changes b (Commands.Drop source span) ≡ true → IsDropped b (next b (Commands.Drop source span)) source span

-- ---- the other commands

-- a command that neither publishes nor drops nor resets
abbrev pub publishes_nothing : Command → Bool
publishes_nothing (Commands.Append task ids ranges) = false
publishes_nothing (Commands.Insert task spans ids tombstones ranges) = false
publishes_nothing (Commands.Replace task spans ids tombstones ranges) = false
publishes_nothing (Commands.Drop source span) = false
publishes_nothing (Commands.Reset source stream offsets) = false
publishes_nothing (Commands.Submit task group source kind priority locks) = true
publishes_nothing (Commands.Manage now) = true
publishes_nothing (Commands.Lock task lock_kind span now) = true
publishes_nothing (Commands.Unlock task lock) = true
publishes_nothing (Commands.Allocate task lock_kind sequence previous at granularity now) = true
publishes_nothing (Commands.End task status) = true
publishes_nothing (Commands.Supervise source stream partitions task_count replicas task_duration completion_timeout) = true
publishes_nothing (Commands.Tick now) = true
publishes_nothing (Commands.Paused task offsets) = true
publishes_nothing (Commands.Checkpoint task offsets) = true
publishes_nothing (Commands.ToReplace task span) = true
publishes_nothing (Commands.Show what) = true

-- publications and stored offsets are as they were
pub record AreUntouched (b after : Book) : Type 0 where
  pub publications : after.publications ≡ b.publications
  pub offsets : after.offsets ≡ b.offsets

abbrev pub OthersLeaveOffsets : Type 0
OthersLeaveOffsets = (b : Book) (c : Command) → publishes_nothing c ≡ true → AreUntouched b (next b c)
