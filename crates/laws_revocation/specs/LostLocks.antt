-- What a task is refused while it is a member of a revoked lock.
use Rattle.std.specs.Prelude.{◌&&◌, ◌++◌, ◌∷◌, ◌≡◌, ◌≤◌, Bool, List, None, Ok, Option, Some, [], false, true, ℕ, ℤ}
use Rattle.std.specs.List.{list_all}
use Rattle.iv_span.specs.Extent.{Extent, has}
use Rattle.iv_time.specs.declared.granularity.Granularity.{Granularity}
use Rattle.seg_names.specs.declared.seg_id.SegId.{SegId}
use Rattle.book_rows.specs.Allocation.{fits_request, known_pending, place}
use Rattle.book_rows.specs.Answer.{answer, changes}
use Rattle.book_rows.specs.Append.{is_allocated}
use Rattle.book_rows.specs.Lists.{In}
use Rattle.book_rows.specs.Locks.{clear, is_lost, posse_of}
use Rattle.book_rows.specs.Outcome.{task_of}
use Rattle.book_rows.specs.Over.{Filling, Inserting, Replacing, bad_span, kind_of, lock_for}
use Rattle.book_rows.specs.Publications.{Publish, appending, in_spans, publication_of, repeat_of, without_since}
use Rattle.book_rows.specs.declared.answers.Clear.{Clear}
use Rattle.book_rows.specs.declared.answers.Clear.TheVariants as Clears
use Rattle.book_rows.specs.declared.answers.Place.{Place}
use Rattle.book_rows.specs.declared.commands.Command.{Command}
use Rattle.book_rows.specs.declared.commands.Command.TheVariants as Commands
use Rattle.book_rows.specs.declared.kinds.LockKind.{LockKind}
use Rattle.book_rows.specs.declared.kinds.PubKind.TheVariants as PubKinds
use Rattle.book_rows.specs.declared.kinds.TaskStatus.TheVariants as Statuses
use Rattle.book_rows.specs.declared.replies.Refusal.TheVariants as Refusals
use Rattle.book_rows.specs.declared.replies.Reply.TheVariants as Replies
use Rattle.book_rows.specs.declared.rows.Book.{Book}
use Rattle.book_rows.specs.declared.rows.PendingRow.{PendingRow}
use Rattle.book_rows.specs.declared.rows.PosseRow.{PosseRow}
use Rattle.book_rows.specs.declared.rows.Ranges.{Ranges}
use Rattle.book_rows.specs.declared.rows.TaskRow.{TaskRow}

-- ---- the check of one span

-- a lock that passes, of the least number among those that do
pub record IsLeast (test : PosseRow → Bool) (qs : List PosseRow) (p : PosseRow) : Type 0 where
  pub among : In p qs
  pub passes : test p ≡ true
  pub least : (q : PosseRow) → In q qs → test q ≡ true → p.number ≤ q.number

-- a lock that the task lost is there: it is revoked, has the task as a member, and overlaps the span
pub record HasLost (qs : List PosseRow) (task source : List ℕ) (span : Extent) : Type 0 where
  pub lock : PosseRow
  pub among : In lock qs
  pub lost : is_lost task source span lock ≡ true

-- the check of that span answers the least such lock, whatever kind is asked for
abbrev pub SpanIsRefused : Type 0
SpanIsRefused = (qs : List PosseRow) (task source : List ℕ) (span : Extent) (kind : LockKind) → HasLost qs task source span → (p : PosseRow) × IsLeast (is_lost task source span) qs p × (clear qs task source span kind ≡ Clears.Revoked p.number)

-- ---- commands

-- the row of the task is there, and it runs
pub record Runs (b : Book) (task : List ℕ) (t : TaskRow) : Type 0 where
  pub found : task_of task b.tasks ≡ Some t
  pub runs : t.status ≡ Statuses.Running

-- the command is refused by the least lock that the task lost in the span
abbrev pub IsRefusedFor : Book → TaskRow → Extent → Command → Type 0
IsRefusedFor b t span c = (p : PosseRow) × IsLeast (is_lost t.task t.source span) b.posses p × (answer b c ≡ Replies.Refused (Refusals.LockRevoked p.number))

-- a lock of that span is refused
abbrev pub LockIsRefused : Type 0
LockIsRefused = (b : Book) (task : List ℕ) (t : TaskRow) (kind : LockKind) (span : Extent) (now : ℤ) → Runs b task t → HasLost b.posses t.task t.source span → IsRefusedFor b t span (Commands.Lock task kind span now)

-- an id that is known is refused, where its span is such a one
abbrev pub KnownIdIsRefused : Type 0
KnownIdIsRefused = (b : Book) (task : List ℕ) (t : TaskRow) (kind : LockKind) (sequence : List ℕ) (previous : Option SegId) (at : ℤ) (granularity : Granularity) (now : ℤ) (p : PendingRow) → Runs b task t
    → known_pending b.pendings t.source sequence previous ≡ Some p → (has p.id.span at && fits_request t kind (posse_of p.posse b.posses)) ≡ true → HasLost b.posses t.task t.source p.id.span
    → IsRefusedFor b t p.id.span (Commands.Allocate task kind sequence previous at granularity now)

-- a new id is refused, where its place is such a one
abbrev pub NewIdIsRefused : Type 0
NewIdIsRefused = (b : Book) (task : List ℕ) (t : TaskRow) (kind : LockKind) (sequence : List ℕ) (previous : Option SegId) (at : ℤ) (granularity : Granularity) (now : ℤ) (found : Place) → Runs b task t
    → known_pending b.pendings t.source sequence previous ≡ None → place b.segments b.pendings t.source at granularity ≡ Ok found → HasLost b.posses t.task t.source found.span
    → IsRefusedFor b t found.span (Commands.Allocate task kind sequence previous at granularity now)

-- the question what a replacement of that span has to read is refused
abbrev pub ToReplaceIsRefused : Type 0
ToReplaceIsRefused = (b : Book) (task : List ℕ) (t : TaskRow) (span : Extent) → Runs b task t → HasLost b.posses t.task t.source span → IsRefusedFor b t span (Commands.ToReplace task span)

-- ---- publishes

abbrev pub is_held_clear : Clear → Bool
is_held_clear (Clears.Held n) = true
is_held_clear (Clears.Revoked n) = false
is_held_clear Clears.Missing = false

-- a publish of spans gets as far as the span after these: the task runs, it repeats none, its ids fit its spans, and each of these has a lock
pub record ReachesSpan (b : Book) (task : List ℕ) (t : TaskRow) (f : Filling) (p : Publish) (first : List Extent) : Type 0 where
  pub runs : Runs b task t
  pub new : repeat_of (publication_of (kind_of f) t (without_since p.spans) p) b.publications ≡ None
  pub fitting : bad_span t.source p ≡ None
  pub held : list_all (λ s. is_held_clear (clear b.posses t.task t.source s (lock_for f))) first ≡ true

abbrev pub InsertIsRefused : Type 0
InsertIsRefused = (b : Book) (task : List ℕ) (t : TaskRow) (first : List Extent) (span : Extent) (rest : List Extent) (ids tombs : List SegId) (ranges : Option Ranges)
    → ReachesSpan b task t Inserting (in_spans (first ++ span ∷ rest) ids tombs ranges) first → HasLost b.posses t.task t.source span
    → IsRefusedFor b t span (Commands.Insert task (first ++ span ∷ rest) ids tombs ranges)

abbrev pub ReplaceIsRefused : Type 0
ReplaceIsRefused = (b : Book) (task : List ℕ) (t : TaskRow) (first : List Extent) (span : Extent) (rest : List Extent) (ids tombs : List SegId) (ranges : Option Ranges)
    → ReachesSpan b task t Replacing (in_spans (first ++ span ∷ rest) ids tombs ranges) first → HasLost b.posses t.task t.source span
    → IsRefusedFor b t span (Commands.Replace task (first ++ span ∷ rest) ids tombs ranges)

-- whatever else speaks against it, and also where it is a repeat: a publish with such a span changes nothing
abbrev pub LostSpanChangesNothing : Type 0
LostSpanChangesNothing = (b : Book) (task : List ℕ) (t : TaskRow) (spans : List Extent) (span : Extent) (ids tombs : List SegId) (ranges : Option Ranges) → task_of task b.tasks ≡ Some t → In span spans → HasLost b.posses t.task t.source span
    → (changes b (Commands.Insert task spans ids tombs ranges) ≡ false) × (changes b (Commands.Replace task spans ids tombs ranges) ≡ false)

-- ---- appends

-- an append gets as far as this id, and it isn't the task's: it is named in the refusal
abbrev pub AppendIsRefused : Type 0
AppendIsRefused = (b : Book) (task : List ℕ) (t : TaskRow) (first : List SegId) (a : SegId) (rest : List SegId) (ranges : Option Ranges) → Runs b task t
    → repeat_of (publication_of PubKinds.Append t [] (appending (first ++ a ∷ rest) ranges)) b.publications ≡ None → list_all (is_allocated b.posses b.pendings t.task) first ≡ true → is_allocated b.posses b.pendings t.task a ≡ false
    → answer b (Commands.Append task (first ++ a ∷ rest) ranges) ≡ Replies.Refused (Refusals.NotAllocated a)

-- no pending has the id
abbrev pub IsNotPending : Book → SegId → Type 0
IsNotPending b a = (p : PendingRow) → In p b.pendings → p.id ≡ a → ⊥

-- such an id is no task's
abbrev pub NotPendingIsNotAllocated : Type 0
NotPendingIsNotAllocated = (b : Book) (task : List ℕ) (a : SegId) → IsNotPending b a → is_allocated b.posses b.pendings task a ≡ false

-- whatever else speaks against it: an append of an id that isn't the task's changes nothing
abbrev pub ForeignIdChangesNothing : Type 0
ForeignIdChangesNothing = (b : Book) (task : List ℕ) (t : TaskRow) (ids : List SegId) (a : SegId) (ranges : Option Ranges) → task_of task b.tasks ≡ Some t → In a ids → is_allocated b.posses b.pendings t.task a ≡ false
    → changes b (Commands.Append task ids ranges) ≡ false
