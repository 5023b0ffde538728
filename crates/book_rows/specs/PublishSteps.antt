-- What `append`, `insert`, `replace`, `drop`, `reset` and `to_replace` make of the book.
use Rattle.std.specs.Prelude.{◌++◌, ◌∷◌, Bool, List, None, Option, Some, [], bytes_eq, cond, false, length, map, ℕ}
use Rattle.iv_span.specs.Extent.{Extent}
use Rattle.book_rows.specs.Append.{after_append, append_fault}
use Rattle.book_rows.specs.Carried.{to_replace}
use Rattle.book_rows.specs.Lists.{or_else}
use Rattle.book_rows.specs.Offsets.{reset_to}
use Rattle.book_rows.specs.Outcome.{Outcome, fitted, refused, refused_or, repeated, running_as, unless}
use Rattle.book_rows.specs.Over.{Filling, Inserting, Replacing, Target, check_over, held_for, kind_of}
use Rattle.book_rows.specs.Publications.{Publish, publication_of, ranges_fault, repeat_of, reset_publication, without_since}
use Rattle.book_rows.specs.Rewrite.{after_drop, after_insert, after_replace, drop_fault}
use Rattle.book_rows.specs.Sequences.{dropped_sequence, supervisor_of, tasks_dropped}
use Rattle.book_rows.specs.TaskSteps.{all_failed}
use Rattle.book_rows.specs.declared.kinds.PubKind.{PubKind}
use Rattle.book_rows.specs.declared.kinds.TaskStatus.{TaskStatus}
use Rattle.book_rows.specs.declared.replies.Reply.{Reply}
use Rattle.book_rows.specs.declared.rows.Book.{Book}
use Rattle.book_rows.specs.declared.rows.Offset.{Offset}
use Rattle.book_rows.specs.declared.rows.PosseRow.{PosseRow}
use Rattle.book_rows.specs.declared.rows.SupervisorRow.{SupervisorRow}
use Rattle.book_rows.specs.declared.rows.TaskRow.{TaskRow}
use Rattle.book_rows.specs.declared.kinds.LockKind.TheVariants as LockKinds
use Rattle.book_rows.specs.declared.kinds.PubKind.TheVariants as PubKinds
use Rattle.book_rows.specs.declared.replies.Refusal.TheVariants as Refusals
use Rattle.book_rows.specs.declared.replies.Reply.TheVariants as Replies
use Rattle.book_rows.specs.declared.kinds.Table.TheVariants as Tables

-- ---- what append, insert and replace have in common

-- the answer to a publication of this kind: its commit number
abbrev pub commit_reply : PubKind → ℕ → Reply
commit_reply PubKinds.Append = Replies.Append
commit_reply PubKinds.Over = Replies.Insert
commit_reply PubKinds.Replace = Replies.Replace
commit_reply PubKinds.Drop = Replies.Drop
commit_reply PubKinds.Reset = Replies.Reset

-- a publish of a task: a repeat, not running, or as it is decided
abbrev pub published_or : Option ℕ → Book → TaskStatus → (ℕ → Reply) → Outcome → Outcome
published_or (Some k) b status reply o = repeated b (reply k)
published_or None b status reply o = running_as status b o

-- the same, where the task may be unknown
abbrev pub publish_step : PubKind → Option TaskRow → Book → Publish → (TaskRow → Outcome) → Outcome
publish_step kind None b p decided = refused b Refusals.TaskUnknown
publish_step kind (Some t) b p decided =
    published_or (repeat_of (publication_of kind t (without_since p.spans) p) b.publications) b t.status (commit_reply kind) (decided t)

-- ---- append

abbrev pub append_running : Book → Publish → TaskRow → Outcome
append_running b p t =
    unless (or_else (append_fault b.posses b.pendings t.task p.ids) (ranges_fault b t p.ranges)) b
    (fitted (Tables.Segments ∷ Tables.Upgrades ∷ Tables.Publications ∷ Tables.Offsets ∷ []) b (after_append t p b) (commit_reply PubKinds.Append (length b.publications)))

abbrev pub appended : Option TaskRow → Book → Publish → Outcome
appended o b p = publish_step PubKinds.Append o b p (append_running b p)

-- ---- insert and replace

-- what becomes of the book, where the tables have room for it
abbrev pub filled : Filling → Book → Publish → TaskRow → List Target → Outcome
filled Inserting b p t xs =
    fitted (Tables.Chunks ∷ Tables.Parts ∷ Tables.Segments ∷ Tables.Publications ∷ Tables.Offsets ∷ []) b (after_insert t p xs b) (commit_reply PubKinds.Over (length b.publications))
filled Replacing b p t xs =
    fitted (Tables.Chunks ∷ Tables.Parts ∷ Tables.Segments ∷ Tables.Pendings ∷ Tables.Publications ∷ Tables.Offsets ∷ []) b (after_replace t p xs b)
    (commit_reply PubKinds.Replace (length b.publications))

-- the spans have their locks, and now the ranges are asked
abbrev pub over_checked : Filling → Book → Publish → TaskRow → List Target → Outcome
over_checked f b p t xs = unless (ranges_fault b t p.ranges) b (filled f b p t xs)

abbrev pub over_running : Filling → Book → Publish → TaskRow → Outcome
over_running f b p t = refused_or (check_over f b p t) b (over_checked f b p t)

abbrev pub over_step : Filling → Option TaskRow → Book → Publish → Outcome
over_step f o b p = publish_step (kind_of f) o b p (over_running f b p)

-- ---- drop

abbrev pub dropped : Book → List ℕ → Extent → Outcome
dropped b source span =
    unless (drop_fault b.posses b.segments source span) b (fitted (Tables.Publications ∷ []) b (after_drop source span b) (commit_reply PubKinds.Drop (length b.publications)))

-- ---- reset

abbrev pub reads_stream : Option SupervisorRow → List ℕ → Bool
reads_stream None stream = false
reads_stream (Some s) stream = bytes_eq s.stream stream

abbrev pub offsets_reset : List ℕ → List ℕ → List Offset → Book → Book
offsets_reset source stream offsets b = record b {
  publications = b.publications ++ reset_publication source stream offsets ∷ [];
  offsets = reset_to b.offsets source stream offsets;
}

-- all unpublished sequences of the source are abandoned, and their replicas fail
abbrev pub sequences_dropped : List ℕ → Book → Book
sequences_dropped source b = all_failed (tasks_dropped source b.sequences) (record b { sequences = map (dropped_sequence source) b.sequences })

abbrev pub after_reset : List ℕ → List ℕ → List Offset → Book → Book
after_reset source stream offsets b =
    cond (reads_stream (supervisor_of source b.supervisors) stream) (sequences_dropped source (offsets_reset source stream offsets b)) (offsets_reset source stream offsets b)

abbrev pub reset_step : Book → List ℕ → List ℕ → List Offset → Outcome
reset_step b source stream offsets = fitted (Tables.Publications ∷ Tables.Offsets ∷ []) b (after_reset source stream offsets b) (commit_reply PubKinds.Reset (length b.publications))

-- ---- to_replace

-- the answer is for the whole span of the lock
abbrev pub told_of : Book → PosseRow → Outcome
told_of b q = repeated b (Replies.ToReplace (to_replace b.segments b.publications q))

-- the task holds a replacing lock that contains the span
abbrev pub asked : Book → Extent → TaskRow → Outcome
asked b span t = refused_or (held_for b.posses t LockKinds.Replace span) b (told_of b)
