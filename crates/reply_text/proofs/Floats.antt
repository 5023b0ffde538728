-- No reply has a float, so its text is the compact one.
use Rattle.std.proofs.Common.{◌≡◌, ℕ, List, [], ◌∷◌, Bool, true, false, ◌||◌, map, refl}
use Rattle.serde_json.specs.Data.{Data, string}
use Rattle.serde_json.specs.View.{items_of}
use Rattle.serde_json.specs.Written.{has_float, items_have_float}
use Rattle.book_rows.specs.declared.replies.Reply.{Reply}
use Rattle.book_rows.specs.declared.replies.Reply.TheVariants.{Submit, Manage, Lock, Unlock, Allocate, Append, Insert, Replace, Drop, Reset, ToReplace, End, Supervise, Tick, Paused, Checkpoint, Tasks, Locks, Timeline, Contents, Offsets, Sequences, Refused}
use Rattle.book_rows.specs.declared.replies.Refusal.{Refusal}
use Rattle.book_rows.specs.declared.replies.Refusal.TheVariants.{BadCommand, LineTooLong, TaskUnknown, TaskExists, TaskNotRunning, TaskEnded, LockRevoked, LockConflict, LockMissing, ClockEnd, TableFull, ChunkCut, NoBucket, SequenceMismatch, NotAllocated, BadSpan, WrongVersion, VersionUsed, PendingOverlap, Granularity, DropLocked, DropPartial, OffsetMismatch, BadRange, RangeNotAssigned, SupervisorExists, SequenceState}
use Rattle.book_rows.specs.declared.replies.LockLine.{LockLine}
use Rattle.book_rows.specs.declared.replies.SequenceLine.{SequenceLine}
use Rattle.book_rows.specs.declared.replies.TimelinePart.{TimelinePart}
use Rattle.book_rows.specs.declared.replies.ContentsPart.{ContentsPart}
use Rattle.reply_text.specs.Lines.{data_of}
use Rattle.reply_text.specs.Objects.{count_data, id_data, offset_data, offset_line_data, task_data, lock_data, sequence_data, timeline_data, contents_data}
use Rattle.reply_text.specs.Refusals.{refusal_data}

-- items none of which has a float
in_items : {X : Type 0} → (data_of : X → Data) → ((x : X) → has_float (data_of x) ≡ false) → (xs : List X) → items_have_float (items_of (map data_of xs)) ≡ false
in_items data_of none [] = refl
in_items data_of none (x ∷ xs) = rw (none x) (in_items data_of none xs)

in_lock : (line : LockLine) → has_float (lock_data line) ≡ false
in_lock line = rw (in_items string (λ _. refl) line.members) refl

in_sequence : (line : SequenceLine) → has_float (sequence_data line) ≡ false
in_sequence line = rw (in_items offset_data (λ _. refl) line.ends, in_items offset_data (λ _. refl) line.starts) refl

in_timeline : (part : TimelinePart) → has_float (timeline_data part) ≡ false
in_timeline part = rw (in_items id_data (λ _. refl) part.ids) refl

in_contents : (part : ContentsPart) → has_float (contents_data part) ≡ false
in_contents part = rw (in_items id_data (λ _. refl) part.roots) refl

in_refusal : (why : Refusal) → has_float (refusal_data why) ≡ false
in_refusal BadCommand = refl
in_refusal LineTooLong = refl
in_refusal TaskUnknown = refl
in_refusal TaskExists = refl
in_refusal (TaskNotRunning status) = refl
in_refusal (TaskEnded status) = refl
in_refusal (LockRevoked by) = refl
in_refusal (LockConflict by) = refl
in_refusal (LockMissing span) = refl
in_refusal ClockEnd = refl
in_refusal (TableFull table) = refl
in_refusal (ChunkCut id) = refl
in_refusal (NoBucket at) = refl
in_refusal (SequenceMismatch id) = refl
in_refusal (NotAllocated id) = refl
in_refusal (BadSpan span) = refl
in_refusal (WrongVersion id) = refl
in_refusal (VersionUsed span) = refl
in_refusal (PendingOverlap id) = refl
in_refusal (Granularity id) = refl
in_refusal (DropLocked by) = refl
in_refusal (DropPartial id) = refl
in_refusal (OffsetMismatch partition stored) = refl
in_refusal (BadRange partition) = refl
in_refusal (RangeNotAssigned source) = refl
in_refusal (SupervisorExists source) = refl
in_refusal (SequenceState state) = refl

pub no_float : (reply : Reply) → has_float (data_of reply) ≡ false
no_float (Submit status task) = refl
no_float (Manage running waiting) = rw (in_items string (λ _. refl) running, in_items string (λ _. refl) waiting) refl
no_float (Lock lock revoked span version) = rw (in_items count_data (λ _. refl) revoked) refl
no_float (Unlock left) = refl
no_float (Allocate id lock revoked) = rw (in_items count_data (λ _. refl) revoked) refl
no_float (Append commit) = refl
no_float (Insert commit) = refl
no_float (Replace commit) = refl
no_float (Drop commit) = refl
no_float (Reset commit) = refl
no_float (ToReplace ids) = rw (in_items id_data (λ _. refl) ids) refl
no_float (End status task) = refl
no_float (Supervise source) = refl
no_float (Tick abandoned opened paused) = rw (in_items string (λ _. refl) abandoned, in_items string (λ _. refl) opened, in_items string (λ _. refl) paused) refl
no_float (Paused ends state) = rw (in_items offset_data (λ _. refl) ends) refl
no_float (Checkpoint ends state) = rw (in_items offset_data (λ _. refl) ends) refl
no_float (Tasks tasks) = rw (in_items task_data (λ _. refl) tasks) refl
no_float (Locks locks) = rw (in_items lock_data in_lock locks) refl
no_float (Timeline parts source) = rw (in_items timeline_data in_timeline parts) refl
no_float (Contents parts source) = rw (in_items contents_data in_contents parts) refl
no_float (Offsets offsets source) = rw (in_items offset_line_data (λ _. refl) offsets) refl
no_float (Sequences sequences source) = rw (in_items sequence_data in_sequence sequences) refl
no_float (Refused why) = in_refusal why
