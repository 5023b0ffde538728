-- What a reply says of a publish: the number that it is given, or that it is refused for its ranges. All replies and refusals
-- are listed, so one that is added has to be placed here.
use Rattle.std.specs.Prelude.{Bool, None, Option, Some, false, true, ℕ}
use Rattle.book_rows.specs.declared.replies.Refusal.{Refusal}
use Rattle.book_rows.specs.declared.replies.Reply.{Reply}
use Rattle.book_rows.specs.declared.replies.Refusal.TheVariants as Refusals
use Rattle.book_rows.specs.declared.replies.Reply.TheVariants as Replies

-- the number that a publish of a task is answered that is accepted, or that repeats one
abbrev pub commit_of : Reply → Option ℕ
commit_of (Replies.Append k) = Some k
commit_of (Replies.Insert k) = Some k
commit_of (Replies.Replace k) = Some k
commit_of (Replies.Submit status task) = None
commit_of (Replies.Manage running waiting) = None
commit_of (Replies.Lock lock revoked span version) = None
commit_of (Replies.Unlock left) = None
commit_of (Replies.Allocate id lock revoked) = None
commit_of (Replies.Drop k) = None
commit_of (Replies.Reset k) = None
commit_of (Replies.ToReplace ids) = None
commit_of (Replies.End status task) = None
commit_of (Replies.Supervise source) = None
commit_of (Replies.Tick abandoned opened paused) = None
commit_of (Replies.Paused ends state) = None
commit_of (Replies.Checkpoint ends state) = None
commit_of (Replies.Tasks tasks) = None
commit_of (Replies.Locks locks) = None
commit_of (Replies.Timeline parts source) = None
commit_of (Replies.Contents parts source) = None
commit_of (Replies.Offsets offsets source) = None
commit_of (Replies.Sequences sequences source) = None
commit_of (Replies.Refused why) = None

-- a publish is refused so for its ranges
abbrev pub refuses_ranges : Refusal → Bool
refuses_ranges (Refusals.RangeNotAssigned source) = true
refuses_ranges (Refusals.BadRange partition) = true
refuses_ranges (Refusals.OffsetMismatch partition stored) = true
refuses_ranges Refusals.BadCommand = false
refuses_ranges Refusals.LineTooLong = false
refuses_ranges Refusals.TaskUnknown = false
refuses_ranges Refusals.TaskExists = false
refuses_ranges (Refusals.TaskNotRunning status) = false
refuses_ranges (Refusals.TaskEnded status) = false
refuses_ranges (Refusals.LockRevoked by) = false
refuses_ranges (Refusals.LockConflict by) = false
refuses_ranges (Refusals.LockMissing span) = false
refuses_ranges Refusals.ClockEnd = false
refuses_ranges (Refusals.TableFull table) = false
refuses_ranges (Refusals.ChunkCut id) = false
refuses_ranges (Refusals.NoBucket at) = false
refuses_ranges (Refusals.SequenceMismatch id) = false
refuses_ranges (Refusals.NotAllocated id) = false
refuses_ranges (Refusals.BadSpan span) = false
refuses_ranges (Refusals.WrongVersion id) = false
refuses_ranges (Refusals.VersionUsed span) = false
refuses_ranges (Refusals.PendingOverlap id) = false
refuses_ranges (Refusals.Granularity id) = false
refuses_ranges (Refusals.DropLocked by) = false
refuses_ranges (Refusals.DropPartial id) = false
refuses_ranges (Refusals.SupervisorExists source) = false
refuses_ranges (Refusals.SequenceState state) = false

abbrev pub is_for_ranges : Reply → Bool
is_for_ranges (Replies.Refused why) = refuses_ranges why
is_for_ranges (Replies.Submit status task) = false
is_for_ranges (Replies.Manage running waiting) = false
is_for_ranges (Replies.Lock lock revoked span version) = false
is_for_ranges (Replies.Unlock left) = false
is_for_ranges (Replies.Allocate id lock revoked) = false
is_for_ranges (Replies.Append k) = false
is_for_ranges (Replies.Insert k) = false
is_for_ranges (Replies.Replace k) = false
is_for_ranges (Replies.Drop k) = false
is_for_ranges (Replies.Reset k) = false
is_for_ranges (Replies.ToReplace ids) = false
is_for_ranges (Replies.End status task) = false
is_for_ranges (Replies.Supervise source) = false
is_for_ranges (Replies.Tick abandoned opened paused) = false
is_for_ranges (Replies.Paused ends state) = false
is_for_ranges (Replies.Checkpoint ends state) = false
is_for_ranges (Replies.Tasks tasks) = false
is_for_ranges (Replies.Locks locks) = false
is_for_ranges (Replies.Timeline parts source) = false
is_for_ranges (Replies.Contents parts source) = false
is_for_ranges (Replies.Offsets offsets source) = false
is_for_ranges (Replies.Sequences sequences source) = false
