-- The numbers of the refusals.
use Rattle.std.specs.Prelude.{ℕ}
use Rattle.book_rows.specs.declared.replies.Refusal.{Refusal}
use Rattle.book_rows.specs.declared.replies.Refusal.TheVariants.{BadCommand, LineTooLong, TaskUnknown, TaskExists, TaskNotRunning, TaskEnded, LockRevoked, LockConflict, LockMissing, ClockEnd, TableFull, ChunkCut, NoBucket, SequenceMismatch, NotAllocated, BadSpan, WrongVersion, VersionUsed, PendingOverlap, Granularity, DropLocked, DropPartial, OffsetMismatch, BadRange, RangeNotAssigned, SupervisorExists, SequenceState}

-- each refusal has one number
abbrev pub refusal_number : Refusal → ℕ
refusal_number BadCommand = 1
refusal_number LineTooLong = 2
refusal_number TaskUnknown = 3
refusal_number TaskExists = 4
refusal_number (TaskNotRunning status) = 5
refusal_number (TaskEnded status) = 6
refusal_number (LockRevoked by) = 7
refusal_number (LockConflict by) = 8
refusal_number (LockMissing span) = 9
refusal_number ClockEnd = 10
refusal_number (TableFull table) = 11
refusal_number (ChunkCut id) = 12
refusal_number (NoBucket at) = 13
refusal_number (SequenceMismatch id) = 14
refusal_number (NotAllocated id) = 15
refusal_number (BadSpan span) = 16
refusal_number (WrongVersion id) = 17
refusal_number (VersionUsed span) = 18
refusal_number (PendingOverlap id) = 19
refusal_number (Granularity id) = 20
refusal_number (DropLocked by) = 21
refusal_number (DropPartial id) = 22
refusal_number (OffsetMismatch partition stored) = 23
refusal_number (BadRange partition) = 24
refusal_number (RangeNotAssigned source) = 25
refusal_number (SupervisorExists source) = 26
refusal_number (SequenceState state) = 27
