-- Refusals as JSON. The keys of an object ascend by their bytes.
use Rattle.std.specs.Prelude.{ℕ, List, codes, ℤ}
use Rattle.serde_json.specs.Data.{Data, string, object, no_members, member}
use Rattle.iv_span.specs.Extent.{Extent}
use Rattle.seg_names.specs.declared.seg_id.SegId.{SegId}
use Rattle.book_rows.specs.declared.kinds.TaskStatus.{TaskStatus}
use Rattle.book_rows.specs.declared.replies.Refusal.{Refusal}
use Rattle.book_rows.specs.declared.replies.Refusal.TheVariants.{BadCommand, LineTooLong, TaskUnknown, TaskExists, TaskNotRunning, TaskEnded, LockRevoked, LockConflict, LockMissing, ClockEnd, TableFull, ChunkCut, NoBucket, SequenceMismatch, NotAllocated, BadSpan, WrongVersion, VersionUsed, PendingOverlap, Granularity, DropLocked, DropPartial, OffsetMismatch, BadRange, RangeNotAssigned, SupervisorExists, SequenceState}
use Rattle.reply_text.specs.Objects.{count_data, instant_data, span_data, id_data}
use Rattle.reply_text.specs.Spelling.{status_word, state_or_none, table_word}

-- the code alone
abbrev pub refused : List ℕ → Data
refused code = object (member (codes "refused") (string code) no_members)

-- with one field whose key is below `refused`
abbrev pub refused_after : List ℕ → Data → List ℕ → Data
refused_after key value code = object
    (member key value
    (member (codes "refused") (string code) no_members))

-- with one field whose key is above `refused`
abbrev pub refused_before : List ℕ → List ℕ → Data → Data
refused_before code key value = object
    (member (codes "refused") (string code)
    (member key value no_members))

-- with the number of a lock
abbrev pub refused_by : List ℕ → ℕ → Data
refused_by code by = refused_after (codes "by") (count_data by) code

-- with the id of a segment
abbrev pub refused_id : List ℕ → SegId → Data
refused_id code id = refused_after (codes "id") (id_data id) code

-- with a span
abbrev pub refused_span : List ℕ → Extent → Data
refused_span code span = refused_before code (codes "span") (span_data span)

-- with the status of a task
abbrev pub refused_status : List ℕ → TaskStatus → Data
refused_status code status = refused_before code (codes "status") (string (status_word status))

-- with a data source
abbrev pub refused_source : List ℕ → List ℕ → Data
refused_source code source = refused_before code (codes "source") (string source)

-- each refusal: its code and its fields
abbrev pub refusal_data : Refusal → Data
refusal_data BadCommand = refused (codes "BAD_COMMAND")
refusal_data LineTooLong = refused (codes "LINE_TOO_LONG")
refusal_data TaskUnknown = refused (codes "TASK_UNKNOWN")
refusal_data TaskExists = refused (codes "TASK_EXISTS")
refusal_data (TaskNotRunning status) = refused_status (codes "TASK_NOT_RUNNING") status
refusal_data (TaskEnded status) = refused_status (codes "TASK_ENDED") status
refusal_data (LockRevoked by) = refused_by (codes "LOCK_REVOKED") by
refusal_data (LockConflict by) = refused_by (codes "LOCK_CONFLICT") by
refusal_data (LockMissing span) = refused_span (codes "LOCK_MISSING") span
refusal_data ClockEnd = refused (codes "CLOCK_END")
refusal_data (TableFull table) = refused_before (codes "TABLE_FULL") (codes "table") (string (table_word table))
refusal_data (ChunkCut id) = refused_id (codes "CHUNK_CUT") id
refusal_data (NoBucket at) = refused_after (codes "at") (instant_data at) (codes "NO_BUCKET")
refusal_data (SequenceMismatch id) = refused_id (codes "SEQUENCE_MISMATCH") id
refusal_data (NotAllocated id) = refused_id (codes "NOT_ALLOCATED") id
refusal_data (BadSpan span) = refused_span (codes "BAD_SPAN") span
refusal_data (WrongVersion id) = refused_id (codes "WRONG_VERSION") id
refusal_data (VersionUsed span) = refused_span (codes "VERSION_USED") span
refusal_data (PendingOverlap id) = refused_id (codes "PENDING_OVERLAP") id
refusal_data (Granularity id) = refused_id (codes "GRANULARITY") id
refusal_data (DropLocked by) = refused_by (codes "DROP_LOCKED") by
refusal_data (DropPartial id) = refused_id (codes "DROP_PARTIAL") id
refusal_data (OffsetMismatch partition stored) = object
    (member (codes "partition") (count_data partition)
    (member (codes "refused") (string (codes "OFFSET_MISMATCH"))
    (member (codes "stored") (count_data stored) no_members)))
refusal_data (BadRange partition) = refused_after (codes "partition") (count_data partition) (codes "BAD_RANGE")
refusal_data (RangeNotAssigned source) = refused_source (codes "RANGE_NOT_ASSIGNED") source
refusal_data (SupervisorExists source) = refused_source (codes "SUPERVISOR_EXISTS") source
refusal_data (SequenceState state) = refused_before (codes "SEQUENCE_STATE") (codes "state") (string (state_or_none state))
