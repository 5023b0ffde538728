-- Replies whose instants have texts, which are those of the years 0000 to 9999.
use Rattle.std.specs.Prelude.{Bool, true, ◌&&◌}
use Rattle.std.specs.List.{list_all}
use Rattle.iv_time.specs.Range.{is_instant}
use Rattle.iv_span.specs.Extent.{Extent}
use Rattle.seg_names.specs.Ids.{has_instants}
use Rattle.seg_names.specs.declared.seg_id.SegId.{SegId}
use Rattle.book_rows.specs.declared.replies.LockLine.{LockLine}
use Rattle.book_rows.specs.declared.replies.TimelinePart.{TimelinePart}
use Rattle.book_rows.specs.declared.replies.ContentsPart.{ContentsPart}
use Rattle.book_rows.specs.declared.replies.Refusal.{Refusal}
use Rattle.book_rows.specs.declared.replies.Refusal.TheVariants.{LockMissing, ChunkCut, NoBucket, SequenceMismatch, NotAllocated, BadSpan, WrongVersion, VersionUsed, PendingOverlap, Granularity, DropPartial}
use Rattle.book_rows.specs.declared.replies.Reply.{Reply}
use Rattle.book_rows.specs.declared.replies.Reply.TheVariants.{Lock, Allocate, ToReplace, Locks, Timeline, Contents, Refused}

-- both ends of a span
abbrev pub span_fits : Extent → Bool
span_fits span = is_instant span.start && is_instant span.end

-- the span and the version of an id
abbrev pub id_fits : SegId → Bool
id_fits = has_instants

-- the span and the version of a lock
abbrev pub lock_fits : LockLine → Bool
lock_fits line = span_fits line.span && is_instant line.version

-- the ids, the span and the version of a part of the timeline
abbrev pub timeline_fits : TimelinePart → Bool
timeline_fits part = list_all id_fits part.ids && span_fits part.span && is_instant part.version

-- the roots and the span of a part of the contents
abbrev pub contents_fits : ContentsPart → Bool
contents_fits part = list_all id_fits part.roots && span_fits part.span

-- the span, the id or the instant that a refusal names
abbrev pub refusal_fits : Refusal → Bool
refusal_fits (LockMissing span) = span_fits span
refusal_fits (ChunkCut id) = id_fits id
refusal_fits (NoBucket at) = is_instant at
refusal_fits (SequenceMismatch id) = id_fits id
refusal_fits (NotAllocated id) = id_fits id
refusal_fits (BadSpan span) = span_fits span
refusal_fits (WrongVersion id) = id_fits id
refusal_fits (VersionUsed span) = span_fits span
refusal_fits (PendingOverlap id) = id_fits id
refusal_fits (Granularity id) = id_fits id
refusal_fits (DropPartial id) = id_fits id
refusal_fits _ = true

-- each instant of the reply has a text
abbrev pub reply_fits : Reply → Bool
reply_fits (Lock lock revoked span version) = span_fits span && is_instant version
reply_fits (Allocate id lock revoked) = id_fits id
reply_fits (ToReplace ids) = list_all id_fits ids
reply_fits (Locks locks) = list_all lock_fits locks
reply_fits (Timeline parts source) = list_all timeline_fits parts
reply_fits (Contents parts source) = list_all contents_fits parts
reply_fits (Refused why) = refusal_fits why
reply_fits _ = true
