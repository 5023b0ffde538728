-- Appending and replacing at one time.
use Rattle.std.specs.Prelude.{◌++◌, ◌∷◌, ◌≡◌, List, [], codes, ℕ, ℤ}
use Rattle.iv_span.specs.Extent.{Extent}
use Rattle.seg_names.specs.declared.seg_id.SegId.{SegId}
use Rattle.scenes.specs.Script.{Answers, alloc, append, contents, day, drop, has_roots, hour, id, lock, minutes, morning, now, now1, p, q, r, refuse, replace, rest_of_day, show_contents, show_timeline, shows, start, succeed, timeline, v0, w, next_day, seventh_hour}
use Rattle.scenes.specs.Publishing.{used_row}
use Rattle.book_rows.specs.Answer.{book_after, empty_book}
use Rattle.book_rows.specs.declared.commands.Command.{Command}
use Rattle.book_rows.specs.declared.replies.Reply.{Reply}
use Rattle.book_rows.specs.declared.rows.Book.{Book}
use Rattle.book_rows.specs.declared.rows.ChunkRow.{ChunkRow}
use Rattle.book_rows.specs.declared.commands.Command.TheVariants as Commands
use Rattle.iv_time.specs.declared.granularity.Granularity.TheVariants as Granularities
use Rattle.book_rows.specs.declared.kinds.LockKind.TheVariants as LockKinds
use Rattle.book_rows.specs.declared.replies.Refusal.TheVariants as Refusals
use Rattle.book_rows.specs.declared.replies.Reply.TheVariants as Replies
use Rattle.book_rows.specs.declared.kinds.TaskStatus.TheVariants as Statuses
use Rattle.book_rows.specs.declared.kinds.TaskKind.TheVariants as TaskKinds

-- an appending and a replacing task
abbrev pub both : List Command
both = start p TaskKinds.Realtime ++ start r TaskKinds.Batch

-- the timeline of one day
abbrev pub one_day : ℤ → List SegId → Reply
one_day version ids = timeline (shows day version ids ∷ [])

-- ---- a stream's day with a replacement: what was appended since the lock is carried

abbrev pub stream_day : List Command
stream_day =
    alloc p LockKinds.Append (codes "s") (minutes 310) Granularities.Hour
    ∷ append p (id hour v0 0 ∷ [])
    ∷ lock r LockKinds.Replace day
    ∷ alloc p LockKinds.Append (codes "s2") (minutes 320) Granularities.Hour
    ∷ append p (id hour v0 1 ∷ [])
    ∷ []

abbrev pub WhatWasAppendedIsCarried : Type 0
WhatWasAppendedIsCarried =
    Answers both
    (stream_day
    ++ (Commands.ToReplace r day
    ∷ replace r day (id day now 0 ∷ [])
    ∷ show_timeline
    ∷ show_contents
    ∷ []))
    (Replies.Allocate (id hour v0 0) 1 []
    ∷ Replies.Append 0
    ∷ Replies.Lock 2 [] day now
    ∷ Replies.Allocate (id hour v0 1) 1 []
    ∷ Replies.Append 1
    ∷ Replies.ToReplace (id hour v0 0 ∷ [])
    ∷ Replies.Replace 2
    ∷ one_day now (id day now 0 ∷ id day now 1 ∷ [])
    ∷ contents (has_roots morning (id day now 0 ∷ []) ∷ has_roots hour (id day now 0 ∷ id hour v0 1 ∷ []) ∷ has_roots rest_of_day (id day now 0 ∷ []) ∷ [])
    ∷ [])

-- the segments, chunks and upgrade rows after that
abbrev pub after_stream_day : Book
after_stream_day = book_after empty_book (both ++ (stream_day ++ replace r day (id day now 0 ∷ []) ∷ []))

abbrev pub chunk_row : Extent → ℤ → ℕ → ℕ → ChunkRow
chunk_row span version core next_part = record { source = w; span = span; version = version; core = core; next = next_part }

abbrev pub TablesAfterStreamsDay : Type 0
TablesAfterStreamsDay =
    (after_stream_day.segments
    ≡ used_row (id hour v0 0) (id hour v0 0) 0
    ∷ used_row (id hour v0 1) (id hour v0 1) 1
    ∷ used_row (id day now 0) (id day now 0) 2
    ∷ used_row (id day now 1) (id hour v0 1) 2
    ∷ [])
    × (after_stream_day.chunks ≡ chunk_row hour v0 0 2 ∷ chunk_row day now 1 2 ∷ [])
    × (after_stream_day.upgrades ≡ [])
    × (after_stream_day.pendings ≡ [])

-- ---- an append after the replacement: its pending was copied

abbrev pub replaced_under_pending : List Command
replaced_under_pending =
    alloc p LockKinds.Append (codes "s") (minutes 310) Granularities.Hour
    ∷ lock r LockKinds.Replace day
    ∷ replace r day (id day now 0 ∷ [])
    ∷ []

abbrev pub appended_after : List Command
appended_after = replaced_under_pending ++ append p (id hour v0 0 ∷ []) ∷ []

abbrev pub PendingIsCopied : Type 0
PendingIsCopied =
    Answers both
    (appended_after ++ (show_timeline ∷ show_contents ∷ []))
    (Replies.Allocate (id hour v0 0) 1 []
    ∷ Replies.Lock 2 [] day now
    ∷ Replies.Replace 0
    ∷ Replies.Append 1
    ∷ one_day now (id day now 0 ∷ id day now 1 ∷ [])
    ∷ contents (has_roots morning (id day now 0 ∷ []) ∷ has_roots hour (id day now 0 ∷ id hour v0 0 ∷ []) ∷ has_roots rest_of_day (id day now 0 ∷ []) ∷ [])
    ∷ [])

-- ---- two replacements under one pending: copies aren't copied

abbrev pub second_replacement : List Command
second_replacement =
    succeed r
    ∷ start q TaskKinds.Batch
    ++ (lock q LockKinds.Replace day
    ∷ replace q day (id day now1 0 ∷ [])
    ∷ append p (id hour v0 0 ∷ [])
    ∷ [])

abbrev pub TwoReplacements : Type 0
TwoReplacements =
    Answers (both ++ replaced_under_pending)
    (second_replacement ++ show_timeline ∷ [])
    (Replies.End Statuses.Success r
    ∷ Replies.Submit Statuses.Waiting q
    ∷ Replies.Manage (q ∷ []) []
    ∷ Replies.Lock 3 [] day now1
    ∷ Replies.Replace 1
    ∷ Replies.Append 2
    ∷ one_day now1 (id day now1 0 ∷ id day now1 1 ∷ [])
    ∷ [])

abbrev pub TablesAfterTwo : Type 0
TablesAfterTwo =
    (book_after empty_book (both ++ (replaced_under_pending ++ second_replacement))).segments
    ≡ used_row (id day now 0) (id day now 0) 0
    ∷ used_row (id day now1 0) (id day now1 0) 1
    ∷ used_row (id hour v0 0) (id hour v0 0) 2
    ∷ used_row (id day now 1) (id hour v0 0) 2
    ∷ used_row (id day now1 1) (id hour v0 0) 2
    ∷ []

-- ---- a pending that reaches out of the span refuses the replacement

abbrev pub PendingReachesOut : Type 0
PendingReachesOut =
    Answers both
    (alloc p LockKinds.Append (codes "s") (minutes 310) Granularities.Day
    ∷ lock r LockKinds.Replace day
    ∷ replace r hour (id hour now 0 ∷ [])
    ∷ [])
    (Replies.Allocate (id day v0 0) 1 [] ∷ Replies.Lock 2 [] day now ∷ refuse (Refusals.Granularity (id day v0 0)) ∷ [])

-- ---- dropping what was appended and replaced

abbrev pub DroppedAfterwards : Type 0
DroppedAfterwards =
    Answers (both ++ appended_after)
    (drop day ∷ succeed p ∷ succeed r ∷ drop hour ∷ drop day ∷ show_timeline ∷ [])
    (refuse (Refusals.DropLocked 1)
    ∷ Replies.End Statuses.Success p
    ∷ Replies.End Statuses.Success r
    ∷ refuse (Refusals.DropPartial (id day now 0))
    ∷ Replies.Drop 2
    ∷ timeline []
    ∷ [])

-- ---- what is to be read is asked for the lock's whole span, whatever span is named

abbrev pub AskedForWholeLock : Type 0
AskedForWholeLock =
    Answers both
    (Commands.ToReplace r day
    ∷ alloc p LockKinds.Append (codes "s") (minutes 310) Granularities.Hour
    ∷ alloc p LockKinds.Append (codes "s1") (minutes 430) Granularities.Hour
    ∷ append p (id hour v0 0 ∷ id seventh_hour v0 0 ∷ [])
    ∷ lock r LockKinds.Replace day
    ∷ Commands.ToReplace r hour
    ∷ Commands.ToReplace r (record { start = day.start; end = next_day.end })
    ∷ Commands.ToReplace p hour
    ∷ [])
    (refuse (Refusals.LockMissing day)
    ∷ Replies.Allocate (id hour v0 0) 1 []
    ∷ Replies.Allocate (id seventh_hour v0 0) 2 []
    ∷ Replies.Append 0
    ∷ Replies.Lock 3 [] day now
    ∷ Replies.ToReplace (id hour v0 0 ∷ id seventh_hour v0 0 ∷ [])
    ∷ refuse (Refusals.LockMissing (record { start = day.start; end = next_day.end }))
    ∷ refuse (Refusals.LockMissing hour)
    ∷ [])
