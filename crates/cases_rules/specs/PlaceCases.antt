-- Where a new id goes: the visible chunk, a pending's chunk, or the coarsest free bucket.
use Rattle.book_rows.specs.declared.commands.Command.{Command}
use Rattle.iv_span.specs.Extent.{Extent}
use Rattle.iv_time.specs.declared.granularity.Granularity.{Granularity}
use Rattle.std.specs.Prelude.{List, [], codes, neg_ℤ, pos, true, ℕ, ℤ, ◌++◌, ◌∷◌}
use Rattle.scenes.specs.Asking.{ask_hour, batch, batch_of_v, conflict, exclusive, gets, hours, just_before, realtime, time}
use Rattle.scenes.specs.Script.{s, s2, v, Answers, a, alloc, b, day, drop, hour, id, insert, next_day, now, p, q, refuse, succeed, v0}
use Rattle.book_rows.specs.declared.commands.Command.TheVariants as Commands
use Rattle.iv_time.specs.declared.granularity.Granularity.TheVariants as Granularities
use Rattle.book_rows.specs.declared.kinds.LockKind.TheVariants as LockKinds
use Rattle.book_rows.specs.declared.replies.Refusal.TheVariants as Refusals
use Rattle.book_rows.specs.declared.replies.Reply.TheVariants as Replies

-- the first id of a bucket, in the first lock
abbrev pub FirstId : ℤ → Granularity → Extent → Type 0
FirstId at granularity bucket = Answers (realtime p) (alloc p LockKinds.Append s at granularity ∷ []) (gets (id bucket v0 0) 1 ∷ [])

-- ---- buckets

abbrev pub year : Extent
year = record { start = pos 1704067200000; end = pos 1735689600000 }

abbrev pub month : Extent
month = record { start = pos 1709251200000; end = pos 1711929600000 }

-- from Monday 2024-02-26 to Monday 2024-03-04
abbrev pub week : Extent
week = record { start = pos 1708905600000; end = pos 1709510400000 }

-- the bucket of each granularity that has ten past five
abbrev pub BucketOfEach : Type 0
BucketOfEach =
    FirstId (time 5 10) Granularities.Year year
    × FirstId (time 5 10) Granularities.Month month
    × FirstId (time 5 10) Granularities.Week week
    × FirstId (time 5 10) Granularities.Day day
    × FirstId (time 5 10) Granularities.Hour hour
    × FirstId (time 5 10) Granularities.FifteenMinute (record { start = time 5 0; end = time 5 15 })
    × FirstId (time 5 10) Granularities.Minute (record { start = time 5 10; end = time 5 11 })

-- a bucket begins with its first millisecond and ends before its last instant
abbrev pub BucketEdges : Type 0
BucketEdges =
    FirstId (time 5 0) Granularities.Hour hour
    × FirstId (just_before 6 0) Granularities.Hour hour
    × FirstId (time 6 0) Granularities.Hour (hours 6 7)
    × FirstId (just_before 5 15) Granularities.FifteenMinute (record { start = time 5 0; end = time 5 15 })
    × FirstId (time 5 15) Granularities.FifteenMinute (record { start = time 5 15; end = time 5 30 })

-- weeks go from Monday to Monday, also over the end of a year; a leap day is a day, and its month ends after it
abbrev pub WeeksAndLeapDay : Type 0
WeeksAndLeapDay =
    FirstId (pos 1709510399999) Granularities.Week week
    × FirstId (pos 1709510400000) Granularities.Week (record { start = pos 1709510400000; end = pos 1710115200000 })
    × FirstId (pos 1735603200000) Granularities.Week (record { start = pos 1735516800000; end = pos 1736121600000 })
    × FirstId (pos 1709208000000) Granularities.Day (record { start = pos 1709164800000; end = pos 1709251200000 })
    × FirstId (pos 1709208000000) Granularities.Month (record { start = pos 1706745600000; end = pos 1709251200000 })

-- before 1970 a bucket has the instants up to its end all the same
abbrev pub Before1970 : Type 0
Before1970 =
    FirstId (neg_ℤ (pos 1)) Granularities.Hour (record { start = neg_ℤ (pos 3600000); end = pos 0 })
    × FirstId (neg_ℤ (pos 3600000)) Granularities.Hour (record { start = neg_ℤ (pos 3600000); end = pos 0 })

-- a bucket that begins before the first instant or ends after the last one gives way to a finer one
abbrev pub FirstAndLastBuckets : Type 0
FirstAndLastBuckets =
    FirstId (pos 253402252200000) Granularities.Year (record { start = pos 253402250400000; end = pos 253402254000000 })
    × FirstId (pos 253402300739999) Granularities.Day (record { start = pos 253402300680000; end = pos 253402300740000 })
    × FirstId (neg_ℤ (pos 62167219200000)) Granularities.Week (record { start = neg_ℤ (pos 62167219200000); end = neg_ℤ (pos 62167132800000) })
    × FirstId (neg_ℤ (pos 62167219200000)) Granularities.Year (record { start = neg_ℤ (pos 62167219200000); end = neg_ℤ (pos 62135596800000) })

-- ---- what takes a bucket

abbrev pub ask_year : List ℕ → ℤ → Command
ask_year sequence at = alloc p LockKinds.Append sequence at Granularities.Year

-- each time a year is asked for, and the coarsest bucket that no pending overlaps is given
abbrev pub CoarsestFree : Type 0
CoarsestFree =
    Answers (realtime p)
    (alloc p LockKinds.Append (codes "s1") (time 5 10) Granularities.Minute
    ∷ ask_year (codes "s2") (time 5 12)
    ∷ ask_year (codes "s3") (time 5 20)
    ∷ ask_year (codes "s4") (time 6 30)
    ∷ ask_year (codes "s5") (time 34 0)
    ∷ ask_year (codes "s6") (pos 1709596800000)
    ∷ ask_year (codes "s7") (pos 1712275200000)
    ∷ ask_year (codes "s8") (pos 1738540800000)
    ∷ [])
    (gets (id (record { start = time 5 10; end = time 5 11 }) v0 0) 1
    ∷ gets (id (record { start = time 5 12; end = time 5 13 }) v0 0) 2
    ∷ gets (id (record { start = time 5 15; end = time 5 30 }) v0 0) 3
    ∷ gets (id (hours 6 7) v0 0) 4
    ∷ gets (id next_day v0 0) 5
    ∷ gets (id (record { start = pos 1709510400000; end = pos 1710115200000 }) v0 0) 6
    ∷ gets (id (record { start = pos 1711929600000; end = pos 1714521600000 }) v0 0) 7
    ∷ gets (id (record { start = pos 1735689600000; end = pos 1767225600000 }) v0 0) 8
    ∷ [])

-- a segment in use takes the buckets that it overlaps, and one out of use takes none
abbrev pub UsedTakesBucket : Type 0
UsedTakesBucket =
    Answers (batch a ++ (exclusive a hour ∷ insert a hour (id hour now 0 ∷ []) ∷ succeed a ∷ realtime p))
    (alloc p LockKinds.Append s (time 7 10) Granularities.Day
    ∷ alloc p LockKinds.Append s2 (time 30 0) Granularities.Day
    ∷ Commands.Unlock p 2
    ∷ drop hour
    ∷ alloc p LockKinds.Append s (time 5 10) Granularities.Day
    ∷ [])
    (gets (id (hours 7 8) v0 0) 2 ∷ gets (id next_day v0 0) 3 ∷ Replies.Unlock true ∷ Replies.Drop 1 ∷ gets (id day v0 0) 4 ∷ [])

-- what another source has takes no bucket and gives no place
abbrev pub OtherSourceTakesNone : Type 0
OtherSourceTakesNone =
    Answers (realtime p ++ (batch_of_v b ++ ask_hour p s (time 5 10) ∷ []))
    (alloc b LockKinds.Append s (time 5 10) Granularities.Day ∷ ask_hour p s2 (time 5 10) ∷ [])
    (gets (record { source = v; span = day; version = v0; part = 0 }) 2 ∷ gets (id hour v0 1) 1 ∷ [])

-- the last half of a minute is in use
abbrev pub half_minute : Extent
half_minute = record { start = pos 1709269830000; end = time 5 11 }

abbrev pub half_minute_used : List Command
half_minute_used = batch a ++ (exclusive a half_minute ∷ insert a half_minute (id half_minute now 0 ∷ []) ∷ succeed a ∷ [])

-- in the rest of that minute there is no bucket, of whatever granularity; in it there is its chunk
abbrev pub NoBucketLeft : Type 0
NoBucketLeft =
    Answers (half_minute_used ++ realtime p)
    (alloc p LockKinds.Append s (time 5 10) Granularities.Minute
    ∷ alloc p LockKinds.Append s (pos 1709269829999) Granularities.Month
    ∷ alloc p LockKinds.Append s (pos 1709269830000) Granularities.Month
    ∷ alloc p LockKinds.Append s2 (time 5 11) Granularities.Month
    ∷ [])
    (refuse (Refusals.NoBucket (time 5 10))
    ∷ refuse (Refusals.NoBucket (pos 1709269829999))
    ∷ gets (id half_minute now 1) 2
    ∷ gets (id (record { start = time 5 11; end = time 5 12 }) v0 0) 3
    ∷ [])

-- that there is no bucket is told before a lock in the way
abbrev pub PlaceThenLock : Type 0
PlaceThenLock =
    Answers (half_minute_used ++ (batch b ++ (exclusive b hour ∷ batch q)))
    (alloc q LockKinds.Append s (time 5 10) Granularities.Minute
    ∷ alloc q LockKinds.Append s (time 5 12) Granularities.Minute
    ∷ alloc q LockKinds.Append s (time 6 30) Granularities.FifteenMinute
    ∷ [])
    (refuse (Refusals.NoBucket (time 5 10)) ∷ conflict 2 ∷ gets (id (record { start = time 6 30; end = time 6 45 }) v0 0) 3 ∷ [])

-- a lock in the way doesn't make the bucket finer
abbrev pub LockMakesNoFiner : Type 0
LockMakesNoFiner =
    Answers (batch a ++ (batch b ++ exclusive a hour ∷ []))
    (alloc b LockKinds.Append s (time 6 10) Granularities.Day ∷ alloc b LockKinds.Append s (time 6 10) Granularities.Hour ∷ [])
    (conflict 1 ∷ gets (id (hours 6 7) v0 0) 2 ∷ [])
