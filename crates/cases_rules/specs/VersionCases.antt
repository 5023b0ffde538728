-- Versions and numbers of locks, the clock, and where they end.
use Rattle.book_rows.specs.Answer.{answers, book_after, empty_book, next}
use Rattle.book_rows.specs.declared.rows.Book.{Book}
use Rattle.std.specs.Prelude.{[], neg_ℤ, pos, ◌++◌, ◌∷◌, ◌≡◌}
use Rattle.cases_rules.specs.GrantCases.{two_hours_lost}
use Rattle.scenes.specs.Asking.{Leaves, appending, ask_hour, batch, compaction, conflict, exclusive, exclusive_at, granted, group_of_two, group_row, hours, lock_row, lost, now_plus, replacing, runs_in, shared, time}
use Rattle.scenes.specs.Script.{after, s, Answers, a, b, c, day, drop, hour, next_day, now, now1, now2, refuse, submit, v0, x, y}
use Rattle.scenes.specs.Bounds.{last_moment}
use Rattle.book_rows.specs.declared.commands.Command.TheVariants as Commands
use Rattle.book_rows.specs.declared.kinds.LockKind.TheVariants as LockKinds
use Rattle.book_rows.specs.declared.replies.Refusal.TheVariants as Refusals
use Rattle.book_rows.specs.declared.replies.Reply.TheVariants as Replies
use Rattle.book_rows.specs.declared.kinds.Table.TheVariants as Tables
use Rattle.book_rows.specs.declared.kinds.TaskKind.TheVariants as TaskKinds

-- ---- versions

-- a version is the moment, or one past the last one where that is later; an appending lock has none of its own
abbrev pub EachItsVersion : Type 0
EachItsVersion =
    Answers (batch a)
    (exclusive a day
    ∷ exclusive a next_day
    ∷ exclusive_at a (hours 48 72) (now_plus 10)
    ∷ appending a (hours 72 96)
    ∷ exclusive a (hours 96 120)
    ∷ exclusive_at a (hours 120 144) (now_plus 12)
    ∷ [])
    (granted 1 day now
    ∷ granted 2 next_day now1
    ∷ granted 3 (hours 48 72) (now_plus 10)
    ∷ granted 4 (hours 72 96) v0
    ∷ granted 5 (hours 96 120) (now_plus 11)
    ∷ granted 6 (hours 120 144) (now_plus 12)
    ∷ [])

-- a moment before 1970 gives the version one: versions are above that of appending locks
abbrev pub VersionAboveZero : Type 0
VersionAboveZero =
    answers (after (submit a TaskKinds.Batch ∷ Commands.Manage (neg_ℤ (pos 1000)) ∷ []))
    (exclusive_at a day (neg_ℤ (pos 500)) ∷ exclusive_at a next_day (neg_ℤ (pos 500)) ∷ [])
    ≡ granted 1 day (pos 1) ∷ granted 2 next_day (pos 2) ∷ []

-- a moment before the clock counts as the clock, and the clock stays
abbrev pub ClockCounts : Type 0
ClockCounts =
    ((after (batch a ++ (Commands.Manage (now_plus 10) ∷ exclusive a day ∷ []))).posses ≡ lock_row 1 LockKinds.Exclusive a day (now_plus 10) 50 ∷ [])
    × ((after (batch a ++ (Commands.Manage (now_plus 10) ∷ exclusive a day ∷ []))).clock ≡ now_plus 10)

abbrev pub day_locked : Book
day_locked = after (batch a ++ (batch b ++ exclusive a day ∷ []))

-- a granted lock sets the clock, the last version and the next number; an appending one leaves the version, and one that is granted again sets the clock alone
abbrev pub GrantSetsCounters : Type 0
GrantSetsCounters =
    (next day_locked (exclusive_at b next_day now2)
    ≡ record day_locked {
      clock = now2;
      last = now2;
      next_lock = 3;
      posses = lock_row 1 LockKinds.Exclusive a day now 50 ∷ lock_row 2 LockKinds.Exclusive b next_day now2 50 ∷ [];
    })
    × (next day_locked (Commands.Lock b LockKinds.Append next_day now2)
    ≡ record day_locked {
      clock = now2;
      next_lock = 3;
      posses = lock_row 1 LockKinds.Exclusive a day now 50 ∷ lock_row 2 LockKinds.Append b next_day v0 50 ∷ [];
    })
    × (next day_locked (exclusive_at a hour now2) ≡ record day_locked { clock = now2 })

-- a refused lock changes nothing, whatever its moment
abbrev pub RefusedLeaves : Type 0
RefusedLeaves = Leaves day_locked (exclusive_at b day now2) × Leaves (after two_hours_lost) (exclusive_at c hour (now_plus 50))

-- a lock knows how many publications there were when it was made, and keeps that when it is joined
abbrev pub SincePublications : Type 0
SincePublications =
    (after (group_of_two 50 ++ (drop hour ∷ drop hour ∷ exclusive x day ∷ drop next_day ∷ exclusive y hour ∷ []))).posses
    ≡ record (group_row 1 LockKinds.Exclusive (x ∷ y ∷ []) day now 50) { since = 2 } ∷ []

-- ---- the end of the versions

-- the last instant is a version, and the version after the last but one
abbrev pub LastVersionIsGiven : Type 0
LastVersionIsGiven =
    Answers (batch a)
    (exclusive_at a day (pos 253402300799998) ∷ exclusive a next_day ∷ exclusive a (hours 48 72) ∷ [])
    (granted 1 day (pos 253402300799998) ∷ granted 2 next_day last_moment ∷ refuse Refusals.ClockEnd ∷ [])

-- after it a lock may be joined and a conflict is told; no type but the appending one gets a new lock
abbrev pub AfterLastVersion : Type 0
AfterLastVersion =
    Answers (batch a ++ (batch b ++ exclusive_at a day last_moment ∷ []))
    (exclusive a hour ∷ exclusive b hour ∷ shared b next_day ∷ replacing b next_day ∷ exclusive b next_day ∷ appending b next_day ∷ [])
    (granted 1 day last_moment
    ∷ conflict 1
    ∷ refuse Refusals.ClockEnd
    ∷ refuse Refusals.ClockEnd
    ∷ refuse Refusals.ClockEnd
    ∷ granted 2 next_day v0
    ∷ [])

-- a lock without a version revokes nothing
abbrev pub ClockEndRevokesNothing : Type 0
ClockEndRevokesNothing =
    Answers (batch a ++ (compaction c ++ exclusive_at c day last_moment ∷ []))
    (exclusive a day ∷ exclusive c hour ∷ appending a day ∷ exclusive c hour ∷ [])
    (refuse Refusals.ClockEnd ∷ granted 1 day last_moment ∷ Replies.Lock 2 (1 ∷ []) day v0 ∷ lost 1 ∷ [])

-- ---- the end of the numbers

abbrev pub last_number : Book
last_number = book_after (record empty_book { next_lock = 9007199254740991 }) (batch a ++ batch b)

-- the last number is given; after it a lock may be joined, a conflict is told, and a new lock is refused and revokes nothing
abbrev pub NumbersEnd : Type 0
NumbersEnd =
    (answers last_number
    (exclusive a day ∷ exclusive a hour ∷ exclusive b hour ∷ exclusive b next_day ∷ ask_hour b s (time 30 0) ∷ appending b next_day ∷ [])
    ≡ granted 9007199254740991 day now
    ∷ granted 9007199254740991 day now
    ∷ conflict 9007199254740991
    ∷ refuse (Refusals.TableFull Tables.Numbers)
    ∷ refuse (Refusals.TableFull Tables.Numbers)
    ∷ refuse (Refusals.TableFull Tables.Numbers)
    ∷ [])
    × Leaves (next last_number (exclusive a day)) (exclusive b next_day) × Leaves (book_after last_number (runs_in y y 80 ++ exclusive a day ∷ [])) (exclusive y day)
