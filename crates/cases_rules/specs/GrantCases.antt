-- How a request for a lock is decided: a lost lock, one to join, one in the way, those revoked, and the version.
use Rattle.book_rows.specs.declared.commands.Command.{Command}
use Rattle.iv_span.specs.Extent.{Extent}
use Rattle.std.specs.Prelude.{List, [], true, ◌++◌, ◌∷◌, ◌≡◌}
use Rattle.scenes.specs.Script.{after, Answers, a, b, c, day, hour, now, now1, now2, p, r, v0, x, y}
use Rattle.scenes.specs.Asking.{appending, batch, compaction, conflict, d, exclusive, g, granted, group_of_two, group_row, hours, lost, now_plus, realtime, replacing, runs_in, shared, time}
use Rattle.book_rows.specs.declared.commands.Command.TheVariants as Commands
use Rattle.book_rows.specs.declared.kinds.LockKind.TheVariants as LockKinds
use Rattle.book_rows.specs.declared.replies.Reply.TheVariants as Replies

-- ---- a lock that was revoked is told to its members

-- two hours of a compaction task were revoked for a day
abbrev pub two_hours_lost : List Command
two_hours_lost = batch a ++ (compaction c ++ (exclusive c (hours 5 6) ∷ exclusive c (hours 6 7) ∷ exclusive a day ∷ []))

-- the least revoked lock of the task that overlaps the span is told, whatever type is asked for; where none does, the lock in the way is told
abbrev pub LeastLostIsTold : Type 0
LeastLostIsTold =
    Answers two_hours_lost
    (exclusive c (hours 6 7) ∷ exclusive c (hours 5 7) ∷ shared c (hours 6 8) ∷ appending c day ∷ exclusive c (hours 7 8) ∷ [])
    (lost 2 ∷ lost 1 ∷ lost 2 ∷ lost 1 ∷ conflict 3 ∷ [])

-- a lost lock stands in the way of its members alone, and only where it was
abbrev pub LostOnlyThere : Type 0
LostOnlyThere =
    Answers (two_hours_lost ++ Commands.Unlock a 3 ∷ [])
    (exclusive c (hours 7 8) ∷ exclusive c (hours 4 5) ∷ exclusive c (hours 5 6) ∷ exclusive a (hours 5 6) ∷ [])
    (granted 4 (hours 7 8) (now_plus 3) ∷ granted 5 (hours 4 5) (now_plus 4) ∷ lost 1 ∷ granted 6 (hours 5 6) (now_plus 5) ∷ [])

-- the lost lock is told before a lock is joined; once it is left, the other is joined
abbrev pub LostBeforeJoining : Type 0
LostBeforeJoining =
    Answers (group_of_two 25 ++ batch a)
    (exclusive x hour
    ∷ exclusive a hour
    ∷ exclusive y hour
    ∷ Commands.Unlock a 2
    ∷ exclusive y day
    ∷ exclusive x hour
    ∷ exclusive x (hours 8 9)
    ∷ Commands.Unlock x 1
    ∷ exclusive x hour
    ∷ [])
    (granted 1 hour now
    ∷ Replies.Lock 2 (1 ∷ []) hour now1
    ∷ conflict 2
    ∷ Replies.Unlock true
    ∷ granted 3 day now2
    ∷ lost 1
    ∷ granted 3 day now2
    ∷ Replies.Unlock true
    ∷ granted 3 day now2
    ∷ [])

-- ---- a lock of the same type, group and priority that contains the span is joined

abbrev pub half_hour : Extent
half_hour = record { start = time 5 0; end = time 5 30 }

abbrev pub shared_twice : List Command
shared_twice = shared x hour ∷ shared y day ∷ shared x half_hour ∷ shared x (hours 7 8) ∷ shared y half_hour ∷ []

-- the least lock that contains the span is joined, by who isn't a member yet
abbrev pub LeastIsJoined : Type 0
LeastIsJoined =
    Answers (group_of_two 50) shared_twice (granted 1 hour now ∷ granted 2 day now1 ∷ granted 1 hour now ∷ granted 2 day now1 ∷ granted 1 hour now ∷ [])
    × ((after (group_of_two 50 ++ shared_twice)).posses
    ≡ group_row 1 LockKinds.Shared (x ∷ y ∷ []) hour now 50
    ∷ group_row 2 LockKinds.Shared (y ∷ x ∷ []) day now1 50
    ∷ [])

-- a lock of another group or priority isn't joined, though it goes with the new one
abbrev pub OnlyLikeIsJoined : Type 0
OnlyLikeIsJoined =
    Answers (batch a ++ (batch b ++ runs_in a d 60))
    (shared a day ∷ shared b day ∷ shared d day ∷ shared a day ∷ shared d hour ∷ [])
    (granted 1 day now ∷ granted 2 day now1 ∷ granted 3 day now2 ∷ granted 1 day now ∷ granted 3 day now2 ∷ [])

-- a lock of another type or of a narrower span isn't joined: it goes with the new one, or is in its way
abbrev pub NotJoined : Type 0
NotJoined =
    Answers (batch a) (replacing a day ∷ appending a hour ∷ appending a day ∷ replacing a hour ∷ []) (granted 1 day now ∷ granted 2 hour v0 ∷ granted 3 day v0 ∷ granted 1 day now ∷ [])
    × Answers (batch a) (exclusive a hour ∷ exclusive a day ∷ exclusive a (hours 5 7) ∷ exclusive a hour ∷ []) (granted 1 hour now ∷ conflict 1 ∷ conflict 1 ∷ granted 1 hour now ∷ [])

-- ---- locks in the way

-- an hour each of lower and of equal priority
abbrev pub three_hours : List Command
three_hours = compaction c ++ (batch b ++ (batch d ++ (exclusive c (hours 5 6) ∷ exclusive b (hours 6 7) ∷ exclusive d (hours 7 8) ∷ [])))

-- where one lock in the way isn't lower, the least such is told, and the lower ones stay
abbrev pub LeastNotLower : Type 0
LeastNotLower =
    Answers (three_hours ++ batch a)
    (exclusive a day ∷ exclusive a (hours 7 9) ∷ exclusive c hour ∷ exclusive c day ∷ [])
    (conflict 2 ∷ conflict 3 ∷ granted 1 hour now ∷ conflict 1 ∷ [])

-- where all are lower, all are revoked, and told in ascending order
abbrev pub AllLowerRevoked : Type 0
AllLowerRevoked =
    Answers (three_hours ++ realtime p)
    (exclusive p day ∷ exclusive b (hours 6 7) ∷ exclusive d (hours 7 8) ∷ [])
    (Replies.Lock 4 (1 ∷ 2 ∷ 3 ∷ []) day (now_plus 3) ∷ lost 2 ∷ lost 3 ∷ [])

-- a lower lock that goes with the new one isn't revoked
abbrev pub OnlyInTheWayRevoked : Type 0
OnlyInTheWayRevoked =
    Answers (group_of_two 25 ++ batch r)
    (appending x (hours 5 6) ∷ exclusive y (hours 7 8) ∷ replacing r day ∷ appending x (hours 5 6) ∷ exclusive y (hours 7 8) ∷ [])
    (granted 1 (hours 5 6) v0 ∷ granted 2 (hours 7 8) now ∷ Replies.Lock 3 (2 ∷ []) day now1 ∷ granted 1 (hours 5 6) v0 ∷ lost 2 ∷ [])

-- one point of priority decides, and an equal one refuses, also within a group
abbrev pub PriorityDecides : Type 0
PriorityDecides =
    Answers (runs_in a a 0 ++ (runs_in g x 1 ++ (runs_in g y 2 ++ runs_in b b 2)))
    (exclusive a day ∷ exclusive x day ∷ exclusive y day ∷ exclusive b day ∷ exclusive x day ∷ [])
    (granted 1 day now ∷ Replies.Lock 2 (1 ∷ []) day now1 ∷ Replies.Lock 3 (2 ∷ []) day now2 ∷ conflict 3 ∷ lost 2 ∷ [])
