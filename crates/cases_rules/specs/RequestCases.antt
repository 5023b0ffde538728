-- Requests that are known: the same sequence and previous id again, what differs, and when they are forgotten.
use Rattle.book_rows.specs.Answer.{answer, next}
use Rattle.book_rows.specs.declared.commands.Command.{Command}
use Rattle.book_rows.specs.declared.rows.Book.{Book}
use Rattle.seg_names.specs.declared.seg_id.SegId.{SegId}
use Rattle.std.specs.Prelude.{List, None, Option, Some, [], true, ℕ, ◌++◌, ◌∷◌, ◌≡◌}
use Rattle.scenes.specs.Asking.{Leaves, ask_hour, batch, batch_of_v, compaction, exclusive, gets, group_of_two, group_row, hours, just_before, lost, realtime, runs_in, time}
use Rattle.scenes.specs.Script.{after, s, s2, v, Answers, a, alloc, append, b, c, fail, hour, id, now, now1, now2, p, q, refuse, v0, x, y}
use Rattle.book_rows.specs.declared.commands.Command.TheVariants as Commands
use Rattle.iv_time.specs.declared.granularity.Granularity.TheVariants as Granularities
use Rattle.book_rows.specs.declared.kinds.LockKind.TheVariants as LockKinds
use Rattle.book_rows.specs.declared.replies.Refusal.TheVariants as Refusals
use Rattle.book_rows.specs.declared.replies.Reply.TheVariants as Replies
use Rattle.book_rows.specs.declared.kinds.TaskStatus.TheVariants as Statuses

abbrev pub ask_after : List ℕ → Option SegId → Command
ask_after sequence previous = Commands.Allocate p LockKinds.Append sequence previous (time 5 10) Granularities.Hour now

-- ---- what a request is known by

-- a sequence and a previous id are known together, and no previous id is like none
abbrev pub SequenceAndPrevious : Type 0
SequenceAndPrevious =
    Answers (realtime p)
    (ask_after s None
    ∷ ask_after s (Some (id hour v0 0))
    ∷ ask_after s (Some (id hour v0 1))
    ∷ ask_after s2 (Some (id hour v0 0))
    ∷ ask_after s (Some (id hour v0 0))
    ∷ ask_after s None
    ∷ [])
    (gets (id hour v0 0) 1
    ∷ gets (id hour v0 1) 1
    ∷ gets (id hour v0 2) 1
    ∷ gets (id hour v0 3) 1
    ∷ gets (id hour v0 1) 1
    ∷ gets (id hour v0 0) 1
    ∷ [])

-- the granularity doesn't matter, and the time only in so far as the id's span has it
abbrev pub WithinItsSpan : Type 0
WithinItsSpan =
    Answers (realtime p ++ ask_hour p s (time 5 10) ∷ [])
    (alloc p LockKinds.Append s (time 5 0) Granularities.Year
    ∷ alloc p LockKinds.Append s (just_before 6 0) Granularities.Minute
    ∷ ask_hour p s (time 6 0)
    ∷ ask_hour p s (just_before 5 0)
    ∷ [])
    (gets (id hour v0 0) 1
    ∷ gets (id hour v0 0) 1
    ∷ refuse (Refusals.SequenceMismatch (id hour v0 0))
    ∷ refuse (Refusals.SequenceMismatch (id hour v0 0))
    ∷ [])

-- a request of another type, group or priority than the lock of the known id is refused
abbrev pub OtherTypeOrTask : Type 0
OtherTypeOrTask =
    Answers (realtime p ++ (realtime q ++ (runs_in p y 74 ++ ask_hour p s (time 5 10) ∷ [])))
    (alloc p LockKinds.Exclusive s (time 5 10) Granularities.Hour
    ∷ alloc p LockKinds.Shared s (time 5 10) Granularities.Hour
    ∷ ask_hour q s (time 5 10)
    ∷ ask_hour y s (time 5 10)
    ∷ [])
    (refuse (Refusals.SequenceMismatch (id hour v0 0))
    ∷ refuse (Refusals.SequenceMismatch (id hour v0 0))
    ∷ refuse (Refusals.SequenceMismatch (id hour v0 0))
    ∷ refuse (Refusals.SequenceMismatch (id hour v0 0))
    ∷ [])

-- a sequence of another source is another one
abbrev pub SequenceOfSource : Type 0
SequenceOfSource =
    Answers (realtime p ++ (batch_of_v b ++ ask_hour p s (time 5 10) ∷ []))
    (ask_hour b s (time 7 10) ∷ ask_hour b s (time 5 10) ∷ ask_hour p s (time 5 10) ∷ [])
    (gets (record { source = v; span = hours 7 8; version = v0; part = 0 }) 2
    ∷ refuse (Refusals.SequenceMismatch (record { source = v; span = hours 7 8; version = v0; part = 0 }))
    ∷ gets (id hour v0 0) 1
    ∷ [])

-- ---- who asks again

-- a task that lost a lock there isn't given the known id until it has left that lock; a mismatch is told before
abbrev pub LostBeforeKnown : Type 0
LostBeforeKnown =
    Answers (group_of_two 25 ++ (batch a ++ (exclusive x hour ∷ exclusive a hour ∷ Commands.Unlock a 2 ∷ [])))
    (alloc y LockKinds.Exclusive s (time 5 10) Granularities.Hour
    ∷ alloc x LockKinds.Exclusive s (time 5 10) Granularities.Hour
    ∷ alloc x LockKinds.Exclusive s (time 7 10) Granularities.Hour
    ∷ Commands.Unlock x 1
    ∷ alloc x LockKinds.Exclusive s (time 5 10) Granularities.Hour
    ∷ [])
    (gets (id hour now2 0) 3
    ∷ lost 1
    ∷ refuse (Refusals.SequenceMismatch (id hour now2 0))
    ∷ Replies.Unlock true
    ∷ gets (id hour now2 0) 3
    ∷ [])

abbrev pub one_of_two : Book
one_of_two = after (group_of_two 50 ++ ask_hour x s (time 5 10) ∷ [])

abbrev pub ask_later : List ℕ → Command
ask_later task = Commands.Allocate task LockKinds.Append s None (time 5 20) Granularities.Day now2

-- a task of the group that asks the same joins the lock, which sets the clock and makes no id; a member that asks again changes nothing
abbrev pub JoinsByAsking : Type 0
JoinsByAsking =
    (answer one_of_two (ask_later y) ≡ gets (id hour v0 0) 1)
    × (next one_of_two (ask_later y) ≡ record one_of_two { clock = now2; posses = group_row 1 LockKinds.Append (x ∷ y ∷ []) hour v0 50 ∷ [] })
    × (answer one_of_two (ask_later x) ≡ gets (id hour v0 0) 1) × Leaves one_of_two (ask_later x)

-- ---- how long it is remembered

-- a sequence is forgotten once its id is appended: the next id has the next part
abbrev pub ForgottenWhenAppended : Type 0
ForgottenWhenAppended =
    Answers (realtime p)
    (ask_hour p s (time 5 10) ∷ append p (id hour v0 0 ∷ []) ∷ ask_hour p s (time 5 10) ∷ ask_hour p s (time 7 10) ∷ append p (id hour v0 1 ∷ []) ∷ ask_hour p s (time 7 10) ∷ [])
    (gets (id hour v0 0) 1
    ∷ Replies.Append 0
    ∷ gets (id hour v0 1) 1
    ∷ refuse (Refusals.SequenceMismatch (id hour v0 1))
    ∷ Replies.Append 1
    ∷ gets (id (hours 7 8) v0 0) 2
    ∷ [])

-- a sequence is forgotten with its revoked lock, and its member gets no id there until it has left
abbrev pub ForgottenWhenRevoked : Type 0
ForgottenWhenRevoked =
    Answers (batch a ++ (compaction c ++ alloc c LockKinds.Exclusive s (time 5 10) Granularities.Hour ∷ []))
    (exclusive a hour
    ∷ alloc c LockKinds.Exclusive s (time 5 10) Granularities.Hour
    ∷ Commands.Unlock a 2
    ∷ alloc c LockKinds.Exclusive s (time 5 10) Granularities.Hour
    ∷ Commands.Unlock c 1
    ∷ alloc c LockKinds.Exclusive s (time 5 10) Granularities.Hour
    ∷ [])
    (Replies.Lock 2 (1 ∷ []) hour now1
    ∷ lost 1
    ∷ Replies.Unlock true
    ∷ lost 1
    ∷ Replies.Unlock true
    ∷ gets (id hour now2 0) 3
    ∷ [])

-- a sequence is forgotten with its task's end, and another group may use its name
abbrev pub ForgottenWhenEnded : Type 0
ForgottenWhenEnded =
    Answers (realtime p ++ (realtime q ++ ask_hour p s (time 5 10) ∷ []))
    (ask_hour q s (time 7 10) ∷ fail p ∷ ask_hour q s (time 5 10) ∷ [])
    (refuse (Refusals.SequenceMismatch (id hour v0 0)) ∷ Replies.End Statuses.Failed p ∷ gets (id hour v0 1) 2 ∷ [])
