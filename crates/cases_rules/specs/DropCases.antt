-- Dropping: what refuses it, what goes out of use, and that it is never a repeat.
use Rattle.book_rows.specs.Answer.{changes, empty_book}
use Rattle.book_rows.specs.declared.commands.Command.{Command}
use Rattle.book_rows.specs.declared.rows.Book.{Book}
use Rattle.std.specs.Prelude.{List, None, [], codes, false, true, ◌++◌, ◌∷◌, ◌≡◌}
use Rattle.cases_rules.specs.AllocationCases.{day_then_hour}
use Rattle.cases_rules.specs.InsertFaults.{day_taken}
use Rattle.cases_rules.specs.InsertedCases.{day_inserted, no_since}
use Rattle.scenes.specs.Asking.{Leaves, appending, ask_hour, batch, compaction, exclusive, gets, hours, insert_all, lost, realtime, replacing, shared, time}
use Rattle.scenes.specs.Script.{after, s, v, Answers, a, append, b, c, day, drop, hour, id, insert, now, p, refuse, show_timeline, shows, succeed, timeline, v0, w}
use Rattle.scenes.specs.Publishing.{used_row}
use Rattle.book_rows.specs.declared.commands.Command.TheVariants as Commands
use Rattle.book_rows.specs.declared.kinds.PubKind.TheVariants as PubKinds
use Rattle.book_rows.specs.declared.replies.Refusal.TheVariants as Refusals
use Rattle.book_rows.specs.declared.replies.Reply.TheVariants as Replies

-- ---- locks

-- the least lock that overlaps the span refuses a drop, of whatever type, and one that touches it doesn't
abbrev pub LeastLockRefuses : Type 0
LeastLockRefuses =
    Answers (batch a ++ (batch b ++ (exclusive a (hours 6 7) ∷ exclusive b (hours 5 6) ∷ [])))
    (drop day ∷ drop (hours 4 6) ∷ drop (hours 6 8) ∷ drop (hours 7 8) ∷ drop (hours 4 5) ∷ [])
    (refuse (Refusals.DropLocked 1) ∷ refuse (Refusals.DropLocked 2) ∷ refuse (Refusals.DropLocked 1) ∷ Replies.Drop 0 ∷ Replies.Drop 1 ∷ [])
    × Answers (batch a ++ (shared a (hours 1 2) ∷ appending a (hours 2 3) ∷ replacing a (hours 3 4) ∷ []))
    (drop (hours 1 2) ∷ drop (hours 2 3) ∷ drop (hours 3 4) ∷ [])
    (refuse (Refusals.DropLocked 1) ∷ refuse (Refusals.DropLocked 2) ∷ refuse (Refusals.DropLocked 3) ∷ [])

-- a revoked lock doesn't refuse, though its task hasn't left it
abbrev pub RevokedDropsNot : Type 0
RevokedDropsNot =
    Answers (batch a ++ (compaction c ++ (exclusive c hour ∷ exclusive a hour ∷ [])))
    (drop hour ∷ Commands.Unlock a 2 ∷ drop hour ∷ exclusive c hour ∷ [])
    (refuse (Refusals.DropLocked 2) ∷ Replies.Unlock true ∷ Replies.Drop 0 ∷ lost 1 ∷ [])

-- ---- segments that reach out

-- a late span is inserted first, and an early one after it
abbrev pub late_and_early : List Command
late_and_early =
    day_taken ++ (insert a (hours 7 9) (id (hours 7 9) now 0 ∷ []) ∷ insert a (hours 5 7) (id (hours 5 7) now 0 ∷ []) ∷ succeed a ∷ [])

-- of the segments in use that reach out of the span the first in the order of rows is told; one that only touches it doesn't
abbrev pub FirstPartialIsTold : Type 0
FirstPartialIsTold =
    Answers late_and_early
    (drop (hours 6 8) ∷ drop (hours 5 8) ∷ drop (hours 6 9) ∷ drop (hours 4 7) ∷ drop (hours 6 9) ∷ drop (hours 9 10) ∷ show_timeline ∷ [])
    (refuse (Refusals.DropPartial (id (hours 7 9) now 0))
    ∷ refuse (Refusals.DropPartial (id (hours 7 9) now 0))
    ∷ refuse (Refusals.DropPartial (id (hours 5 7) now 0))
    ∷ Replies.Drop 2
    ∷ Replies.Drop 3
    ∷ Replies.Drop 4
    ∷ timeline []
    ∷ [])

-- a lock is told before a segment that reaches out
abbrev pub LockBeforePartial : Type 0
LockBeforePartial =
    Answers day_then_hour (drop hour ∷ drop (hours 6 7) ∷ [])
    (refuse (Refusals.DropLocked 2) ∷ refuse (Refusals.DropPartial (id day now 0)) ∷ [])

-- a tombstone reaches out like any other segment, and a drop takes it out of use
abbrev pub TombstoneReachesOut : Type 0
TombstoneReachesOut =
    Answers (day_taken ++ (insert_all a (day ∷ []) [] (id day now 0 ∷ []) ∷ succeed a ∷ []))
    (drop hour ∷ show_timeline ∷ drop day ∷ show_timeline ∷ drop hour ∷ [])
    (refuse (Refusals.DropPartial (id day now 0)) ∷ timeline (shows day now [] ∷ []) ∷ Replies.Drop 1 ∷ timeline [] ∷ Replies.Drop 2 ∷ [])

-- ---- what is dropped

abbrev pub early_dropped : Book
early_dropped = after (late_and_early ++ drop (hours 5 7) ∷ [])

-- the segments within the span go out of use; the publication is of no group and has the span, and nothing else changes
abbrev pub DroppedRows : Type 0
DroppedRows =
    (early_dropped.segments
    ≡ used_row (id (hours 7 9) now 0) (id (hours 7 9) now 0) 0
    ∷ record (used_row (id (hours 5 7) now 0) (id (hours 5 7) now 0) 1) { used = false }
    ∷ [])
    × (record early_dropped { segments = []; publications = [] } ≡ record (after late_and_early) { segments = []; publications = [] })
    × ((after (drop hour ∷ [])).publications
    ≡ record { kind = PubKinds.Drop; group = codes "-"; source = w; spans = no_since hour ∷ []; adds = []; empties = []; ranges = None } ∷ [])

-- a drop of nothing is a change, and so is the same drop again; a refused one changes nothing
abbrev pub NeverRepeat : Type 0
NeverRepeat =
    (changes empty_book (drop day) ≡ true) × (changes (after (drop day ∷ [])) (drop day) ≡ true)
    × Leaves (after day_taken) (drop day) × Leaves (after (day_inserted ++ succeed a ∷ [])) (drop hour)

-- a drop is of one source: no lock and no segment of another one matters to it
abbrev pub DropOfSource : Type 0
DropOfSource =
    Answers (day_taken ++ insert a day (id day now 0 ∷ []) ∷ [])
    (Commands.Drop v hour ∷ Commands.Drop v day ∷ show_timeline ∷ [])
    (Replies.Drop 1 ∷ Replies.Drop 2 ∷ timeline (shows day now (id day now 0 ∷ []) ∷ []) ∷ [])

-- segments of all versions within the span are dropped; a chunk that was dropped goes on with its next part
abbrev pub AllVersionsDropped : Type 0
AllVersionsDropped =
    Answers (day_then_hour ++ succeed b ∷ drop day ∷ realtime p)
    (show_timeline ∷ ask_hour p s (time 5 10) ∷ [])
    (timeline [] ∷ gets (id hour v0 0) 3 ∷ [])
    × Answers (realtime p ++ (ask_hour p s (time 5 10) ∷ append p (id hour v0 0 ∷ []) ∷ Commands.Unlock p 1 ∷ []))
    (drop hour ∷ ask_hour p s (time 5 10) ∷ [])
    (Replies.Drop 1 ∷ gets (id hour v0 1) 2 ∷ [])
