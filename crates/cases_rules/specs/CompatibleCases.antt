-- Which locks go together: each type with each, on one span, on spans that meet in part or not at all, and in two sources.
use Rattle.book_rows.specs.declared.commands.Command.{Command}
use Rattle.book_rows.specs.declared.replies.Reply.{Reply}
use Rattle.std.specs.Prelude.{List, [], pos, ◌++◌, ◌∷◌}
use Rattle.scenes.specs.Asking.{appending, batch, batch_of_v, conflict, exclusive, granted, hours, just_before, replacing, shared, time}
use Rattle.scenes.specs.Script.{Answers, a, b, day, hour, now, now1, now2, v0}

-- two tasks of equal priority, in groups of their own
abbrev pub two_tasks : List Command
two_tasks = batch a ++ batch b

-- the first task holds a lock, and the second one asks
abbrev pub AfterLock : Command → List Command → List Reply → Type 0
AfterLock first others replies = Answers (two_tasks ++ first ∷ []) others replies

-- ---- one span

-- an exclusive lock goes with none, a shared one with a shared one, an appending one with a replacing and an appending one, a replacing one with an appending one
abbrev pub PairByPair : Type 0
PairByPair =
    AfterLock (exclusive a hour) (exclusive b hour ∷ shared b hour ∷ appending b hour ∷ replacing b hour ∷ []) (conflict 1 ∷ conflict 1 ∷ conflict 1 ∷ conflict 1 ∷ [])
    × AfterLock (shared a hour) (exclusive b hour ∷ appending b hour ∷ replacing b hour ∷ shared b hour ∷ []) (conflict 1 ∷ conflict 1 ∷ conflict 1 ∷ granted 2 hour now1 ∷ [])
    × AfterLock (appending a hour) (exclusive b hour ∷ shared b hour ∷ replacing b hour ∷ appending b hour ∷ []) (conflict 1 ∷ conflict 1 ∷ granted 2 hour now ∷ granted 3 hour v0 ∷ [])
    × AfterLock (replacing a hour) (exclusive b hour ∷ shared b hour ∷ replacing b hour ∷ appending b hour ∷ []) (conflict 1 ∷ conflict 1 ∷ conflict 1 ∷ granted 2 hour v0 ∷ [])

-- ---- spans that meet

-- a day and an hour of it meet as one span does: exclusive, shared and replacing locks, in both orders
abbrev pub DayAndHour : Type 0
DayAndHour =
    AfterLock (exclusive a day) (exclusive b hour ∷ appending b hour ∷ []) (conflict 1 ∷ conflict 1 ∷ [])
    × AfterLock (exclusive a hour) (exclusive b day ∷ replacing b day ∷ []) (conflict 1 ∷ conflict 1 ∷ [])
    × AfterLock (shared a day) (replacing b hour ∷ shared b hour ∷ []) (conflict 1 ∷ granted 2 hour now1 ∷ [])
    × AfterLock (replacing a hour) (replacing b day ∷ shared b day ∷ []) (conflict 1 ∷ conflict 1 ∷ [])

-- a replacing lock comes around an appending one; where the appending one reaches out of it they don't go together, in either order
abbrev pub ReplaceAroundAppend : Type 0
ReplaceAroundAppend =
    AfterLock (appending a hour) (replacing b day ∷ []) (granted 2 day now ∷ [])
    × AfterLock (appending a day) (replacing b hour ∷ []) (conflict 1 ∷ [])
    × AfterLock (appending a (hours 4 6)) (replacing b (hours 5 7) ∷ replacing b (hours 3 5) ∷ []) (conflict 1 ∷ conflict 1 ∷ [])
    × AfterLock (replacing a (hours 5 7)) (appending b (hours 4 6) ∷ appending b (hours 6 8) ∷ []) (conflict 1 ∷ conflict 1 ∷ [])

-- an appending lock may end or begin where the replacing one does, and reaches no further
abbrev pub AppendToTheEdges : Type 0
AppendToTheEdges =
    AfterLock (replacing a (hours 5 8)) (appending b (hours 5 6) ∷ appending b (hours 7 8) ∷ appending b (hours 7 9) ∷ appending b (hours 4 6) ∷ appending b (hours 8 9) ∷ [])
    (granted 2 (hours 5 6) v0 ∷ granted 3 (hours 7 8) v0 ∷ conflict 1 ∷ conflict 1 ∷ granted 4 (hours 8 9) v0 ∷ [])

-- ---- spans that don't meet, and other sources

-- locks go together where one begins as the other ends, and one shared millisecond is enough for a conflict, at the start and at the end
abbrev pub LocksTouch : Type 0
LocksTouch =
    AfterLock (exclusive a hour) (exclusive b (hours 6 7) ∷ exclusive b (hours 4 5) ∷ []) (granted 2 (hours 6 7) now1 ∷ granted 3 (hours 4 5) now2 ∷ [])
    × AfterLock (exclusive a hour)
    (exclusive b (record { start = just_before 6 0; end = time 7 0 }) ∷ exclusive b (record { start = time 4 0; end = pos 1709269200001 }) ∷ [])
    (conflict 1 ∷ conflict 1 ∷ [])

-- locks of two sources never meet
abbrev pub TwoSources : Type 0
TwoSources =
    Answers (batch a ++ (batch_of_v b ++ exclusive a hour ∷ []))
    (exclusive b hour ∷ exclusive a hour ∷ exclusive b day ∷ [])
    (granted 2 hour now1 ∷ granted 1 hour now ∷ conflict 2 ∷ [])
