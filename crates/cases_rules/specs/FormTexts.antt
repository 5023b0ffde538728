-- Which texts, numbers and instants keep a command's form.
use Rattle.book_rows.specs.Form.{AllKeepForm}
use Rattle.book_rows.specs.declared.commands.Command.{Command}
use Rattle.iv_span.specs.Extent.{Extent}
use Rattle.seg_names.specs.declared.seg_id.SegId.{SegId}
use Rattle.std.specs.Prelude.{List, None, Some, [], codes, map, ℕ, ℤ, ◌++◌, ◌∷◌}
use Rattle.scenes.specs.Asking.{ask_hour, exclusive, exclusive_at, insert_all, replacing, time}
use Rattle.scenes.specs.Script.{s, a, alloc, day, drop, fail, id, insert, now, now1, succeed, w}
use Rattle.scenes.specs.Bounds.{AreIllFormed, after_last, before_first, between, first_moment, last_moment, letters}
use Rattle.cases_rules.specs.TaskCases.{wants}
use Rattle.book_rows.specs.declared.commands.Command.TheVariants as Commands
use Rattle.iv_time.specs.declared.granularity.Granularity.TheVariants as Granularities
use Rattle.book_rows.specs.declared.kinds.LockKind.TheVariants as LockKinds
use Rattle.book_rows.specs.declared.kinds.TaskStatus.TheVariants as Statuses
use Rattle.book_rows.specs.declared.kinds.TaskKind.TheVariants as TaskKinds

-- ---- texts of a submitted task

abbrev pub submitted_as : List ℕ → List ℕ → List ℕ → Command
submitted_as task group source = Commands.Submit task group source TaskKinds.Batch 50 []

abbrev pub good_ids : List (List ℕ)
good_ids = letters 1 ∷ letters 200 ∷ codes "aZ09_-.:" ∷ codes ":" ∷ codes "sup" ∷ codes "sup_1" ∷ codes "Sup:a" ∷ codes "compact" ∷ codes "compaction:a" ∷ codes "a:sup:b" ∷ []

abbrev pub bad_ids : List (List ℕ)
bad_ids = [] ∷ letters 201 ∷ codes "sup:" ∷ codes "sup:w:0:0:0" ∷ codes "compact:" ∷ codes "compact:w:2" ∷ codes "a b" ∷ codes "a/b" ∷ codes "a,b" ∷ (195 ∷ 169 ∷ []) ∷ []

-- a submitted task's id and group have 1 to 200 bytes of a name or colons, and aren't any that the program makes
abbrev pub SubmittedIds : Type 0
SubmittedIds =
    AllKeepForm (map (λ text. submitted_as text a w) good_ids) × AreIllFormed (map (λ text. submitted_as text a w) bad_ids)
    × AllKeepForm (map (λ text. submitted_as a text w) good_ids) × AreIllFormed (map (λ text. submitted_as a text w) bad_ids)

abbrev pub good_names : List (List ℕ)
good_names = letters 1 ∷ letters 200 ∷ codes "aZ09_-." ∷ codes "." ∷ codes "_" ∷ codes "sup" ∷ []

abbrev pub bad_names : List (List ℕ)
bad_names = [] ∷ letters 201 ∷ codes "a:b" ∷ codes "a b" ∷ codes "a/b" ∷ (195 ∷ 169 ∷ []) ∷ []

-- a source and a sequence have 1 to 200 letters, digits, underscores, hyphens and dots
abbrev pub SourceNames : Type 0
SourceNames =
    AllKeepForm (map (submitted_as a a) good_names)
    × AreIllFormed (map (submitted_as a a) bad_names)
    × AllKeepForm (map (λ text. Commands.Drop text day) good_names)
    × AreIllFormed (map (λ text. Commands.Drop text day) bad_names)
    × AllKeepForm (map (λ text. ask_hour a text (time 5 10)) good_names) × AreIllFormed (map (λ text. ask_hour a text (time 5 10)) bad_names)

-- ---- texts of a task that is named

-- each command that names a task
abbrev pub naming : List ℕ → List Command
naming task = exclusive task day ∷ Commands.Unlock task 1 ∷ ask_hour task s (time 5 10) ∷ insert task day (id day now 0 ∷ []) ∷ fail task ∷ []

-- a task that is named has 1 to 255 bytes, of UTF-8, and may be one that the program makes
abbrev pub NamedTasks : Type 0
NamedTasks =
    AllKeepForm (naming (codes "sup:w:0:0:0") ++ (naming (letters 255) ++ (naming (codes "a b") ++ naming (195 ∷ 169 ∷ []))))
    × AreIllFormed (naming [] ++ (naming (letters 256) ++ (naming (255 ∷ []) ++ naming (97 ∷ 195 ∷ []))))

-- ---- numbers

abbrev pub with_priority : ℕ → Command
with_priority priority = Commands.Submit a a w TaskKinds.Other priority []

-- a priority is at most a million, and a lock's number at most the last one
abbrev pub NumbersAtMost : Type 0
NumbersAtMost =
    AllKeepForm (with_priority 0 ∷ with_priority 1000000 ∷ []) × AreIllFormed (with_priority 1000001 ∷ [])
    × AllKeepForm (Commands.Unlock a 0 ∷ Commands.Unlock a 9007199254740991 ∷ []) × AreIllFormed (Commands.Unlock a 9007199254740992 ∷ [])

-- an end is one of the two, and a lock for an allocation one of three
abbrev pub KindsOfForm : Type 0
KindsOfForm =
    AllKeepForm
    (succeed a
    ∷ fail a
    ∷ alloc a LockKinds.Exclusive s now Granularities.Week
    ∷ alloc a LockKinds.Shared s now Granularities.FifteenMinute
    ∷ alloc a LockKinds.Append s now Granularities.Month
    ∷ replacing a day
    ∷ [])
    × AreIllFormed (Commands.End a Statuses.Waiting ∷ Commands.End a Statuses.Running ∷ alloc a LockKinds.Replace s now Granularities.Hour ∷ [])

-- ---- instants and spans

-- each command that carries a moment, or a time to allocate at
abbrev pub at_moment : ℤ → List Command
at_moment moment =
    Commands.Manage moment
    ∷ exclusive_at a day moment
    ∷ Commands.Allocate a LockKinds.Append s None now Granularities.Hour moment
    ∷ alloc a LockKinds.Append s moment Granularities.Hour
    ∷ []

-- moments are from the first to the last instant
abbrev pub MomentsInRange : Type 0
MomentsInRange = AllKeepForm (at_moment first_moment ++ at_moment last_moment) × AreIllFormed (at_moment before_first ++ at_moment after_last)

-- each command that carries a span, and those that carry it in an id
abbrev pub over_span : Extent → List Command
over_span span =
    exclusive a span
    ∷ drop span
    ∷ Commands.Submit a a w TaskKinds.Batch 50 (wants LockKinds.Shared span ∷ [])
    ∷ insert a span (id day now 0 ∷ [])
    ∷ insert a day (id span now 0 ∷ [])
    ∷ insert_all a (day ∷ []) [] (id span now 0 ∷ [])
    ∷ Commands.Allocate a LockKinds.Append s (Some (id span now 0)) now Granularities.Hour now
    ∷ []

-- a span begins before it ends, and both are instants
abbrev pub SpansForwards : Type 0
SpansForwards =
    AllKeepForm (over_span (between first_moment last_moment) ++ over_span (between now now1))
    × AreIllFormed
    (over_span (between now now)
    ++ (over_span (between now1 now)
    ++ (over_span (between before_first now) ++ over_span (between now after_last))))

-- each command that carries an id, as an id, a tombstone or the previous one
abbrev pub with_id : SegId → List Command
with_id name =
    insert a day (name ∷ [])
    ∷ insert_all a (day ∷ []) [] (name ∷ [])
    ∷ Commands.Allocate a LockKinds.Append s (Some name) now Granularities.Hour now
    ∷ []

abbrev pub of_source : List ℕ → SegId
of_source source = record { source = source; span = day; version = now; part = 0 }

-- an id has an instant as version, and a name as source; the last part has 32 bits
abbrev pub IdsOfForm : Type 0
IdsOfForm =
    AllKeepForm (with_id (id day first_moment 0) ++ (with_id (id day last_moment 4294967295) ++ with_id (of_source (letters 200))))
    × AreIllFormed
    (with_id (id day now 4294967296)
    ++ (with_id (id day before_first 0)
    ++ (with_id (id day after_last 0) ++ (with_id (of_source (letters 201)) ++ (with_id (of_source (codes "a:b")) ++ with_id (of_source []))))))
