-- A worked day: a realtime task appends in an hour, and a batch task replaces the day meanwhile. The source is `w`, and the moment is 2024-04-01 everywhere.
use Rattle.std.specs.Prelude.{◌++◌, ◌∷◌, List, None, [], codes, false, true, ℕ}
use Rattle.book_rows.specs.declared.commands.Command.{Command}
use Rattle.book_rows.specs.declared.commands.Command.TheVariants as Commands
use Rattle.book_rows.specs.declared.kinds.LockKind.TheVariants as LockKinds
use Rattle.book_rows.specs.declared.kinds.PubKind.TheVariants as PubKinds
use Rattle.book_rows.specs.declared.kinds.TaskKind.TheVariants as TaskKinds
use Rattle.book_rows.specs.declared.rows.Publication.{Publication}
use Rattle.book_rows.specs.declared.rows.SegmentRow.{SegmentRow}
use Rattle.iv_time.specs.declared.granularity.Granularity.TheVariants as Granularities
use Rattle.scenes.specs.Script.{day, hour, minutes, now, p, r, w}
use Rattle.scenes.specs.Publishing.{day_id, hour_id, replace_day}
use Rattle.scenes.specs.Rows.{p_row, r_row}
use Rattle.book_rows.specs.Publications.{appending, in_spans, publication_of}

-- the realtime task is `p`, and the batch task `r`

-- ---- commands

-- an id in the hour, of this sequence
abbrev pub alloc : List ℕ → Command
alloc sequence = Commands.Allocate p LockKinds.Append sequence None (minutes 310) Granularities.Hour now

abbrev pub append : ℕ → Command
append part = Commands.Append p (hour_id part ∷ []) None

abbrev pub lock_day : Command
lock_day = Commands.Lock r LockKinds.Replace day now

abbrev pub ask : Command
ask = Commands.ToReplace r hour

-- ---- runs

abbrev pub started : List Command
started = Commands.Submit p p w TaskKinds.Realtime 75 [] ∷ Commands.Submit r r w TaskKinds.Batch 50 [] ∷ Commands.Manage now ∷ []

-- an id is allocated under lock 1 and appended; the day is locked by lock 2; a second id is allocated and appended
abbrev pub under_lock : List Command
under_lock = started ++ alloc (codes "s") ∷ append 0 ∷ lock_day ∷ alloc (codes "s2") ∷ append 1 ∷ []

-- the day is replaced
abbrev pub replaced : List Command
replaced = under_lock ++ replace_day ∷ []

-- ---- rows

-- the copy of the second id in the replacement
abbrev pub copy : SegmentRow
copy = record { id = day_id 1; used = true; root = hour_id 1; commit = 2; tombstone = false }

-- ---- publications

abbrev pub appended : ℕ → Publication
appended part = publication_of PubKinds.Append p_row [] (appending (hour_id part ∷ []) None)

-- of the day, by a lock of a book with one publication
abbrev pub replacement : Publication
replacement = publication_of PubKinds.Replace r_row (record { span = day; since = 1 } ∷ []) (in_spans [] (day_id 0 ∷ []) [] None)
