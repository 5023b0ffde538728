-- Worked cases at the first and the last instants that have texts.
use Rattle.std.specs.Prelude.{◌++◌, ◌∷◌, ◌≡◌, List, None, [], false, negsuc, pos, true, ℕ}
use Rattle.std.specs.List.{list_all}
use Rattle.iv_span.specs.Extent.{Extent}
use Rattle.iv_time.specs.Range.{first_instant, last_instant}
use Rattle.iv_time.specs.declared.granularity.Granularity.TheVariants as Granularities
use Rattle.seg_names.specs.declared.seg_id.SegId.{SegId}
use Rattle.book_rows.specs.Answer.{answer, answers}
use Rattle.book_rows.specs.Fits.{reply_fits}
use Rattle.book_rows.specs.Form.{AllKeepForm, KeepsForm, keeps_form}
use Rattle.book_rows.specs.Sound.{Sound}
use Rattle.book_rows.specs.declared.commands.Command.{Command}
use Rattle.book_rows.specs.declared.commands.Command.TheVariants as Commands
use Rattle.book_rows.specs.declared.kinds.LockKind.TheVariants as LockKinds
use Rattle.book_rows.specs.declared.kinds.TaskKind.TheVariants as TaskKinds
use Rattle.book_rows.specs.declared.replies.Refusal.TheVariants as Refusals
use Rattle.book_rows.specs.declared.replies.Reply.{Reply}
use Rattle.book_rows.specs.declared.replies.Reply.TheVariants as Replies
use Rattle.book_rows.specs.declared.rows.Book.{Book}
use Rattle.laws_locks.specs.LockShape.{HasSoundLocks}
use Rattle.laws_texts.specs.Texts.{HasLimitedRows, names_rows}
use Rattle.scenes.specs.Script.{after, contents, day, has_roots, id, insert, p, r, refuse, s, show_contents, show_timeline, shows, submit, timeline}
use Rattle.scenes.specs.Asking.{granted, lock_row}
use Rattle.scenes.specs.Publishing.{show_locks}

-- each of these answers has texts
abbrev pub HaveTexts : List Reply → Type 0
HaveTexts replies = list_all reply_fits replies ≡ true

-- ---- the last hour: 9999-12-31 from 23:00 to the last instant

abbrev pub last_hour : Extent
last_hour = record { start = pos 253402297200000; end = last_instant }

-- the batch task `r` and the realtime task `p` run since the last instant
abbrev pub started : List Command
started = submit r TaskKinds.Batch ∷ submit p TaskKinds.Realtime ∷ Commands.Manage last_instant ∷ []

abbrev pub lock_last : Command
lock_last = Commands.Lock r LockKinds.Exclusive last_hour last_instant

abbrev pub last_id : ℕ → SegId
last_id part = id last_hour last_instant part

-- an id at the last instant, of a minute or where a chunk is visible
abbrev pub ask_last : Command
ask_last = Commands.Allocate p LockKinds.Append s None last_instant Granularities.Minute last_instant

-- at the start of the last hour
abbrev pub ask_chunk : Command
ask_chunk = Commands.Allocate p LockKinds.Append s None last_hour.start Granularities.Hour last_instant

abbrev pub last_commands : List Command
last_commands =
    lock_last ∷ insert r last_hour (last_id 0 ∷ []) ∷ Commands.Unlock r 1 ∷ show_timeline ∷ show_contents ∷ ask_chunk
    ∷ Commands.Lock r LockKinds.Exclusive day last_instant ∷ []

abbrev pub last_replies : List Reply
last_replies =
    granted 1 last_hour last_instant ∷ Replies.Insert 0 ∷ Replies.Unlock true ∷ timeline (shows last_hour last_instant (last_id 0 ∷ []) ∷ [])
    ∷ contents (has_roots last_hour (last_id 0 ∷ []) ∷ []) ∷ Replies.Allocate (last_id 1) 2 [] ∷ refuse Refusals.ClockEnd ∷ []

-- the answer to the lock names no row. The lock gets the last version; the chunk under it is shown and gives an id; the next lock gets no version
abbrev pub LastHourHasTexts : Type 0
LastHourHasTexts =
    AllKeepForm (started ++ last_commands)
    × Sound (after started)
    × Sound (after (started ++ last_commands))
    × HasSoundLocks (after started)
    × (names_rows lock_last ≡ false)
    × (answers (after started) last_commands ≡ last_replies)
    × HaveTexts (answers (after started) last_commands)

-- the minute of the last instant ends after it, and so does each longer bucket
abbrev pub LastMinuteHasNoBucket : Type 0
LastMinuteHasNoBucket =
    AllKeepForm started × Sound (after started) × HasLimitedRows (after started) × KeepsForm ask_last × (names_rows ask_last ≡ true) × (answer (after started) ask_last ≡ refuse (Refusals.NoBucket last_instant)) × (reply_fits (answer (after started) ask_last) ≡ true)

-- ---- the first hour: 0000-01-01 from 00:00 to 01:00

abbrev pub first_hour : Extent
first_hour = record { start = first_instant; end = negsuc 62167215599999 }

abbrev pub begun : List Command
begun = submit p TaskKinds.Realtime ∷ Commands.Manage first_instant ∷ []

abbrev pub ask_first : Command
ask_first = Commands.Allocate p LockKinds.Append s None first_instant Granularities.Hour first_instant

abbrev pub first_id : SegId
first_id = id first_hour (pos 0) 0

abbrev pub FirstHourHasTexts : Type 0
FirstHourHasTexts =
    AllKeepForm begun × Sound (after begun) × KeepsForm ask_first × (answer (after begun) ask_first ≡ Replies.Allocate first_id 1 []) × (reply_fits (answer (after begun) ask_first) ≡ true)

-- ---- past the end

abbrev pub too_long : Extent
too_long = record { start = last_hour.start; end = pos 253402300800000 }

-- a book with a lock up to the instant after the last
abbrev pub unsound : Book
unsound = record (after started) { posses = lock_row 1 LockKinds.Exclusive r too_long last_instant 50 ∷ [] }

-- the command keeps its form, and shows the lock
abbrev pub UnsoundHasNone : Type 0
UnsoundHasNone = KeepsForm show_locks × (Sound unsound → ⊥) × (reply_fits (answer unsound show_locks) ≡ false)

abbrev pub ask_too_long : Command
ask_too_long = Commands.ToReplace r too_long

-- the book is sound, but the command doesn't keep its form
abbrev pub PastEndHasNone : Type 0
PastEndHasNone =
    AllKeepForm started
    × Sound (after started)
    × (keeps_form ask_too_long ≡ false)
    × (answer (after started) ask_too_long ≡ refuse (Refusals.LockMissing too_long))
    × (reply_fits (answer (after started) ask_too_long) ≡ false)
