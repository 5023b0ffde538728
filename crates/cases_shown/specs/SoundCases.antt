-- Worked cases of the laws on a day of commands: in each what a law asks for is there, and what it says is seen.
use Rattle.std.specs.Prelude.{◌++◌, ◌∷◌, ◌≡◌, Bool, List, None, [], codes, false, length, true, ℕ, ℤ}
use Rattle.iv_span.specs.Extent.{has}
use Rattle.seg_names.specs.declared.seg_id.SegId.{SegId}
use Rattle.book_rows.specs.Answer.{answer, changes, next, reached}
use Rattle.book_rows.specs.Carried.{to_replace}
use Rattle.book_rows.specs.Contents.{alive, in_contents}
use Rattle.book_rows.specs.Form.{AllKeepForm, KeepsForm}
use Rattle.book_rows.specs.Lists.{In}
use Rattle.book_rows.specs.Live.{IsValid, is_covered}
use Rattle.book_rows.specs.Rules.{upgraded}
use Rattle.book_rows.specs.Shape.{all_adds}
use Rattle.book_rows.specs.Shown.{contents_of, timeline_of}
use Rattle.book_rows.specs.Sound.{Sound}
use Rattle.book_rows.specs.Visible.{shown}
use Rattle.book_rows.specs.declared.commands.Command.{Command}
use Rattle.book_rows.specs.declared.commands.Command.TheVariants as Commands
use Rattle.book_rows.specs.declared.replies.Reply.TheVariants as Replies
use Rattle.book_rows.specs.declared.replies.TimelinePart.{TimelinePart}
use Rattle.book_rows.specs.declared.rows.Book.{Book}
use Rattle.laws_shown.specs.Appended.{IsDoneThen}
use Rattle.laws_shown.specs.Asking.{MayAsk}
use Rattle.laws_shown.specs.Carrying.{IsToRead}
use Rattle.laws_shown.specs.History.{IsKept}
use Rattle.laws_shown.specs.Printed.{DoesShow}
use Rattle.laws_shown.specs.Waiting.{IsHeldOn}
use Rattle.laws_sound.specs.Reached.{behind_append}
use Rattle.scenes.specs.Script.{minutes, day, hour, morning, now, p, r, rest_of_day, w}
use Rattle.cases_shown.specs.SoundScene.{alloc, append, appended, ask, lock_day, replaced, replacement, started, under_lock}
use Rattle.scenes.specs.Publishing.{day_id, hour_id, replace_day}
use Rattle.scenes.specs.Rows.{hour_pending, p_lock, r_lock}

-- ---- soundness

-- the replacement keeps its form and changes a sound book, and the book after it is sound
abbrev pub SoundDay : Type 0
SoundDay =
    AllKeepForm replaced
    × Sound (reached under_lock)
    × KeepsForm replace_day
    × (changes (reached under_lock) replace_day ≡ true)
    × Sound (next (reached under_lock) replace_day)
    × Sound (reached replaced)

-- ---- what is shown and printed

-- the root is one of the contents or not, and is counted and shown so often
abbrev pub IsShownAt : ℤ → SegId → Bool → ℕ → Type 0
IsShownAt t root there n =
    (in_contents (reached replaced).publications w t root ≡ there) × (alive (λ k. true) (reached replaced).publications w t root ≡ n) × (shown (reached replaced).segments w t root ≡ n)

-- the first append was taken away, and the second is shown in its hour
abbrev pub ShownDay : Type 0
ShownDay =
    AllKeepForm replaced
    × IsShownAt (minutes 310) (hour_id 0) false 0
    × IsShownAt (minutes 310) (hour_id 1) true 1
    × IsShownAt (minutes 360) (hour_id 1) false 0
    × IsShownAt (minutes 310) (day_id 0) true 1
    × IsShownAt (minutes 360) (day_id 0) true 1

abbrev pub day_part : TimelinePart
day_part = record { span = day; version = now; ids = day_id 0 ∷ day_id 1 ∷ [] }

-- one part of the timeline, which shows the second append by its copy, and three of the contents, of which that of the hour lists it
abbrev pub PrintedDay : Type 0
PrintedDay =
    AllKeepForm replaced
    × (timeline_of (reached replaced).segments w ≡ day_part ∷ [])
    × DoesShow (reached replaced).segments day_part (minutes 310) (hour_id 1)
    × (contents_of (reached replaced).segments w ≡ record { span = morning; roots = day_id 0 ∷ [] } ∷ record { span = hour; roots = day_id 0 ∷ hour_id 1 ∷ [] } ∷ record { span = rest_of_day; roots = day_id 0 ∷ [] } ∷ [])
    × (in_contents (reached replaced).publications w (minutes 310) (hour_id 1) ≡ true)

-- ---- what a replacement reads and carries

-- asked of the hour, it is answered for the day that it locked: what was appended before the lock, and not what came since
abbrev pub AskedDay : Type 0
AskedDay =
    AllKeepForm under_lock
    × MayAsk (reached under_lock) r hour r_lock
    × (answer (reached under_lock) ask ≡ Replies.ToReplace (hour_id 0 ∷ []))
    × (to_replace (reached under_lock).segments (reached under_lock).publications r_lock ≡ hour_id 0 ∷ [])
    × IsToRead (reached under_lock).publications r_lock (hour_id 0)
    × (IsToRead (reached under_lock).publications r_lock (hour_id 1) → ⊥)
    × ((reached under_lock).posses ≡ p_lock ∷ r_lock ∷ [])

-- the contents of the hour are split: the first append is read, and an upgrade row has the second
abbrev pub SplitDay : Type 0
SplitDay =
    AllKeepForm under_lock
    × IsValid (reached under_lock).posses r_lock
    × (has day (minutes 310) ≡ true)
    × (is_covered (reached under_lock).chunks r_lock (minutes 310) ≡ false)
    × (in_contents (reached under_lock).publications w (minutes 310) (hour_id 0) ≡ true)
    × (in_contents (reached under_lock).publications w (minutes 310) (hour_id 1) ≡ true)
    × (to_replace (reached under_lock).segments (reached under_lock).publications r_lock ≡ hour_id 0 ∷ [])
    × (upgraded (reached under_lock).upgrades 2 (minutes 310) (hour_id 0) ≡ 0)
    × (upgraded (reached under_lock).upgrades 2 (minutes 310) (hour_id 1) ≡ 1)

-- ---- from the allocation to what is shown

-- an id is allocated, and the day is locked
abbrev pub allocated : List Command
allocated = started ++ alloc (codes "s") ∷ []

abbrev pub locked : List Command
locked = started ++ alloc (codes "s") ∷ lock_day ∷ []

-- its lock is valid, it isn't added yet, and so its pending waits; not so where the lock has ended, or it was appended
abbrev pub PendingWaits : Type 0
PendingWaits =
    AllKeepForm locked
    × In hour_pending (reached allocated).pendings
    × IsHeldOn (reached allocated) (lock_day ∷ []) hour_pending
    × In hour_pending (reached locked).pendings
    × ((next (reached allocated) (Commands.Unlock p 1)).pendings ≡ [])
    × ((next (reached allocated) (Commands.Unlock p 1)).posses ≡ [])
    × ((next (reached allocated) (append 0)).pendings ≡ [])
    × (all_adds (next (reached allocated) (append 0)).publications ≡ hour_id 0 ∷ [])

-- the first append, and the book after a second one
abbrev pub appended_twice : Book
appended_twice = behind_append allocated p (hour_id 0 ∷ []) None (alloc (codes "s2") ∷ append 1 ∷ [])

-- after a second append the first one is kept and shown once at an instant of its hour; the replacement takes it away
abbrev pub ShownAfterAppend : Type 0
ShownAfterAppend =
    AllKeepForm allocated
    × AllKeepForm (append 0 ∷ alloc (codes "s2") ∷ append 1 ∷ [])
    × IsDoneThen (reached allocated) (append 0) (alloc (codes "s2") ∷ append 1 ∷ [])
    × (has hour (minutes 310) ≡ true)
    × (length (reached allocated).publications ≡ 0)
    × (appended_twice.publications ≡ appended 0 ∷ appended 1 ∷ [])
    × IsKept appended_twice.publications w (minutes 310) 0
    × (shown appended_twice.segments w (minutes 310) (hour_id 0) ≡ 1)
    × (shown appended_twice.segments w (minutes 360) (hour_id 0) ≡ 0)
    × ((reached replaced).publications ≡ appended 0 ∷ appended 1 ∷ replacement ∷ [])
    × (IsKept (reached replaced).publications w (minutes 310) 0 → ⊥)
    × (shown (reached replaced).segments w (minutes 310) (hour_id 0) ≡ 0)
