-- Worked cases: an id from its allocation on, and one whose lock has ended.
use Rattle.std.specs.Prelude.{◌++◌, ◌∷◌, ◌≡◌, None, [], codes, true}
use Rattle.book_rows.specs.Answer.{answer, changes, next, reached}
use Rattle.book_rows.specs.Sound.{Sound}
use Rattle.book_rows.specs.Visible.{shown}
use Rattle.book_rows.specs.declared.commands.Command.TheVariants as Commands
use Rattle.book_rows.specs.declared.replies.Refusal.TheVariants as Refusals
use Rattle.book_rows.specs.declared.replies.Reply.TheVariants as Replies
use Rattle.laws_shown.specs.Appended.{IsRootPending}
use Rattle.laws_ids.specs.Allocated.{IsAllocated, IsHeld}
use Rattle.book_rows.specs.Form.{AllKeepForm}
use Rattle.cases_shown.specs.SoundScene.{alloc, append, started}
use Rattle.scenes.specs.Script.{minutes, p, w}
use Rattle.scenes.specs.Publishing.{hour_id}
use Rattle.cases_shown.specs.SoundCases.{locked}

-- a member of its lock may append it, and an append with another id is refused for that one; once appended it is shown
abbrev pub AllocatedDay : Type 0
AllocatedDay =
    Sound (reached started)
    × AllKeepForm locked
    × IsAllocated (reached started) (alloc (codes "s")) (hour_id 0) 1
    × IsHeld (reached locked) (hour_id 0) 1
    × Sound (reached locked)
    × IsRootPending (reached locked) (hour_id 0) 1
    × (answer (reached locked) (append 0) ≡ Replies.Append 0)
    × (answer (reached locked) (Commands.Append p (hour_id 0 ∷ hour_id 5 ∷ []) None) ≡ Replies.Refused (Refusals.NotAllocated (hour_id 5)))
    × (changes (reached locked) (append 0) ≡ true)
    × (shown (next (reached locked) (append 0)).segments w (minutes 310) (hour_id 0) ≡ 1)

-- where its lock has ended meanwhile, it is refused as not allocated
abbrev pub LostDay : Type 0
LostDay =
    AllKeepForm (started ++ alloc (codes "s") ∷ Commands.Unlock p 1 ∷ [])
    × ((reached (started ++ alloc (codes "s") ∷ Commands.Unlock p 1 ∷ [])).posses ≡ [])
    × (answer (reached (started ++ alloc (codes "s") ∷ Commands.Unlock p 1 ∷ [])) (append 0) ≡ Replies.Refused (Refusals.NotAllocated (hour_id 0)))
