-- Every command keeps a book sound.
use Rattle.std.specs.Prelude.{◌≡◌, List, true}
use Rattle.std.specs.List.{list_all}
use Rattle.book_rows.specs.Answer.{book_after, empty_book}
use Rattle.book_rows.specs.Form.{keeps_form}
use Rattle.book_rows.specs.Sound.{KeepsSound, Sound}
use Rattle.book_rows.specs.declared.commands.Command.{Command}

-- whichever the command
abbrev pub EveryCommandKeepsSound : Type 0
EveryCommandKeepsSound = (c : Command) → KeepsSound c

-- so from the empty book on, after any list of commands that keep their form
abbrev pub ReachedBooksAreSound : Type 0
ReachedBooksAreSound = (cs : List Command) → list_all keeps_form cs ≡ true → Sound (book_after empty_book cs)
