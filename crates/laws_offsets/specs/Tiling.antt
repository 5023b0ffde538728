-- The published ranges tile each partition up to its stored offset: what keeps it.
use Rattle.std.specs.Prelude.{◌≡◌, List, true}
use Rattle.std.specs.List.{list_all}
use Rattle.book_rows.specs.Answer.{book_after, empty_book, next}
use Rattle.book_rows.specs.Form.{KeepsForm, keeps_form}
use Rattle.book_rows.specs.Tiles.{IsTiled}
use Rattle.book_rows.specs.declared.commands.Command.{Command}
use Rattle.book_rows.specs.declared.rows.Book.{Book}

-- the published ranges of a book tile each partition up to its stored offset
abbrev pub Tiles : Book → Type 0
Tiles b = IsTiled b.publications b.offsets

abbrev pub EmptyBookTiles : Type 0
EmptyBookTiles = Tiles empty_book

-- of any command in any book that tiles; no other rule is needed
abbrev pub TilesStay : Type 0
TilesStay = (b : Book) (c : Command) → KeepsForm c → Tiles b → Tiles (next b c)

-- the book that any commands that keep their form lead to from the empty one
abbrev pub ReachedBooksTile : Type 0
ReachedBooksTile = (cs : List Command) → list_all keeps_form cs ≡ true → Tiles (book_after empty_book cs)
