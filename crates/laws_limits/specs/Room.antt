-- Room in the tables.
use Rattle.std.specs.Prelude.{◌≡◌, List, None, false, true}
use Rattle.std.specs.List.{list_all}
use Rattle.book_rows.specs.Answer.{book_after, empty_book, next}
use Rattle.book_rows.specs.Form.{KeepsForm, keeps_form}
use Rattle.book_rows.specs.Outcome.{all_tables, is_full, no_room}
use Rattle.book_rows.specs.declared.commands.Command.{Command}
use Rattle.book_rows.specs.declared.kinds.Table.{Table}
use Rattle.book_rows.specs.declared.rows.Book.{Book}

-- a table that isn't too full in the one book isn't in the other
abbrev pub AreNoFuller : Book → Book → Type 0
AreNoFuller b after = (table : Table) → is_full table b ≡ false → is_full table after ≡ false

-- whatever the command, each table by itself: where it isn't too full before, it isn't after
abbrev pub TablesStayInRoom : Type 0
TablesStayInRoom = (b : Book) (c : Command) → KeepsForm c → AreNoFuller b (next b c)

-- so a book with room in all tables leads to one
abbrev pub RoomStays : Type 0
RoomStays = (b : Book) (c : Command) → KeepsForm c → no_room all_tables b ≡ None → no_room all_tables (next b c) ≡ None

-- and each book has that any commands that keep their form lead to from the one without rows
abbrev pub ReachedHaveRoom : Type 0
ReachedHaveRoom = (cs : List Command) → list_all keeps_form cs ≡ true → no_room all_tables (book_after empty_book cs) ≡ None
