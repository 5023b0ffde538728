-- Any commands keep valid locks compatible.
use Rattle.std.specs.Prelude.{◌≡◌, ◌≢◌, List, Some, false, true, ℕ}
use Rattle.book_rows.specs.Answer.{book_after, empty_book, next}
use Rattle.book_rows.specs.Lists.{at_place}
use Rattle.book_rows.specs.Locks.{compatible}
use Rattle.book_rows.specs.Rules.{AreCompatible}
use Rattle.book_rows.specs.declared.commands.Command.{Command}
use Rattle.book_rows.specs.declared.rows.Book.{Book}
use Rattle.book_rows.specs.declared.rows.PosseRow.{PosseRow}

abbrev pub IsCompatible : Book → Type 0
IsCompatible b = AreCompatible b.posses

-- of any command whatever, in any book whatever
abbrev pub CompatibleStays : Type 0
CompatibleStays = (b : Book) (c : Command) → IsCompatible b → IsCompatible (next b c)

-- any two locks of a book that any commands reach, where neither is revoked
abbrev pub ValidLocksAreCompatible : Type 0
ValidLocksAreCompatible = (cs : List Command) (i j : ℕ) (p q : PosseRow) → at_place i (book_after empty_book cs).posses ≡ Some p → at_place j (book_after empty_book cs).posses ≡ Some q
    → i ≢ j → p.revoked ≡ false → q.revoked ≡ false → compatible p q ≡ true
