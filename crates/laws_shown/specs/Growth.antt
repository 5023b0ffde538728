-- Publications are never changed or removed: a command adds some at most.
use Rattle.std.specs.Prelude.{◌++◌, ◌≡◌, List}
use Rattle.book_rows.specs.Answer.{book_after, next}
use Rattle.book_rows.specs.declared.commands.Command.{Command}
use Rattle.book_rows.specs.declared.rows.Book.{Book}
use Rattle.book_rows.specs.declared.rows.Publication.{Publication}

-- the later list is the earlier one and then more
abbrev pub GoesOn : List Publication → List Publication → Type 0
GoesOn ms later = (more : List Publication) × (later ≡ ms ++ more)

abbrev pub PublicationsGoOn : Type 0
PublicationsGoOn = (b : Book) (c : Command) → GoesOn b.publications (next b c).publications

-- over any list of commands
abbrev pub PublicationsStay : Type 0
PublicationsStay = (b : Book) (cs : List Command) → GoesOn b.publications (book_after b cs).publications
