-- The book that a core holds.
use Rattle.std.specs.Prelude.{Option, Some, None}
use Rattle.book_rows.specs.Answer.{empty_book}
use Rattle.book_rows.specs.declared.rows.Book.{Book}

-- the empty book stands for none: a core without a book answers no command
abbrev pub book_in : Option Book → Book
book_in None = empty_book
book_in (Some b) = b
