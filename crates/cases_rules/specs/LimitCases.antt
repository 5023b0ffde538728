-- Limits of the tables.
use Rattle.std.specs.Prelude.{◌≡◌, List, length}
use Rattle.book_rows.specs.Answer.{answer, empty_book}
use Rattle.book_rows.specs.declared.kinds.Table.TheVariants as Tables
use Rattle.book_rows.specs.declared.replies.Refusal.TheVariants as Refusals
use Rattle.book_rows.specs.declared.replies.Reply.TheVariants as Replies
use Rattle.book_rows.specs.declared.rows.Book.{Book}
use Rattle.book_rows.specs.declared.rows.Publication.{Publication}
use Rattle.scenes.specs.Publishing.{reset_five}

-- the book with these publications alone
abbrev pub with_publications : List Publication → Book
with_publications ms = record empty_book { publications = ms }

-- after 262,143 publications one more is let through
abbrev pub LastPublication : Type 0
LastPublication = (ms : List Publication) → length ms ≡ 262143 → answer (with_publications ms) reset_five ≡ Replies.Reset 262143

-- after 262,144 none is
abbrev pub FullPublications : Type 0
FullPublications = (ms : List Publication) → length ms ≡ 262144 → answer (with_publications ms) reset_five ≡ Replies.Refused (Refusals.TableFull Tables.Publications)
