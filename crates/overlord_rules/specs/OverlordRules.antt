-- The rules by which lines are answered and stored, joined out of those of lines, commands, records and replies.
use Rattle.std.specs.Prelude.{List, [], ◌∷◌, ℕ, Option, Some, None, if◌then◌else◌}
use Rattle.book_rows.specs.Answer.{answer, changes, next, empty_book}
use Rattle.book_rows.specs.Sound.{Sound}
use Rattle.book_rows.specs.declared.commands.Command.{Command}
use Rattle.book_rows.specs.declared.replies.Refusal.TheVariants.{BadCommand, LineTooLong}
use Rattle.book_rows.specs.declared.replies.Reply.{Reply}
use Rattle.book_rows.specs.declared.replies.Reply.TheVariants.{Refused}
use Rattle.book_rows.specs.declared.rows.Book.{Book}
use Rattle.cmd_codec.specs.Records.{commands_of}
use Rattle.cmd_codec.specs.Spelling.{spelling}
use Rattle.cmd_words.specs.Lines.{CommandOf}
use Rattle.reply_text.specs.Lines.{TextOf}
use Rattle.machine_run.specs.Rules.{Rules}
use Rattle.machine_run.specs.LineItems.{LineItem, short, long, size_of}

-- A line that is no command is refused as one, and leaves the book.
abbrev pub reply_by : Book → Option Command → Reply
reply_by b None = Refused BadCommand
reply_by b (Some c) = answer b c

abbrev pub book_by : Book → Option Command → Book
book_by b None = b
book_by b (Some c) = next b c

-- a command that changes the book is stored by its spelling
abbrev pub body_by : Book → Option Command → Option (List ℕ)
body_by b None = None
body_by b (Some c) = if changes b c then Some (spelling c) else None

-- the reply to a line, on this book
unfoldable pub reply_of : Book → List ℕ → List ℕ
reply_of b line = TextOf (reply_by b (CommandOf line))

-- the book after a line
unfoldable pub book_of : Book → List ℕ → Book
book_of b line = book_by b (CommandOf line)

-- the record of a line
unfoldable pub record_of : Book → List ℕ → Option (List ℕ)
record_of b line = body_by b (CommandOf line)

-- the book after commands, each of which is to change the book at its place
abbrev pub apply : Book → List Command → Option Book
apply b [] = Some b
apply b (c ∷ cs) = if changes b c then apply (next b c) cs else None

abbrev pub restore_by : Book → Option (List Command) → Option Book
restore_by b None = None
restore_by b (Some cs) = apply b cs

-- the book after a record; none where its bytes aren't commands that change the book
unfoldable pub restore_of : Book → List ℕ → Option Book
restore_of b body = restore_by b (commands_of body)

-- the reply to a line above the limit of a line
unfoldable pub reply_to_long : List ℕ
reply_to_long = TextOf (Refused LineTooLong)

-- the reply to a line, the book after it and its record, whether it is handed out or too long
abbrev pub reply_to : Book → LineItem → List ℕ
reply_to b (short line) = reply_of b line
reply_to b (long size) = reply_to_long

abbrev pub book_after : Book → LineItem → Book
book_after b (short line) = book_of b line
book_after b (long size) = b

abbrev pub record_in : Book → LineItem → Option (List ℕ)
record_in b (short line) = record_of b line
record_in b (long size) = None

-- No store turns yet: the only snapshot is that of the empty book, which has no bytes.
abbrev pub load_of : List ℕ → Option Book
load_of [] = Some empty_book
load_of (byte ∷ bytes) = None

-- The rules of the program. Good books are the sound ones, and a line counts its bytes without byte 10 in a batch.
abbrev pub overlord_rules : Rules Book LineItem
overlord_rules = record { good = Sound; first = empty_book; reply = reply_to; next = book_after; body = record_in; restore = restore_of; load = load_of; longest = 0; weigh = size_of }
