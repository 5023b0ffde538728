-- What a run says is lines, one for each line of its input.
use Rattle.std.specs.Prelude.{◌≡◌, List, length}
use Rattle.book_rows.specs.declared.rows.Book.{Book}
use Rattle.input_lines.specs.Lines.{lines_of}
use Rattle.machine_run.specs.LineItems.{LineItem}
use Rattle.machine_run.specs.Rules.{said_of}
use Rattle.overlord_rules.specs.OverlordRules.{reply_to, overlord_rules}
use Rattle.reply_text.specs.Lines.{IsOneLine}

-- the reply to any line, on any book: byte 10 at its end, and nowhere else
abbrev pub RepliesAreLines : Type 0
RepliesAreLines = (b : Book) (line : LineItem) → IsOneLine (reply_to b line)

-- the replies to lines, one after another, are as many lines
abbrev pub SaidIsLines : Type 0
SaidIsLines = (b : Book) (lines : List LineItem) → length (lines_of (said_of overlord_rules b lines)) ≡ length lines
