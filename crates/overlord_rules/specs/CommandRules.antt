-- The rules by which generated commands are stored: those of lines, and no reply is put out.
use Rattle.std.specs.Prelude.{None, Option, Some, [], if◌then◌else◌}
use Rattle.book_rows.specs.Answer.{empty_book}
use Rattle.book_rows.specs.Form.{keeps_form}
use Rattle.book_rows.specs.Sound.{Sound}
use Rattle.book_rows.specs.declared.commands.Command.{Command}
use Rattle.book_rows.specs.declared.rows.Book.{Book}
use Rattle.machine_run.specs.Rules.{Rules}
use Rattle.overlord_rules.specs.OverlordRules.{body_by, book_by, load_of, restore_of}

-- the command, where it keeps its form
abbrev pub checked : Command → Option Command
checked c = if keeps_form c then Some c else None

-- Books, records and stores are those of lines. A command that doesn't keep its form is passed over.
abbrev pub command_rules : Rules Book Command
command_rules = record {
  good = Sound;
  first = empty_book;
  reply = λ b c. [];
  next = λ b c. book_by b (checked c);
  body = λ b c. body_by b (checked c);
  restore = restore_of;
  load = load_of;
  longest = 0;
  weigh = λ c. 0;
}
