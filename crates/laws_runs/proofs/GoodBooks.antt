-- Lines, records and snapshots lead to sound books.
use Rattle.std.proofs.Common.{◌≡◌, ◌∷◌, List, None, Option, Some, [], refl, subst, true, ℕ}
use Rattle.book_rows.specs.Answer.{empty_book}
use Rattle.book_rows.specs.Form.{keeps_form}
use Rattle.book_rows.specs.Sound.{Sound}
use Rattle.book_rows.specs.declared.commands.Command.{Command}
use Rattle.book_rows.specs.declared.rows.Book.{Book}
use Rattle.book_rows.proofs.EmptySound.{empty_is_sound}
use Rattle.cmd_words.specs.Lines.{CommandOf}
use Rattle.machine_run.specs.LineItems.{LineItem, short, long}
use Rattle.machine_run.specs.Rules.{HasGoodStates}
use Rattle.overlord_rules.specs.CommandRules.{checked, command_rules}
use Rattle.overlord_rules.specs.OverlordRules.{book_after, book_by, book_of, load_of, overlord_rules}
use Rattle.overlord_rules.proofs.RecordLaws.{checked_form, line_form}
use Rattle.laws_sound.proofs.Joined.{every_command_keeps_sound}
use Rattle.laws_runs.proofs.FormedRecords.{restored_sound}

book_sound : (b : Book) (o : Option Command) → ((c : Command) → o ≡ Some c → keeps_form c ≡ true) → Sound b → Sound (book_by b o)
book_sound b None form s = s
book_sound b (Some c) form s = every_command_keeps_sound c b (form c refl) s

command_sound : (b : Book) (line : List ℕ) → Sound b → Sound (book_of b line)
unfolding book_of
command_sound b line s = book_sound b (CommandOf line) (line_form line) s

line_sound : (b : Book) (line : LineItem) → Sound b → Sound (book_after b line)
line_sound b (short line) s = command_sound b line s
line_sound b (long size) s = s

-- the only snapshot is that of the empty book
loaded_sound : (snapshot : List ℕ) (b : Book) → load_of snapshot ≡ Some b → Sound b
loaded_sound [] b e = let same : empty_book ≡ b = cc in subst Sound same empty_is_sound
loaded_sound (byte ∷ bytes) b e = absurd (cc)

pub good_books : HasGoodStates overlord_rules
good_books = record {
  first_good = empty_is_sound;
  next_good = line_sound;
  load_good = loaded_sound;
  restore_good = restored_sound;
}

-- ---- of commands

pub good_command_books : HasGoodStates command_rules
good_command_books = record {
  first_good = empty_is_sound;
  next_good = λ b c s. book_sound b (checked c) (checked_form c) s;
  load_good = loaded_sound;
  restore_good = restored_sound;
}
