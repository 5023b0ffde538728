-- Sound books, and commands that change them, for the worked cases. `day_under_lock` is shown to be sound in `cases_rules`, and `one_supervisor` in this crate.
use Rattle.std.specs.Prelude.{◌∷◌, ◌≡◌, [], codes, true}
use Rattle.book_rows.specs.Answer.{changes, empty_book, next}
use Rattle.book_rows.specs.Form.{KeepsForm}
use Rattle.book_rows.specs.Sound.{Sound}
use Rattle.book_rows.specs.declared.commands.Command.{Command}
use Rattle.book_rows.specs.declared.rows.Book.{Book}
use Rattle.scenes.specs.Publishing.{alloc_hour, day_id, hour_id, replace_day, replace_nothing}
use Rattle.scenes.specs.Script.{append, day, now, p, r}
use Rattle.scenes.specs.Supervising.{supervise}
use Rattle.cases_rules.specs.SoundBookCases.{day_under_lock}
use Rattle.book_rows.specs.declared.commands.Command.TheVariants as Commands

-- the book is sound, and the command keeps its form and changes the book
abbrev pub ChangesSound : Book → Command → Type 0
ChangesSound b c = Sound b × KeepsForm c × (changes b c ≡ true)

-- ---- a stream's day under a replacing lock: two ids of an hour are appended, and a third is pending

-- a fourth is asked for
abbrev pub ask_fourth : Command
ask_fourth = alloc_hour p (codes "s4")

abbrev pub fourth_asked : Book
fourth_asked = next day_under_lock ask_fourth

-- the third is appended
abbrev pub append_third : Command
append_third = append p (hour_id 2 ∷ [])

abbrev pub third_appended : Book
third_appended = next day_under_lock append_third

-- the day is replaced by an id, or by a tombstone
abbrev pub day_replaced : Book
day_replaced = next day_under_lock replace_day

abbrev pub empty_day : Command
empty_day = replace_nothing r day (day_id 0)

abbrev pub day_emptied : Book
day_emptied = next day_under_lock empty_day

-- ---- one supervisor, of two groups with two replicas each

abbrev pub one_supervisor : Book
one_supervisor = next empty_book supervise

-- a sequence is opened for each group
abbrev pub both_opened : Book
both_opened = next one_supervisor (Commands.Tick now)
