-- A load of commands: which of them are refused, and the line about all of them.
use Rattle.std.specs.Prelude.{Bool, List, false, length, true, ℕ}
use Rattle.book_rows.specs.Answer.{answer}
use Rattle.book_rows.specs.declared.commands.Command.{Command}
use Rattle.book_rows.specs.declared.replies.Reply.{Reply}
use Rattle.book_rows.specs.declared.replies.Reply.TheVariants.{Refused}
use Rattle.book_rows.specs.declared.rows.Book.{Book}
use Rattle.load_gen.specs.Summary.{summary_text}
use Rattle.load_run.specs.Loads.{Loading, loading}
use Rattle.load_run.specs.declared.tally.Tally.{Tally}
use Rattle.overlord_rules.specs.CommandRules.{command_rules}
use Rattle.overlord_run.specs.Visible.{visible_in}

abbrev pub is_refusal : Reply → Bool
is_refusal (Refused why) = true
is_refusal _ = false

-- the line about a load, on the book behind it
abbrev pub text_of_load : Book → Tally → List ℕ
text_of_load b t = summary_text (record { commits = length b.publications; done = t.done; refused = t.refused; visible = visible_in b })

abbrev pub command_load : Loading Book Command
command_load = loading command_rules (λ b c. is_refusal (answer b c)) text_of_load
