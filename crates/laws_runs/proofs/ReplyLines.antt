-- Each reply is one line, and what a run says is as many lines as it answers.
use Rattle.std.proofs.Common.{◌≡◌, ℕ, List, [], ◌∷◌, ◌++◌, length, refl, ap, ◌∙◌, append_assoc, arith}
use Rattle.std.specs.Prelude.{◌≢◌}
use Rattle.std.specs.List.{AllByRecursion}
use Rattle.std.proofs.lemmas.Bool.{ne_eqb}
use Rattle.std.proofs.lemmas.List.Elements.{recursion_from_All}
use Rattle.serde_json.specs.Written.{compact_text}
use Rattle.book_rows.specs.declared.replies.Refusal.TheVariants.{LineTooLong}
use Rattle.book_rows.specs.declared.replies.Reply.{Reply}
use Rattle.book_rows.specs.declared.replies.Reply.TheVariants.{Refused}
use Rattle.cmd_words.specs.Lines.{CommandOf}
use Rattle.input_lines.specs.Lines.{IsWithin, lines_of}
use Rattle.input_lines.proofs.LineLaws.{lines-ended, lines-none}
use Rattle.machine_run.specs.LineItems.{short, long}
use Rattle.machine_run.specs.Rules.{said_of}
use Rattle.overlord_rules.specs.OverlordRules.{overlord_rules, reply_by, reply_of, reply_to_long, book_after}
use Rattle.reply_text.specs.Lines.{IsOneLine, TextOf, data_of}
use Rattle.reply_text.proofs.OneLine.{no_line_end}
use Rattle.laws_runs.specs.RunReplies.{RepliesAreLines, SaidIsLines}

text_is_line : (reply : Reply) → IsOneLine (TextOf reply)
text_is_line reply = (compact_text (data_of reply), refl, no_line_end (data_of reply))

pub replies_are_lines : RepliesAreLines
unfolding reply_of reply_to_long
replies_are_lines b (short line) = text_is_line (reply_by b (CommandOf line))
replies_are_lines b (long size) = text_is_line (Refused LineTooLong)

within_of : (line : List ℕ) → AllByRecursion (λ x. x ≢ 10) line → IsWithin line
within_of [] h = tt
within_of (x ∷ line) h = (ne_eqb x 10 h.0, within_of line h.1)

pub said_is_lines : SaidIsLines
said_is_lines b [] = ap length lines-none
said_is_lines b (line ∷ lines) =
    let one = replies_are_lines b line in
    let rest : List ℕ = said_of overlord_rules (book_after b line) lines in
    let parts : said_of overlord_rules b (line ∷ lines) ≡ one.0 ++ 10 ∷ rest = ap (λ (reply : List ℕ). reply ++ rest) one.1 ∙ append_assoc one.0 (10 ∷ []) rest in
    let more : length (lines_of rest) ≡ length lines = said_is_lines (book_after b line) lines in
    let within = within_of one.0 (recursion_from_All (λ x. x ≢ 10) one.0 one.2) in
    let cut : lines_of (said_of overlord_rules b (line ∷ lines)) ≡ one.0 ∷ lines_of rest = ap lines_of parts ∙ lines-ended one.0 rest within in
    ap length cut ∙ omega (arith, more)
