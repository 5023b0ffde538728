use Rattle.std.proofs.Common.{Some, None, sym, ◌∙◌}
use Rattle.std.proofs.lemmas.Bool.{cond-true, cond-false}
use Rattle.program_words.proofs.Digits.{number_by}
use Rattle.program_words.proofs.numbers.read_number.Goals as goal

pub returns-then-is_written : goal.returns-then-is_written
returns-then-is_written c =
    let n = c.in-Some.number in
    sym (number_by c.args.word.now (Some n) c.in-Some.ensures ∙ cond-true _ (Some n) None (sym c.is_written.ensures ∙ c.if-is_written.true))

pub returns-else-is_written : goal.returns-else-is_written
returns-else-is_written c =
    let n = c.in-Some.number in
    sym (number_by c.args.word.now (Some n) c.in-Some.ensures ∙ cond-false _ (Some n) None (sym c.is_written.ensures ∙ c.if-is_written.false))

pub returns-in-None : goal.returns-in-None
returns-in-None c = sym (number_by c.args.word.now None c.in-None.ensures)
