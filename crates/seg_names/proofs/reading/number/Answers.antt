use Rattle.std.proofs.Common.{Some, None, sym, ◌∙◌}
use Rattle.std.proofs.lemmas.Bool.{cond-true, cond-false}
use Rattle.seg_names.proofs.Numbers.{number_by}
use Rattle.seg_names.proofs.reading.number.Goals as goal

pub returns-then-is_part_number : goal.returns-then-is_part_number
returns-then-is_part_number c =
    let n = c.in-Some.number in
    sym (number_by c.args.digits.now (Some n) c.in-Some.ensures ∙ cond-true _ (Some n) None (sym c.is_part_number.ensures ∙ c.if-is_part_number.true))

pub returns-else-is_part_number : goal.returns-else-is_part_number
returns-else-is_part_number c =
    let n = c.in-Some.number in
    sym (number_by c.args.digits.now (Some n) c.in-Some.ensures ∙ cond-false _ (Some n) None (sym c.is_part_number.ensures ∙ c.if-is_part_number.false))

pub returns-in-None : goal.returns-in-None
returns-in-None c = sym (number_by c.args.digits.now None c.in-None.ensures)
