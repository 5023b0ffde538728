use Rattle.std.proofs.Common.{sym, ◌∙◌}
use Rattle.input_lines.proofs.Parts.{part_found, part_all}
use Rattle.input_lines.proofs.buffer.part_of.Goals as goal

pub returns-in-Some : goal.returns-in-Some
returns-in-Some c = part_found c.args.bytes.now c.in-Some.size (sym c.end_of_line.ensures ∙ c.in-Some.is)

pub returns-in-None : goal.returns-in-None
returns-in-None c = part_all c.args.bytes.now (sym c.end_of_line.ensures ∙ c.in-None.is)
