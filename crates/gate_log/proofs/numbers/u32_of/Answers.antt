use Rattle.std.proofs.Common.{◌≡◌, length, rules, ap, sym, ◌∙◌}
use Rattle.std.specs.Int.{w32}
use Rattle.wire_fields.specs.Fields.{number_at}
use Rattle.gate_log.specs.Numbers.{number_32}
use Rattle.gate_log.proofs.NumberBytes.{number_found}
use Rattle.gate_log.proofs.numbers.u32_of.Goals as goal

pub returns : goal.returns
unfolding number_32
returns c =
    let whole : length c.args.bytes ≡ 4 = search rules in
    number_found w32 c.args.bytes whole c.in-Ok.number c.u32.new.self.rest (ap (number_at w32) (sym c.new-field.ensures.rest) ∙ c.in-Ok.ensures.0)
