use Rattle.std.proofs.Common.{◌≡◌, ◌≤◌, ◌+◌, ℕ, List, length, take, drop, rules, arith, ap, sym, ◌∙◌}
use Rattle.std.proofs.lemmas.List.{length-take-le, length-drop}
use Rattle.std.specs.Int.{w64}
use Rattle.wire_fields.specs.Fields.{number_at}
use Rattle.gate_log.specs.Numbers.{number_64}
use Rattle.gate_log.proofs.NumberBytes.{number_found}
use Rattle.gate_log.proofs.numbers.u64_at.Goals as goal

pub returns : goal.returns
unfolding number_64
returns c =
    let piece : List ℕ = take 8 (drop c.args.at c.args.bytes.now) in
    let there : c.args.at + 8 ≤ length c.args.bytes.now = c.requires in
    let whole : length piece ≡ 8 = length-take-le 8 (drop c.args.at c.args.bytes.now) (omega (arith, length-drop c.args.at c.args.bytes.now, there)) in
    let rest : c.new-field.result.rest ≡ piece = search rules in
    number_found w64 piece whole c.in-Ok.number c.u64.new.self.rest (ap (number_at w64) (sym rest) ∙ c.in-Ok.ensures.0)
