use Rattle.std.proofs.Common.{ap, refl, rules, ◌∙◌}
use Rattle.laws_unsound.specs.Rows.{zero_unless}
use Rattle.offset_rules.proofs.Reading.{tiled_found}
use Rattle.offset_rules.proofs.tiled.tiled_row.Goals as goal

pub returns : goal.returns
returns c =
    c.zero_unless-row.ensures
    ∙ ap (λ b. zero_unless b) (tiled_found c.args.book.now.publications c.args.book.now.offsets c.args.book.now.offsets c.in_ok-marks.marks c.are_tiled-tiled.result (search rules) refl (search rules))
