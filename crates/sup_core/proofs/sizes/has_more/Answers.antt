use Rattle.std.proofs.Common.{◌∙◌, ap, ℕ}
use Rattle.std.specs.List.{list_any}
use Rattle.tab_sequences.specs.Finding.{is_at_index}
use Rattle.sup_core.proofs.GroupSizes.{is_below}
use Rattle.sup_core.proofs.sizes.has_more.Goals as goal

pub returns : goal.returns
returns c =
    c.has.ensures
    ∙ (
    ap (λ (n : ℕ). list_any (is_at_index c.args.source.now c.args.group n) c.args.sequences.now) c.from.ensures
    ∙ is_below c.args.source.now c.args.group c.args.size c.args.sequences.now c.requires
    )
