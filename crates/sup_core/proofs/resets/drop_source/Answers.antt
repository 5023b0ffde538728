use Rattle.std.proofs.Common.{◌∙◌, List, ap, ℕ}
use Rattle.sup_core.specs.ByNames.{abandoned_each}
use Rattle.sup_core.proofs.Listed.{dropped_each}
use Rattle.sup_core.proofs.resets.drop_source.Goals as goal

pub returns-clause-rows : goal.returns-clause-rows
returns-clause-rows c =
    c.abandon_each.ensures
    ∙ (
    ap (λ (ns : List (List ℕ)). abandoned_each ns c.args.sequences.now) (c.as_slice.ensures.value ∙ c.in_ok-names.ensures.names)
    ∙ dropped_each c.args.source.now c.args.sequences.now c.requires
    )
