use Rattle.std.proofs.Common.{Option, ap, find, not, sym, ◌∙◌}
use Rattle.std.specs.Option.{option_copied}
use Rattle.seg_names.specs.declared.seg_id.SegId.{SegId}
use Rattle.publish_core.specs.Both.{earlier}
use Rattle.publish_core.proofs.FirstOfBoth.{find_in_both}
use Rattle.publish_core.proofs.lists.first_of_both.Goals as goal

pub returns : goal.returns
returns g c =
    c.earlier.ensures
    ∙ (
    ap (λ (o : Option SegId). earlier o (option_copied c.first_failing-2.result)) c.first_failing.ensures
    ∙ (
    ap (λ (o : Option SegId). earlier (find (λ a. not (g.T.IdTest.passes c.args.test.now a)) c.args.ids.now) o) c.first_failing-2.ensures
    ∙ sym (find_in_both (λ a. not (g.T.IdTest.passes c.args.test.now a)) c.args.ids.now c.args.tombstones.now c.requires.ids c.requires.tombstones)
    )
    )
