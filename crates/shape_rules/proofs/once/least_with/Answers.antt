use Rattle.std.proofs.Common.{ap, min, ◌∙◌}
use Rattle.std.specs.Option.{option_map}
use Rattle.seg_names.specs.Ids.{same_id}
use Rattle.laws_unsound.specs.Rows.{least_with}
use Rattle.shape_rules.proofs.Repeated.{least_is}
use Rattle.shape_rules.proofs.once.least_with.Goals as goal

pub returns : goal.returns
returns c =
    c.lower_row.ensures
    ∙ (ap (λ o. option_map (λ e. min c.entry.inside.row e.row) o) c.least.ensures
    ∙ (least_is same_id (record { row = c.entry.inside.row; item = c.entry.inside.id.now }) c.args.others.now ∙ ap (λ x. least_with same_id x c.args.others.now) c.entry.view_is))
