use Rattle.std.proofs.Common.{ap, subst, ◌∙◌}
use Rattle.std.specs.Bool.{Decides}
use Rattle.laws_unsound.specs.Rows.{zero_unless}
use Rattle.shown_rules.specs.History.{all_publication_stages}
use Rattle.shown_rules.specs.Stages.{StayAlike}
use Rattle.shown_rules.proofs.Deciding.{shown_same}
use Rattle.shown_rules.proofs.shown.shown_row.Goals as goal

pub returns : goal.returns
returns c =
    c.zero_unless.ensures
    ∙ ap zero_unless (shown_same c.args.segments.now c.args.publications.now c.in_ok-stay_alike.field-0
    (subst (λ xs. Decides c.in_ok-stay_alike.field-0 (StayAlike xs (all_publication_stages 0 c.args.publications.now))) c.in_ok-shown.ensures (subst (λ ys. Decides c.in_ok-stay_alike.field-0 (StayAlike c.in_ok-shown.shown.items ys)) c.in_ok-put.ensures c.in_ok-stay_alike.ensures)))
