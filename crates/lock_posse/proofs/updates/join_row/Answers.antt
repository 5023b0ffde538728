use Rattle.std.proofs.Common.{◌∙◌}
use Rattle.lock_posse.proofs.Results.{OnOk_then}
use Rattle.lock_posse.proofs.Updated.{first_joined}
use Rattle.lock_posse.proofs.updates.join_row.Goals as goal

pub returns-clause-ok : goal.returns-clause-ok
returns-clause-ok c =
    OnOk_then c.update_first.result c.update_first.ensures.ok
    (λ e. e ∙ first_joined c.args.number c.args.task c.in_ok-members.members c.args.rows.now c.in_ok-members.ensures c.requires)
