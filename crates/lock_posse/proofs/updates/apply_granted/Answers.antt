use Rattle.std.proofs.Common.{refl}
use Rattle.lock_posse.proofs.Results.{OnOk_then}
use Rattle.lock_posse.proofs.Updated.{updates_granted}
use Rattle.lock_posse.proofs.updates.apply_granted.Goals as goal

pub returns-clause-ok : goal.returns-clause-ok
returns-clause-ok c =
    OnOk_then c.apply.result c.apply.ensures.ok
    (λ e. rw (e, c.in_ok-updates.ensures, c.in_ok-made.ensures, c.in_ok-twin.ensures, updates_granted c.args.rows.now c.args.granted.now.joins c.args.task.now c.args.granted.now.revoked c.requires) refl)
