use Rattle.machine_run.specs.Opening.{IsOpened}
use Rattle.machine_run.proofs.Untouched.{untouched_then, still_bad}
use Rattle.machine_run.proofs.OldStore.{if_ok, opened_before}
use Rattle.machine_run.proofs.opening.open_store.Goals as goal

pub returns-clause-store : goal.returns-clause-store
returns-clause-store g c = λ told.
    let m = g.M.Machine.rules in
    let a = g.H.Host.desk c.args.host.now in
    let b = g.H.Host.desk c.sync_pair.new.host in
    let d = g.H.Host.desk c.open_settled.new.host in
    if_ok (IsOpened m b d c.open_settled.new.machine) (IsOpened m a d c.open_settled.new.machine) c.open_settled.result (λ log is opened. opened_before m a b d (c.sync_pair.ensures.seen told) (c.sync_pair.ensures.said told) c.open_settled.new.machine log opened) (c.open_settled.ensures.store told)

pub returns-in_err-sync_pair-clause-foreign : goal.returns-in_err-sync_pair-clause-foreign
returns-in_err-sync_pair-clause-foreign g c = λ told file at bad.
    record { since = c.sync_pair.ensures.any_moment told; seen = c.sync_pair.ensures.seen told; said = c.sync_pair.ensures.said told }

pub returns-clause-foreign : goal.returns-clause-foreign
returns-clause-foreign g c = λ told file at bad.
    let a = g.H.Host.desk c.args.host.now in
    let b = g.H.Host.desk c.sync_pair.new.host in
    untouched_then a b (g.H.Host.desk c.open_settled.new.host)
    (record { since = c.sync_pair.ensures.any_moment told; seen = c.sync_pair.ensures.seen told; said = c.sync_pair.ensures.said told })
    (c.open_settled.ensures.foreign told file at (still_bad g.M.Machine.rules a b file at (c.sync_pair.ensures.seen told) bad))
