use Rattle.std.proofs.Common.{◌≡◌, IsTrue}
use Rattle.gate_log.specs.Format.{corrupt, opening_of}
use Rattle.machine_run.proofs.Untouched.{untouched_stays, untouched_then, still_bad}
use Rattle.machine_run.proofs.OldStore.{store_corrupt}
use Rattle.machine_run.specs.Opening.{IsOpened}
use Rattle.machine_run.proofs.OldStore.{if_ok, opened_before}
use Rattle.machine_run.proofs.opening.open_settled.Goals as goal

pub returns-in-Err-Corrupt-clause-stop : goal.returns-in-Err-Corrupt-clause-stop
returns-in-Err-Corrupt-clause-stop g c = λ told.
    let a = g.H.Host.desk c.args.host.now in
    let fault : IsTrue g.H.Host.tells → opening_of (a.seen 0) ≡ corrupt c.in-Err-Corrupt.at = rw c.in-Err-Corrupt.field-0-is at c.in-Err-Corrupt.ensures.fault in
    (store_corrupt g.M.Machine.rules (a.seen 0) (a.seen 1) c.in-Err-Corrupt.at (fault told), (c.open_log.ensures.disk told).seen)

pub returns-in-Err-Corrupt-clause-foreign : goal.returns-in-Err-Corrupt-clause-foreign
returns-in-Err-Corrupt-clause-foreign g c = λ told file at bad.
    untouched_stays (g.H.Host.desk c.args.host.now) (g.H.Host.desk c.open_log.new.host) (λ t s f le is. g.met.H.Host.counts_now told c.args.host.now t s f le is) (c.open_log.ensures.disk told)

pub returns-in-Err-Failed-clause-foreign : goal.returns-in-Err-Failed-clause-foreign
returns-in-Err-Failed-clause-foreign g c = λ told file at bad.
    untouched_stays (g.H.Host.desk c.args.host.now) (g.H.Host.desk c.open_log.new.host) (λ t s f le is. g.met.H.Host.counts_now told c.args.host.now t s f le is) (c.open_log.ensures.disk told)

pub returns-in-Ok-clause-foreign : goal.returns-in-Ok-clause-foreign
returns-in-Ok-clause-foreign g c = λ told file at bad.
    let a = g.H.Host.desk c.args.host.now in
    let b = g.H.Host.desk c.open_log.new.host in
    let d = g.H.Host.desk c.open_old.new.host in
    untouched_then a b d
    (untouched_stays a b (λ t s f le is. g.met.H.Host.counts_now told c.args.host.now t s f le is) (c.open_log.ensures.disk told))
    (untouched_stays b d (λ t s f le is. g.met.H.Host.counts_now told c.open_log.new.host t s f le is) (c.open_old.ensures.disk told))

pub returns-in-Err-Absent-clause-foreign : goal.returns-in-Err-Absent-clause-foreign
returns-in-Err-Absent-clause-foreign g c = λ told file at bad.
    let a = g.H.Host.desk c.args.host.now in
    let b = g.H.Host.desk c.open_log.new.host in
    let d = g.H.Host.desk c.open_new.new.host in
    untouched_then a b d
    (untouched_stays a b (λ t s f le is. g.met.H.Host.counts_now told c.args.host.now t s f le is) (c.open_log.ensures.disk told))
    (c.open_new.ensures.foreign told file at (still_bad g.M.Machine.rules a b file at (c.open_log.ensures.disk told).seen bad))

pub returns-in-Ok-clause-store : goal.returns-in-Ok-clause-store
returns-in-Ok-clause-store g c = λ told.
    let m = g.M.Machine.rules in
    let a = g.H.Host.desk c.args.host.now in
    let b = g.H.Host.desk c.open_log.new.host in
    let d = g.H.Host.desk c.open_old.new.host in
    let stays = c.open_log.ensures.disk told in
    if_ok (IsOpened m b d c.open_old.new.machine) (IsOpened m a d c.open_old.new.machine) c.open_old.result (λ log is opened. opened_before m a b d stays.seen stays.said c.open_old.new.machine log opened) (c.open_old.ensures.store told)

pub returns-in-Err-Absent-clause-store : goal.returns-in-Err-Absent-clause-store
returns-in-Err-Absent-clause-store g c = λ told.
    let m = g.M.Machine.rules in
    let a = g.H.Host.desk c.args.host.now in
    let b = g.H.Host.desk c.open_log.new.host in
    let d = g.H.Host.desk c.open_new.new.host in
    let stays = c.open_log.ensures.disk told in
    if_ok (IsOpened m b d c.args.machine.now) (IsOpened m a d c.args.machine.now) c.open_new.result (λ log is opened. opened_before m a b d stays.seen stays.said c.args.machine.now log opened) (c.open_new.ensures.store told)
