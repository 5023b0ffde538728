use Rattle.std.proofs.Common.{◌≡◌, ap, subst, arith}
use Rattle.gate_log.specs.Log.{Mark, HasRecord}
use Rattle.gate_log.proofs.Appending.{ends_behind}
use Rattle.gate_log.proofs.log.GateLog.append.Goals as goal

pub returns-clause-ended : goal.returns-clause-ended
returns-clause-ended g c = λ told.
    let old = g.H.Host.desk c.args.host.now in
    let new = g.H.Host.desk c.put_record.new.host in
    let log = c.args.self in
    let same : c.self.inside.place ≡ log.place = ap (λ (m : Mark). m.place) c.self.view_is in
    let has : HasRecord (old.seen log.file) log.place c.args.frame.now (new.seen log.file) = subst (λ (m : Mark). HasRecord (old.seen m.file) m.place c.args.frame.now (new.seen m.file)) c.self.view_is (c.in_ok-put_record.ensures.added told) in
    ends_behind (old.seen log.file) (new.seen log.file) c.args.frame.now log.place c.at.result.place (c.requires.ended told) has (omega (arith, c.at.ensures.place, c.size-size.ensures))
