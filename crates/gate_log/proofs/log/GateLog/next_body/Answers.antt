use Rattle.std.proofs.Common.{◌+◌, ℕ, List, sym, subst, arith}
use Rattle.gate_log.specs.Log.{Mark, Describes, HasNext}
use Rattle.gate_log.specs.Reading.{HasBody}
use Rattle.gate_log.proofs.Progress.{next_read}
use Rattle.gate_log.proofs.log.GateLog.next_body.Goals as goal

pub returns-else-not-branch-clause-more : goal.returns-else-not-branch-clause-more
returns-else-not-branch-clause-more g c = λ told yes.
    let old = g.H.Host.desk c.args.host.now in
    let i = c.self.inside in
    let next = i.place + (5 + c.in-Body.size) in
    let log : Mark = record { file = i.file; generation = i.generation; snapshot_length = i.snapshot_length; place = i.place; file_length = i.file_length; limit = i.limit } in
    let body = c.read_body.new.into.items in
    let describes : Describes log (old.seen i.file) = subst (λ (m : Mark). Describes m (old.seen m.file)) (sym c.self.view_is) (c.requires.describes told) in
    let has : HasBody (old.seen i.file) i.place c.in-Body.size body = subst (λ (s : ℕ → List ℕ). HasBody (s i.file) i.place c.in-Body.size body) (c.read_head.ensures.disk told).seen (c.in_ok-read_body-in-Body.ensures.body told) in
    subst (λ (m : Mark). HasNext (old.seen m.file) m (record log { place = next }) body) c.self.view_is (next_read (old.seen i.file) log c.in-Body.size next body (omega arith) describes has)
