use Rattle.std.proofs.Common.{◌≡◌, ◌+◌, ℕ, List, length, take, drop, ap, arith, ◌∙◌}
use Rattle.std.proofs.lemmas.List.{take-take}
use Rattle.gate_log.proofs.Heads.{head_next, body_is}
use Rattle.gate_log.proofs.reading.read_body.Goals as goal

pub returns-clause-body : goal.returns-clause-body
returns-clause-body g c = λ told.
    let bytes = (g.H.Host.desk c.args.host.now).seen c.args.file in
    let at = c.args.place + 5 in
    let len : c.resize.new.self.len ≡ c.args.size + 1 = c.in_ok-resize.ensures.len in
    let long : length c.deref_mut.result.now ≡ c.args.size + 1 = c.deref_mut.ensures.len ∙ len in
    let frame = c.requires.frame told in
    let read = body_is bytes at (c.args.size + 1) c.in_ok-count.count c.resize.new.self.len c.deref_mut.result.now c.read_full.new.into c.resize.new.self.items (c.in_ok-count.ensures.filled told) long c.in_ok-count.ensures.count (omega (arith, frame.fits)) len in
    let body : c.truncate.new.self.items ≡ take c.args.size (drop at bytes) = c.truncate.ensures.items ∙ ap (λ (l : List ℕ). take c.args.size l) read ∙ take-take c.args.size (c.args.size + 1) (drop at bytes) (omega arith) in
    head_next bytes c.args.place c.args.size c.truncate.new.self.items frame body
