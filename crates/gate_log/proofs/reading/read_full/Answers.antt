use Rattle.std.proofs.Common.{◌+◌, ◌-◌, ◌++◌, ℕ, List, arith, rules, length, take, drop, ap, ◌∙◌, sym, length-drop, length-take, subst, IsTrue}
use Rattle.std.proofs.lemmas.List.{drop-drop}
use Rattle.host_desk.specs.Desk.{Fills}
use Rattle.host_desk.proofs.Moments.{stays_then}
use Rattle.gate_log.proofs.Filled.{filled_more}
use Rattle.gate_log.proofs.reading.read_full.Goals as goal

pub loop-done-preserved : goal.loop-done-preserved
loop-done-preserved g c =
    let i = c.loop-done.invariant in
    let old = g.H.Host.desk c.args.host.now in
    let mid = g.H.Host.desk c.loop-done.host in
    let new = g.H.Host.desk c.read_at.new.self in
    let done = c.loop-done.done in
    let count = c.in_ok-count.count in
    let part = take (length c.loop-done.into - done) (drop done c.loop-done.into) in
    let fills : IsTrue g.H.Host.tells → Fills (old.seen c.args.file) (c.args.at + done) part c.read_at.new.into count = λ told. subst (λ (s : ℕ → List ℕ). Fills (s c.args.file) (c.args.at + done) part c.read_at.new.into count) (i.disk told).seen (c.in_ok-count.ensures.filled told) in record {
      within = omega (arith, c.in_ok-count.ensures.count, length-take (length c.loop-done.into - done) (drop done c.loop-done.into), length-drop done c.loop-done.into, c.loop-done.auto.into);
      opened = c.read_at.ensures.opened ∙ i.opened;
      counts = search rules;
      disk = λ told. stays_then old mid new (i.disk told) (c.read_at.ensures.disk told);
      there = λ told. omega (arith, i.there told, (fills told).within);
      filled = λ told. filled_more (drop c.args.at (old.seen c.args.file)) c.args.into.now c.loop-done.into c.read_at.new.into done count (i.filled told) (omega (arith, i.there told, length-drop c.args.at (old.seen c.args.file)))
          ((fills told).filled ∙ ap (λ (l : List ℕ). take count l ++ drop count part) (sym (drop-drop done c.args.at (old.seen c.args.file))));
    }
