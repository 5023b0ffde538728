use Rattle.std.proofs.Common.{◌≡◌, ◌-◌, ◌≤◌, List, ℕ, arith, length, drop, take, rules, ap, ◌∙◌, length-drop}
use Rattle.std.proofs.lemmas.List.{take_rest}
use Rattle.host_desk.proofs.Moments.{says_next, rest_next, says_some}
use Rattle.machine_run.proofs.saying.say_all.Goals as goal

pub loop-rest-preserved : goal.loop-rest-preserved
loop-rest-preserved g c =
    let i = c.loop-rest.invariant in
    let rest = c.loop-rest.rest.now in
    let n = c.in_ok-count.count in
    let later : List ℕ = take (length rest - n) (drop n rest) in
    let tail : later ≡ drop n rest = take_rest rest n in
    let within : n ≤ length rest = c.in_ok-count.ensures.count in record {
      rest = rest_next c.args.bytes.now rest i.rest i.shorter n later within tail;
      shorter = omega (arith, i.shorter, ap length tail, length-drop n rest);
      opened = c.say.ensures.opened ∙ i.opened;
      counts = search rules;
      said = λ told. says_next c.args.bytes.now rest (g.H.Host.desk c.args.host.now) (g.H.Host.desk c.loop-rest.host) (g.H.Host.desk c.say.new.self) i.rest i.shorter (i.said told) n later within tail (c.in_ok-count.ensures.said told);
    }

pub returns-in_err-count-clause-some : goal.returns-in_err-count-clause-some
returns-in_err-count-clause-some g c = λ told.
    let i = c.loop-rest.invariant in
    says_some c.args.bytes.now c.loop-rest.rest.now (g.H.Host.desk c.args.host.now) (g.H.Host.desk c.loop-rest.host) (g.H.Host.desk c.say.new.self) i.rest i.shorter (i.said told) (c.say.ensures.some told)
