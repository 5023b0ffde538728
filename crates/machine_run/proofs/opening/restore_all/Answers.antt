use Rattle.std.proofs.Common.{◌≡◌, ℕ, List, rules, sym, ◌∙◌, ap, subst}
use Rattle.host_desk.proofs.Moments.{stays_then}
use Rattle.gate_log.specs.Log.{Mark, HasNext}
use Rattle.machine_run.proofs.Restoring.{restoring-next}
use Rattle.machine_run.proofs.opening.restore_all.Goals as goal

pub loop-machine-preserved : goal.loop-machine-preserved
loop-machine-preserved g c =
    let i = c.loop-machine.invariant in
    let log : Mark = c.loop-machine.log in
    let next : Mark = c.next_body.new.self in
    let body : List ℕ = c.next_body.new.into.items in
    record {
      opened = c.next_body.ensures.opened ∙ i.opened;
      counts = search rules;
      disk = λ told. stays_then (g.H.Host.desk c.args.host.now) (g.H.Host.desk c.loop-machine.host) (g.H.Host.desk c.next_body.new.host) (i.disk told) (c.next_body.ensures.disk told);
      same_log = c.next_body.ensures.moved ∙ ap (λ (l : Mark). record l { place = next.place }) i.same_log;
      restoring = λ told.
          let old = g.H.Host.desk c.args.host.now in
          let bytes : (g.H.Host.desk c.loop-machine.host).seen log.file ≡ old.seen 0 = ap (λ (s : ℕ → List ℕ). s log.file) (i.disk told).seen ∙ ap old.seen (ap (λ (l : Mark). l.file) i.same_log ∙ c.requires.first) in
          let has = subst (λ (b : List ℕ). HasNext b log next body) bytes (c.in-Ok-true.ensures.more told c.in-Ok-true.field-0-test) in
          restoring-next g.M.Machine.rules (old.seen 0) c.args.machine.now c.args.log.place c.loop-machine.machine log (i.restoring told) body next c.restore.new.self has (ap (λ (b : List ℕ). g.M.Machine.rules.restore c.loop-machine.machine b) (sym c.deref.ensures.value) ∙ c.in_ok-restore-in-Ok-true.ensures.yes c.if-not-branch.false);
    }
