use Rattle.std.proofs.Common.{◌≡◌, ◌⊎◌, ℕ, List, IsTrue, sym, ◌∙◌, ap, subst}
use Rattle.gate_log.specs.Log.{Mark, IsTorn}
use Rattle.twin_store.specs.Stores.{IsCurrent}
use Rattle.twin_store.proofs.Reading.{has_all, wrong_here, read_current}
use Rattle.twin_store.proofs.store.TwinStore.next_body.Goals as goal

pub returns-in-Ok-clause-ended : goal.returns-in-Ok-clause-ended
returns-in-Ok-clause-ended g c = λ told last. has_all c.args.self.now.log (g.H.Host.desk c.args.host.now).seen (c.requires.current told) c.requires.file.number (c.in-Ok.ensures.ended told last)

pub returns-in-Ok-clause-current : goal.returns-in-Ok-clause-current
returns-in-Ok-clause-current g c = λ told.
    let e = c.in-Ok.ensures in
    let current = read_current c.args.self.now.log (g.H.Host.desk c.args.host.now).seen (c.requires.current told) c.next_body.new.self c.next_body.new.into.items c.in-Ok.more c.next_body.ensures.moved (λ yes. e.more told yes) e.ended_stays in
    subst (λ (s : ℕ → List ℕ). IsCurrent c.next_body.new.self s) (sym (c.next_body.ensures.disk told).seen) current

pub returns-in-Err-Corrupt-clause-fault : goal.returns-in-Err-Corrupt-clause-fault
returns-in-Err-Corrupt-clause-fault g c =
    let log : Mark = c.args.self.now.log in
    let files : ℕ → List ℕ = (g.H.Host.desk c.args.host.now).seen in
    let at = c.in-Err-Corrupt.at in
    let fault : (IsTrue g.H.Host.tells → at ≡ log.place) × (IsTrue g.H.Host.tells → IsTorn (files log.file) log) × ((at ≡ log.place) ⊎ (at ≡ 18)) = rw c.in-Err-Corrupt.field-0-is at c.in-Err-Corrupt.ensures.fault in (
      c.file.ensures ∙ ap (λ (m : Mark). m.file) c.next_body.ensures.moved,
      λ told. (fault.0 told, wrong_here log files (c.requires.current told) c.requires.file.number (fault.1 told)),
      fault.2,
    )
