use Rattle.std.proofs.Common.{◌≡◌, ℕ, suc, Bool, true, List, length}
use Rattle.machine_run.specs.LineItems.{LineItem, Breaks}
use Rattle.machine_run.proofs.OldStore.{if_ok}
use Rattle.machine_run.proofs.lines.LineFeedFeed.advance.Goals as goal

pub returns-clause-read : goal.returns-clause-read
returns-clause-read g c = λ told.
    let before : List ℕ = g.S.Source.remaining c.args.source.now in
    let after : List ℕ = g.S.Source.remaining c.find.new.source in
    if_ok (λ (more : Bool). more ≡ true → (left : List ℕ) (count : ℕ) → Breaks c.find.new.reader after left count → Breaks c.args.self.now.reader before left (suc count))
    (λ (more : Bool). more ≡ true → (place : g.row.S.Denot) (later : List LineItem) → Breaks c.find.new.reader after (g.S.Source.remaining place) (length later) → Breaks c.args.self.now.reader before (g.S.Source.remaining place) (suc (length later)))
    c.find.result (λ more is f e place later broken. f e (g.S.Source.remaining place) (length later) broken) (c.find.ensures.read told)
