use Rattle.std.proofs.Common.{filter, ap}
use Rattle.lock_posse.specs.Keys.{is_over}
use Rattle.lock_posse.proofs.LeastLemmas.{only_over}
use Rattle.lock_posse.proofs.table.Posses.numbers_over.Goals as goal

pub returns : goal.returns
returns g c =
    let same = ap (λ f. filter f c.self.inside.rows) (only_over (is_over c.args.source.now c.args.span) (g.T.LockTest.passes c.args.test.now) c.requires) in
    rw (← c.self.view_is, ← same, ← c.in_ok-found.ensures, ← c.as_slice.ensures.value) c.numbers_of.ensures
