use Rattle.std.proofs.Common.{◌≡◌, ℕ, List, sym, subst}
use Rattle.std.proofs.lemmas.Result.{on_ok_weaker}
use Rattle.twin_store.specs.Pairs.{neither, choice_in}
use Rattle.twin_store.proofs.Openings.{moments_before}
use Rattle.twin_store.proofs.opening.open_store.Goals as goal

pub returns-clause-any_moment : goal.returns-clause-any_moment
returns-clause-any_moment g c = λ told.
    let e = c.sync_pair.ensures in
    moments_before c.args.pair (g.H.Host.desk c.args.host.now) (g.H.Host.desk c.sync_pair.new.host) (g.H.Host.desk c.open_settled.new.host) (e.seen told) (e.said told) (λ i f left. e.left told i f left) (e.any_moment told) (c.open_settled.ensures.any_moment told)

pub returns-clause-room : goal.returns-clause-room
returns-clause-room g c = λ told.
    on_ok_weaker c.open_settled.result (λ room none. room (subst (λ (s : ℕ → List ℕ). choice_in c.args.pair s ≡ neither) (sym (c.sync_pair.ensures.seen told)) none)) (c.open_settled.ensures.room told)
