use Rattle.host_desk.proofs.Moments.{since_sync, since_then}
use Rattle.twin_store.specs.Pairs.{first_file, second_file}
use Rattle.twin_store.specs.Moments.{Nothing}
use Rattle.twin_store.proofs.opening.sync_pair.Goals as goal

pub returns-in_err-sync-2-clause-any_moment : goal.returns-in_err-sync-2-clause-any_moment
returns-in_err-sync-2-clause-any_moment g c = λ told.
    let law = g.met.H.Host.counts_now told in
    since_then Nothing (g.H.Host.desk c.args.host.now) (g.H.Host.desk c.sync.new.self) (g.H.Host.desk c.sync-2.new.self)
    (since_sync Nothing (g.H.Host.desk c.args.host.now) (g.H.Host.desk c.sync.new.self) (λ t s f le is. law c.args.host.now t s f le is) (first_file c.args.pair) (c.sync.ensures.disk told))
    (since_sync Nothing (g.H.Host.desk c.sync.new.self) (g.H.Host.desk c.sync-2.new.self) (λ t s f le is. law c.sync.new.self t s f le is) (second_file c.args.pair) (c.sync-2.ensures.disk told))

pub returns-clause-any_moment : goal.returns-clause-any_moment
returns-clause-any_moment g c = λ told.
    let law = g.met.H.Host.counts_now told in
    since_then Nothing (g.H.Host.desk c.args.host.now) (g.H.Host.desk c.sync.new.self) (g.H.Host.desk c.sync-2.new.self)
    (since_sync Nothing (g.H.Host.desk c.args.host.now) (g.H.Host.desk c.sync.new.self) (λ t s f le is. law c.args.host.now t s f le is) (first_file c.args.pair) (c.sync.ensures.disk told))
    (since_sync Nothing (g.H.Host.desk c.sync.new.self) (g.H.Host.desk c.sync-2.new.self) (λ t s f le is. law c.sync.new.self t s f le is) (second_file c.args.pair) (c.sync-2.ensures.disk told))
