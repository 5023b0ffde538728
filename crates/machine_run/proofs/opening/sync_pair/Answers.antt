use Rattle.std.proofs.Common.{ℕ, Bool, ap, ◌∙◌}
use Rattle.host_desk.proofs.Moments.{since_sync, since_then}
use Rattle.machine_run.specs.Opening.{Nothing}
use Rattle.machine_run.proofs.Settling.{first_settled, second_settled}
use Rattle.machine_run.proofs.opening.sync_pair.Goals as goal

pub returns-in_err-sync-clause-any_moment : goal.returns-in_err-sync-clause-any_moment
returns-in_err-sync-clause-any_moment g c = λ told.
    let law = g.met.H.Host.counts_now told in
    since_sync Nothing (g.H.Host.desk c.args.host.now) (g.H.Host.desk c.sync.new.self) (λ t s f le is. law c.args.host.now t s f le is) 0 (c.sync.ensures.disk told)

pub returns-in_err-sync-2-clause-any_moment : goal.returns-in_err-sync-2-clause-any_moment
returns-in_err-sync-2-clause-any_moment g c = λ told.
    let law = g.met.H.Host.counts_now told in
    since_then Nothing (g.H.Host.desk c.args.host.now) (g.H.Host.desk c.sync.new.self) (g.H.Host.desk c.sync-2.new.self)
    (since_sync Nothing (g.H.Host.desk c.args.host.now) (g.H.Host.desk c.sync.new.self) (λ t s f le is. law c.args.host.now t s f le is) 0 (c.sync.ensures.disk told))
    (since_sync Nothing (g.H.Host.desk c.sync.new.self) (g.H.Host.desk c.sync-2.new.self) (λ t s f le is. law c.sync.new.self t s f le is) 1 (c.sync-2.ensures.disk told))

pub returns-clause-any_moment : goal.returns-clause-any_moment
returns-clause-any_moment g c = λ told.
    let law = g.met.H.Host.counts_now told in
    since_then Nothing (g.H.Host.desk c.args.host.now) (g.H.Host.desk c.sync.new.self) (g.H.Host.desk c.sync-2.new.self)
    (since_sync Nothing (g.H.Host.desk c.args.host.now) (g.H.Host.desk c.sync.new.self) (λ t s f le is. law c.args.host.now t s f le is) 0 (c.sync.ensures.disk told))
    (since_sync Nothing (g.H.Host.desk c.sync.new.self) (g.H.Host.desk c.sync-2.new.self) (λ t s f le is. law c.sync.new.self t s f le is) 1 (c.sync-2.ensures.disk told))

pub returns-clause-first_settled : goal.returns-clause-first_settled
returns-clause-first_settled g c = λ told.
    first_settled (g.H.Host.desk c.args.host.now) (g.H.Host.desk c.sync.new.self) (g.H.Host.desk c.sync-2.new.self) (c.requires.trusted told) (c.in_ok-sync.ensures.trusted told) (c.in_ok-sync-2.ensures.trusted told) (c.sync-2.ensures.seen told) (c.sync-2.ensures.disk told) (c.in_ok-sync.ensures.durable told (c.requires.trusted told).first)

pub returns-clause-second_settled : goal.returns-clause-second_settled
returns-clause-second_settled g c = λ told.
    let still = ap (λ (t : ℕ → Bool). t 1) (c.in_ok-sync.ensures.trusted told) ∙ (c.requires.trusted told).second in
    second_settled (g.H.Host.desk c.args.host.now) (g.H.Host.desk c.sync.new.self) (g.H.Host.desk c.sync-2.new.self) (c.requires.trusted told) (c.in_ok-sync.ensures.trusted told) (c.in_ok-sync-2.ensures.trusted told) (c.in_ok-sync-2.ensures.durable told still)
