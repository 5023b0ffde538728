use Rattle.std.proofs.Common.{◌≡◌, IsTrue, rules, sym, ◌∙◌, ap, subst}
use Rattle.host_desk.specs.Desk.{KeepsCounts}
use Rattle.gate_log.specs.Log.{Mark}
use Rattle.machine_run.specs.Stores.{AreKept}
use Rattle.machine_run.specs.Runs.{plan_of, IsDone, ItemsStop}
use Rattle.machine_run.specs.Opening.{IsOpened}
use Rattle.machine_run.specs.Ends.{HasOpened, HasRun, RunStop}
use Rattle.machine_run.proofs.Untouched.{untouched_stays, untouched_then, no_store, still_bad}
use Rattle.machine_run.proofs.Exits.{err_and, on_ok, ok_map}
use Rattle.machine_run.proofs.OldStore.{if_err}
use Rattle.machine_run.proofs.WholeRun.{opened_stored, means_left, open_stop, open_since, opens_old, run_since, run_left, run_opened, run_done, run_full, run_stop, to_all}
use Rattle.machine_run.proofs.run.run_store.Goals as goal

pub returns-in_err-open_pair-clause-foreign : goal.returns-in_err-open_pair-clause-foreign
returns-in_err-open_pair-clause-foreign g c = λ told file at bad.
    untouched_stays (g.H.Host.desk c.args.host.now) (g.H.Host.desk c.open_pair.new.self) (λ t s f le is. g.met.H.Host.counts_now told c.args.host.now t s f le is) (c.open_pair.ensures.disk told)

pub returns-in_err-log-clause-any_moment : goal.returns-in_err-log-clause-any_moment
returns-in_err-log-clause-any_moment g c = λ told tells state opens.
    let m = g.M.Machine.rules in
    let f = g.F.Feed in
    let items = f.left c.args.feed.now c.args.source.now in
    let old = g.H.Host.desk c.args.host.now in
    let a = g.H.Host.desk c.open_pair.new.self in
    let b = g.H.Host.desk c.open_store.new.host in
    open_since m items old a b (c.open_pair.ensures.disk told) state opens (λ t s f le is. g.met.H.Host.counts_now told c.args.host.now t s f le is) (c.open_store.ensures.any_moment told)

pub returns-in_err-log-clause-now : goal.returns-in_err-log-clause-now
returns-in_err-log-clause-now g c = λ told tells state opens.
    let m = g.M.Machine.rules in
    let f = g.F.Feed in
    let items = f.left c.args.feed.now c.args.source.now in
    let old = g.H.Host.desk c.args.host.now in
    let a = g.H.Host.desk c.open_pair.new.self in
    let b = g.H.Host.desk c.open_store.new.host in
    means_left m items old a b (c.open_pair.ensures.disk told) state opens b.said b.seen (c.open_store.ensures.now told)

pub returns-in_err-log-clause-stop : goal.returns-in_err-log-clause-stop
returns-in_err-log-clause-stop g c =
    let m = g.M.Machine.rules in
    let f = g.F.Feed in
    let items = f.left c.args.feed.now c.args.source.now in
    let old = g.H.Host.desk c.args.host.now in
    let a = g.H.Host.desk c.open_pair.new.self in
    let b = g.H.Host.desk c.open_store.new.host in
    let fails = f.fails c.args.feed.now c.args.source.now c.args.feed.now c.args.source.now in
    let broken = f.breaks c.args.feed.now c.args.source.now c.args.source.now in
    let both = IsTrue g.H.Host.tells × IsTrue f.tells in
    let P = RunStop m c.args.bounds.batch c.args.bounds.log items g.H.Host.tells both fails broken old b in
    err_and P c.from_residual-in_err-log.result c.from_residual-in_err-log.ensures.1 (λ e is.
    let same : e ≡ c.in_err-log.field-0.0 = is in
    subst P (sym same) (open_stop m items old a b g.H.Host.tells (λ told. c.open_pair.ensures.disk told) (λ told. c.open_store.ensures.now told) c.args.bounds.batch both fails broken c.args.bounds.log c.open_pair.ensures.counts (λ t. t.0) c.in_err-log.field-0.0 c.in_err-log.ensures.stop))

pub returns-in_err-log-clause-foreign : goal.returns-in_err-log-clause-foreign
returns-in_err-log-clause-foreign g c = λ told file at bad.
    let m = g.M.Machine.rules in
    let f = g.F.Feed in
    let items = f.left c.args.feed.now c.args.source.now in
    let old = g.H.Host.desk c.args.host.now in
    let a = g.H.Host.desk c.open_pair.new.self in
    let b = g.H.Host.desk c.open_store.new.host in
    untouched_then old a b
    (untouched_stays old a (λ t s f le is. g.met.H.Host.counts_now told c.args.host.now t s f le is) (c.open_pair.ensures.disk told))
    (c.open_store.ensures.foreign told file at (still_bad m old a file at (c.open_pair.ensures.disk told).seen bad))

pub answer_items-requires-clause-stored : goal.answer_items-requires-clause-stored
answer_items-requires-clause-stored g c = λ told.
    let m = g.M.Machine.rules in
    let f = g.F.Feed in
    let items = f.left c.args.feed.now c.args.source.now in
    let old = g.H.Host.desk c.args.host.now in
    let a = g.H.Host.desk c.open_pair.new.self in
    let b = g.H.Host.desk c.open_store.new.host in
    opened_stored m a b c.open_store.new.machine c.over.result.log (subst (λ (l : Mark). IsOpened m a b c.open_store.new.machine l) (sym c.over.ensures) (c.in_ok-log.ensures.store told)) c.over.result (λ content store. store)

pub returns-clause-any_moment : goal.returns-clause-any_moment
returns-clause-any_moment g c = λ told tells other opens.
    let m = g.M.Machine.rules in
    let f = g.F.Feed in
    let items = f.left c.args.feed.now c.args.source.now in
    let old = g.H.Host.desk c.args.host.now in
    let a = g.H.Host.desk c.open_pair.new.self in
    let b = g.H.Host.desk c.open_store.new.host in
    let d = g.H.Host.desk c.answer_items.new.host in
    let log = c.over.result.log in
    let state = c.open_store.new.machine in
    let limit : log.limit ≡ c.args.bounds.log = ap (λ (l : Mark). l.limit) c.over.ensures ∙ c.in_ok-log.ensures.log.1 in
    let first = open_since m items old a b (c.open_pair.ensures.disk told) other opens (λ t s f le is. g.met.H.Host.counts_now told c.args.host.now t s f le is) (c.open_store.ensures.any_moment told) in
    run_since m items old a b (c.open_pair.ensures.disk told) state log (subst (λ (l : Mark). IsOpened m a b state l) (sym c.over.ensures) (c.in_ok-log.ensures.store told)) d other opens first (c.answer_items.ensures.any_moment told tells)

pub returns-clause-now : goal.returns-clause-now
returns-clause-now g c = λ told tells other opens.
    let m = g.M.Machine.rules in
    let f = g.F.Feed in
    let items = f.left c.args.feed.now c.args.source.now in
    let old = g.H.Host.desk c.args.host.now in
    let a = g.H.Host.desk c.open_pair.new.self in
    let b = g.H.Host.desk c.open_store.new.host in
    let d = g.H.Host.desk c.answer_items.new.host in
    let log = c.over.result.log in
    let state = c.open_store.new.machine in
    let limit : log.limit ≡ c.args.bounds.log = ap (λ (l : Mark). l.limit) c.over.ensures ∙ c.in_ok-log.ensures.log.1 in
    run_left m items old a b (c.open_pair.ensures.disk told) state log (subst (λ (l : Mark). IsOpened m a b state l) (sym c.over.ensures) (c.in_ok-log.ensures.store told)) d.said d.seen other opens (c.answer_items.ensures.now told tells)

pub returns-clause-foreign : goal.returns-clause-foreign
returns-clause-foreign g c = λ told file at bad.
    let m = g.M.Machine.rules in
    let f = g.F.Feed in
    let items = f.left c.args.feed.now c.args.source.now in
    let old = g.H.Host.desk c.args.host.now in
    let a = g.H.Host.desk c.open_pair.new.self in
    let b = g.H.Host.desk c.open_store.new.host in
    let d = g.H.Host.desk c.answer_items.new.host in
    let log = c.over.result.log in
    let state = c.open_store.new.machine in
    let limit : log.limit ≡ c.args.bounds.log = ap (λ (l : Mark). l.limit) c.over.ensures ∙ c.in_ok-log.ensures.log.1 in
    no_store m old old d state file at (opens_old m items old a b (c.open_pair.ensures.disk told) state log (subst (λ (l : Mark). IsOpened m a b state l) (sym c.over.ensures) (c.in_ok-log.ensures.store told))) bad

pub returns-clause-opens : goal.returns-clause-opens
returns-clause-opens g c = λ told.
    let m = g.M.Machine.rules in
    let f = g.F.Feed in
    let items = f.left c.args.feed.now c.args.source.now in
    let old = g.H.Host.desk c.args.host.now in
    let a = g.H.Host.desk c.open_pair.new.self in
    let b = g.H.Host.desk c.open_store.new.host in
    let d = g.H.Host.desk c.answer_items.new.host in
    let log = c.over.result.log in
    let state = c.open_store.new.machine in
    let limit : log.limit ≡ c.args.bounds.log = ap (λ (l : Mark). l.limit) c.over.ensures ∙ c.in_ok-log.ensures.log.1 in
    on_ok (HasOpened m c.args.bounds.log old) c.answer_items.result (run_opened m items old a b (c.open_pair.ensures.disk told) state log (subst (λ (l : Mark). IsOpened m a b state l) (sym c.over.ensures) (c.in_ok-log.ensures.store told)) g.met.M.Machine.keeps_good c.args.bounds.log limit)

pub returns-clause-done : goal.returns-clause-done
returns-clause-done g c = λ told tells.
    let m = g.M.Machine.rules in
    let f = g.F.Feed in
    let items = f.left c.args.feed.now c.args.source.now in
    let old = g.H.Host.desk c.args.host.now in
    let a = g.H.Host.desk c.open_pair.new.self in
    let b = g.H.Host.desk c.open_store.new.host in
    let d = g.H.Host.desk c.answer_items.new.host in
    let log = c.over.result.log in
    let state = c.open_store.new.machine in
    let limit : log.limit ≡ c.args.bounds.log = ap (λ (l : Mark). l.limit) c.over.ensures ∙ c.in_ok-log.ensures.log.1 in
    ok_map (IsDone (plan_of m AreKept c.args.bounds.batch log.limit state items b) d) (HasRun m c.args.bounds.batch c.args.bounds.log items old d) c.answer_items.result (run_done m items old a b (c.open_pair.ensures.disk told) state log (subst (λ (l : Mark). IsOpened m a b state l) (sym c.over.ensures) (c.in_ok-log.ensures.store told)) g.met.M.Machine.keeps_good c.args.bounds.batch log.limit c.args.bounds.log limit limit d) (c.answer_items.ensures.done told tells)

pub returns-clause-stop : goal.returns-clause-stop
returns-clause-stop g c =
    let m = g.M.Machine.rules in
    let f = g.F.Feed in
    let items = f.left c.args.feed.now c.args.source.now in
    let old = g.H.Host.desk c.args.host.now in
    let a = g.H.Host.desk c.open_pair.new.self in
    let b = g.H.Host.desk c.open_store.new.host in
    let d = g.H.Host.desk c.answer_items.new.host in
    let log = c.over.result.log in
    let state = c.open_store.new.machine in
    let limit : log.limit ≡ c.args.bounds.log = ap (λ (l : Mark). l.limit) c.over.ensures ∙ c.in_ok-log.ensures.log.1 in
    let fails = f.fails c.args.feed.now c.args.source.now c.answer_items.new.feed c.answer_items.new.source in
    let broken = f.breaks c.args.feed.now c.args.source.now c.answer_items.new.source in
    let both = IsTrue g.H.Host.tells × IsTrue f.tells in
    let counts : KeepsCounts old b = search rules in
    if_err (ItemsStop (plan_of m AreKept c.args.bounds.batch log.limit state items b) both fails broken b d) (RunStop m c.args.bounds.batch c.args.bounds.log items g.H.Host.tells both fails broken old d) c.answer_items.result
    (run_stop m items c.args.bounds.batch log.limit c.args.bounds.log g.H.Host.tells both fails broken old b d state counts
    (λ told. run_opened m items old a b (c.open_pair.ensures.disk told) state log (subst (λ (l : Mark). IsOpened m a b state l) (sym c.over.ensures) (c.in_ok-log.ensures.store told)) g.met.M.Machine.keeps_good c.args.bounds.log limit)
    (λ t P is other opens. (let told = t.0 in to_all m items old a b (c.open_pair.ensures.disk told) state log (subst (λ (l : Mark). IsOpened m a b state l) (sym c.over.ensures) (c.in_ok-log.ensures.store told)) c.args.bounds.batch log.limit c.args.bounds.log limit P is other opens))
    (λ n t full. (let told = t.0 in run_full m items old a b (c.open_pair.ensures.disk told) state log (subst (λ (l : Mark). IsOpened m a b state l) (sym c.over.ensures) (c.in_ok-log.ensures.store told)) g.met.M.Machine.keeps_good c.args.bounds.batch log.limit c.args.bounds.log n limit limit d full)))
    c.answer_items.ensures.stop

pub returns-in_err-open_pair-clause-goes : goal.returns-in_err-open_pair-clause-goes
returns-in_err-open_pair-clause-goes g c = (g.met.F.Feed.adds_up).begins c.args.feed.now c.args.source.now

pub returns-in_err-log-clause-goes : goal.returns-in_err-log-clause-goes
returns-in_err-log-clause-goes g c = (g.met.F.Feed.adds_up).begins c.args.feed.now c.args.source.now
