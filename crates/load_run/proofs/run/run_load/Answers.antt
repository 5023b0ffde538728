use Rattle.std.proofs.Common.{rules, ◌≡◌, ◌∙◌, IsTrue, ap, subst, sym}
use Rattle.host_desk.specs.Desk.{KeepsCounts}
use Rattle.gate_log.specs.Log.{Mark}
use Rattle.machine_run.specs.Ends.{HasOpened}
use Rattle.machine_run.specs.Opening.{IsOpened}
use Rattle.machine_run.specs.Runs.{plan_of}
use Rattle.machine_run.specs.Stores.{AreKept}
use Rattle.machine_run.proofs.Exits.{on_ok, ok_map}
use Rattle.machine_run.proofs.WholeRun.{opened_stored, run_full, run_opened, to_all}
use Rattle.load_run.specs.Loads.{AreLoaded, HasLoaded, LoadStop, LoadingStop, line_of, loading}
use Rattle.load_run.proofs.WholeLoad.{if_err, load_done, load_since, load_stop, means_load, open_load}
use Rattle.load_run.proofs.run.run_load.Goals as goal

pub returns-in_err-log-clause-any_moment : goal.returns-in_err-log-clause-any_moment
returns-in_err-log-clause-any_moment g c = λ told state opens.
    let m = g.M.Machine.rules in
    let silent = g.met.M.Loader.silent in
    let load = loading m g.M.Loader.refuses g.M.Loader.text in
    let items = g.I.Items.left c.args.items.now in
    let old = g.H.Host.desk c.args.host.now in
    let a = g.H.Host.desk c.open_pair.new.self in
    let b = g.H.Host.desk c.open_store.new.host in
    open_load load silent items old a b (c.open_pair.ensures.disk told) state opens (λ t s f le is. g.met.H.Host.counts_now told c.args.host.now t s f le is) (c.open_store.ensures.any_moment told)

pub returns-in_err-log-clause-now : goal.returns-in_err-log-clause-now
returns-in_err-log-clause-now g c = λ told state opens.
    let m = g.M.Machine.rules in
    let silent = g.met.M.Loader.silent in
    let load = loading m g.M.Loader.refuses g.M.Loader.text in
    let items = g.I.Items.left c.args.items.now in
    let old = g.H.Host.desk c.args.host.now in
    let a = g.H.Host.desk c.open_pair.new.self in
    let b = g.H.Host.desk c.open_store.new.host in
    means_load load silent items old a b (c.open_pair.ensures.disk told) state opens b.said b.seen (c.open_store.ensures.now told)

pub load_into-requires-clause-stored : goal.load_into-requires-clause-stored
load_into-requires-clause-stored g c = λ told.
    let m = g.M.Machine.rules in
    let silent = g.met.M.Loader.silent in
    let load = loading m g.M.Loader.refuses g.M.Loader.text in
    let items = g.I.Items.left c.args.items.now in
    let old = g.H.Host.desk c.args.host.now in
    let a = g.H.Host.desk c.open_pair.new.self in
    let b = g.H.Host.desk c.open_store.new.host in
    opened_stored m a b c.open_store.new.machine c.over.result.log (subst (λ (l : Mark). IsOpened m a b c.open_store.new.machine l) (sym c.over.ensures) (c.in_ok-log.ensures.store told)) c.over.result (λ content store. store)

pub returns-clause-any_moment : goal.returns-clause-any_moment
returns-clause-any_moment g c = λ told other opens.
    let m = g.M.Machine.rules in
    let silent = g.met.M.Loader.silent in
    let load = loading m g.M.Loader.refuses g.M.Loader.text in
    let items = g.I.Items.left c.args.items.now in
    let old = g.H.Host.desk c.args.host.now in
    let a = g.H.Host.desk c.open_pair.new.self in
    let b = g.H.Host.desk c.open_store.new.host in
    let d = g.H.Host.desk c.load_into.new.host in
    let log = c.over.result.log in
    let state = c.open_store.new.machine in
    let limit : log.limit ≡ c.args.limit = ap (λ (l : Mark). l.limit) c.over.ensures ∙ c.in_ok-log.ensures.log.1 in
    load_since load silent items old a b (c.open_pair.ensures.disk told) state log (subst (λ (l : Mark). IsOpened m a b state l) (sym c.over.ensures) (c.in_ok-log.ensures.store told)) d other opens (open_load load silent items old a b (c.open_pair.ensures.disk told) other opens (λ t s f le is. g.met.H.Host.counts_now told c.args.host.now t s f le is) (c.open_store.ensures.any_moment told)) (c.load_into.ensures.any_moment told)

pub returns-clause-opens : goal.returns-clause-opens
returns-clause-opens g c = λ told.
    let m = g.M.Machine.rules in
    let silent = g.met.M.Loader.silent in
    let load = loading m g.M.Loader.refuses g.M.Loader.text in
    let items = g.I.Items.left c.args.items.now in
    let old = g.H.Host.desk c.args.host.now in
    let a = g.H.Host.desk c.open_pair.new.self in
    let b = g.H.Host.desk c.open_store.new.host in
    let d = g.H.Host.desk c.load_into.new.host in
    let log = c.over.result.log in
    let state = c.open_store.new.machine in
    let limit : log.limit ≡ c.args.limit = ap (λ (l : Mark). l.limit) c.over.ensures ∙ c.in_ok-log.ensures.log.1 in
    on_ok (HasOpened m c.args.limit old) c.load_into.result (run_opened m items old a b (c.open_pair.ensures.disk told) state log (subst (λ (l : Mark). IsOpened m a b state l) (sym c.over.ensures) (c.in_ok-log.ensures.store told)) g.met.M.Machine.keeps_good c.args.limit limit)

pub returns-clause-done : goal.returns-clause-done
returns-clause-done g c = λ told.
    let m = g.M.Machine.rules in
    let silent = g.met.M.Loader.silent in
    let load = loading m g.M.Loader.refuses g.M.Loader.text in
    let items = g.I.Items.left c.args.items.now in
    let old = g.H.Host.desk c.args.host.now in
    let a = g.H.Host.desk c.open_pair.new.self in
    let b = g.H.Host.desk c.open_store.new.host in
    let d = g.H.Host.desk c.load_into.new.host in
    let log = c.over.result.log in
    let state = c.open_store.new.machine in
    let limit : log.limit ≡ c.args.limit = ap (λ (l : Mark). l.limit) c.over.ensures ∙ c.in_ok-log.ensures.log.1 in
    ok_map (AreLoaded (plan_of m AreKept 1 log.limit state items b) (line_of load state items) d) (HasLoaded load c.args.limit items old d) c.load_into.result (load_done load silent items old a b (c.open_pair.ensures.disk told) state log (subst (λ (l : Mark). IsOpened m a b state l) (sym c.over.ensures) (c.in_ok-log.ensures.store told)) g.met.M.Machine.keeps_good log.limit c.args.limit limit limit d) (c.load_into.ensures.done told)

pub returns-clause-stop : goal.returns-clause-stop
returns-clause-stop g c =
    let m = g.M.Machine.rules in
    let silent = g.met.M.Loader.silent in
    let load = loading m g.M.Loader.refuses g.M.Loader.text in
    let items = g.I.Items.left c.args.items.now in
    let old = g.H.Host.desk c.args.host.now in
    let a = g.H.Host.desk c.open_pair.new.self in
    let b = g.H.Host.desk c.open_store.new.host in
    let d = g.H.Host.desk c.load_into.new.host in
    let log = c.over.result.log in
    let state = c.open_store.new.machine in
    let limit : log.limit ≡ c.args.limit = ap (λ (l : Mark). l.limit) c.over.ensures ∙ c.in_ok-log.ensures.log.1 in
    let counts : KeepsCounts old b = search rules in
    if_err (LoadingStop (plan_of m AreKept 1 log.limit state items b) (line_of load state items) (IsTrue g.H.Host.tells) b d) (LoadStop load c.args.limit items g.H.Host.tells old d) c.load_into.result
    (load_stop load items log.limit c.args.limit g.H.Host.tells old b d state counts
    (λ told. run_opened m items old a b (c.open_pair.ensures.disk told) state log (subst (λ (l : Mark). IsOpened m a b state l) (sym c.over.ensures) (c.in_ok-log.ensures.store told)) g.met.M.Machine.keeps_good c.args.limit limit)
    (λ told P is other opens. to_all m items old a b (c.open_pair.ensures.disk told) state log (subst (λ (l : Mark). IsOpened m a b state l) (sym c.over.ensures) (c.in_ok-log.ensures.store told)) 1 log.limit c.args.limit limit P is other opens)
    (λ n told full. run_full m items old a b (c.open_pair.ensures.disk told) state log (subst (λ (l : Mark). IsOpened m a b state l) (sym c.over.ensures) (c.in_ok-log.ensures.store told)) g.met.M.Machine.keeps_good 1 log.limit c.args.limit n limit limit d full))
    c.load_into.ensures.stop
