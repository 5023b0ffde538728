use Rattle.std.proofs.Common.{Some, refl, sym, ◌∙◌, subst}
use Rattle.overlord_run.specs.Ends.{Outside, Call, call}
use Rattle.overlord_run.specs.Promise.{Promise}
use Rattle.overlord_run.specs.declared.status.Status.{Status}
use Rattle.overlord_run.proofs.Endings.{never_usage}
use Rattle.overlord_run.proofs.Promises.{promise_memory, promise_run}
use Rattle.overlord_run.proofs.top.run_in.Goals as goal

pub returns-in_default-clause-promise : goal.returns-in_default-clause-promise
returns-in_default-clause-promise g c =
    let here : Outside = record { host = g.H.Host.desk c.args.host.now; left = g.S.Source.remaining c.args.source.now; faults = g.S.Source.faults c.args.source.now } in
    promise_memory g.H.Host.tells g.S.Source.tells (Some c.args.store.now) c.args.limits.log c.args.limits.input here

pub returns-clause-runs : goal.returns-clause-runs
returns-clause-runs g c = λ is. never_usage c.run_lines-ended.result (sym c.status_of.ensures ∙ is)

pub returns-clause-promise : goal.returns-clause-promise
returns-clause-promise g c =
    let before : Outside = record { host = g.H.Host.desk c.args.host.now; left = g.S.Source.remaining c.args.source.now; faults = g.S.Source.faults c.args.source.now } in
    let after : Outside = record { host = g.H.Host.desk c.run_lines-ended.new.host; left = g.S.Source.remaining c.run_lines-ended.new.source; faults = g.S.Source.faults c.run_lines-ended.new.source } in
    let whole : Call = call g.H.Host.tells g.S.Source.tells (Some c.args.store.now) c.args.limits.log c.args.limits.input before after in
    let run = c.run_lines-ended.ensures in
    subst (λ (s : Status). Promise whole s) (sym c.status_of.ensures) (promise_run whole c.args.store.now refl c.run_lines-ended.result run.any_moment run.now run.foreign run.opened run.opens run.done run.read run.stop run.within)
