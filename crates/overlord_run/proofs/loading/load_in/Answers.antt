use Rattle.std.proofs.Common.{List, subst, sym}
use Rattle.std.specs.List.{All}
use Rattle.std.specs.Prelude.{length, ◌<◌}
use Rattle.book_rows.specs.declared.commands.Command.{Command}
use Rattle.load_gen.specs.Load.{load}
use Rattle.overlord_run.specs.LoadPromise.{PromiseOfLoad, load_call}
use Rattle.overlord_run.specs.declared.status.Status.{Status}
use Rattle.overlord_run.proofs.LoadForms.{KeepsForm, load_few, load_kept}
use Rattle.overlord_run.proofs.LoadPromises.{load_memory, promise_load}
use Rattle.overlord_run.proofs.loading.load_in.Goals as goal

pub returns-in_default-clause-promise : goal.returns-in_default-clause-promise
returns-in_default-clause-promise g c = load_memory g.H.Host.tells (load c.args.number c.args.blocks) c.args.store.now c.args.limits.log (g.H.Host.desk c.args.host.now)

pub returns-in_default-new-clause-promise : goal.returns-in_default-new-clause-promise
returns-in_default-new-clause-promise g c = load_memory g.H.Host.tells (load c.args.number c.args.blocks) c.args.store.now c.args.limits.log (g.H.Host.desk c.args.host.now)

pub run_load-ended-requires-clause-takes : goal.run_load-ended-requires-clause-takes
run_load-ended-requires-clause-takes g c = subst (λ (cs : List Command). All KeepsForm cs) (sym c.in-Ok-new.ensures) (load_kept c.args.number c.args.blocks c.requires.few)

pub run_load-ended-requires-clause-few : goal.run_load-ended-requires-clause-few
run_load-ended-requires-clause-few g c = subst (λ (cs : List Command). length cs < 18446744073709551616) (sym c.in-Ok-new.ensures) (load_few c.args.number c.args.blocks c.requires.few)

pub returns-clause-promise : goal.returns-clause-promise
returns-clause-promise g c =
    let whole = λ (cs : List Command). load_call g.H.Host.tells cs c.args.store.now c.args.limits.log (g.H.Host.desk c.args.host.now) (g.H.Host.desk c.run_load-ended.new.host) in
    let run = c.run_load-ended.ensures in
    let promised = promise_load (whole c.in-Ok-new.commands) c.run_load-ended.result run.any_moment run.now run.foreign run.opened run.done run.stop in
    subst (λ (cs : List Command). PromiseOfLoad (whole cs) c.status_of.result) c.in-Ok-new.ensures (subst (λ (s : Status). PromiseOfLoad (whole c.in-Ok-new.commands) s) (sym c.status_of.ensures) promised)
