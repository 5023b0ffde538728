use Rattle.std.proofs.Common.{[], ℕ, List, Option, sym, subst}
use Rattle.machine_run.specs.Stores.{with_record}
use Rattle.machine_run.proofs.Replying.{nothing_yet}
use Rattle.machine_run.proofs.storing.store_record.Goals as goal

pub returns-in-None-clause-now : goal.returns-in-None-clause-now
returns-in-None-clause-now g c = λ told content store. nothing_yet content c.args.entry.now [] (g.H.Host.desk c.args.host.now) ((g.met.J.Journal.laws told).says c.args.journal content c.args.host.now store) (g.met.H.Host.reads_now told c.args.host.now)

pub returns-in-None-clause-keeps : goal.returns-in-None-clause-keeps
returns-in-None-clause-keeps g c = λ told content store.
    let files = (g.H.Host.desk c.args.host.now).seen in
    subst (λ (o : Option (List ℕ)). g.J.Journal.kept content (with_record content o) files files) (sym c.in-None.is) ((g.met.J.Journal.laws told).begins content files)
