use Rattle.machine_run.proofs.Replying.{nothing_yet}
use Rattle.machine_run.specs.Rules.{body_of}
use Rattle.machine_run.proofs.storing.store_batch.Goals as goal

pub returns-in_err-entry-clause-now : goal.returns-in_err-entry-clause-now
returns-in_err-entry-clause-now g c = λ told content store. nothing_yet content (body_of c.args.changes.now) c.args.replies.now (g.H.Host.desk c.args.host.now) ((g.met.J.Journal.laws told).says c.args.journal content c.args.host.now store) (g.met.H.Host.reads_now told c.args.host.now)
