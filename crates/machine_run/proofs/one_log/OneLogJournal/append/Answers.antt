use Rattle.std.proofs.Common.{rules}
use Rattle.machine_run.proofs.OneLogSteps.{ends_there, append_since, append_now, append_others, append_store}
use Rattle.machine_run.proofs.one_log.OneLogJournal.append.Goals as goal

pub append-requires-clause-ended : goal.append-requires-clause-ended
append-requires-clause-ended g c = λ told. ends_there c.args.self.log (c.requires.store told).0 (g.H.Host.desk c.args.host.now) (c.requires.store told).1

pub returns-in-Ok-clause-any_moment : goal.returns-in-Ok-clause-any_moment
returns-in-Ok-clause-any_moment g c = λ told. append_since c.args.self.log c.args.self.first c.args.frame.now (g.H.Host.desk c.args.host.now) (g.H.Host.desk c.append.new.host) (c.append.ensures.any_moment told)

pub returns-in-Ok-clause-now : goal.returns-in-Ok-clause-now
returns-in-Ok-clause-now g c = λ told content store. append_now c.args.self.log c.args.self.first c.args.frame.now (g.H.Host.desk c.args.host.now) (g.H.Host.desk c.append.new.host) (c.append.ensures.any_moment told) content store (g.met.H.Host.reads_now told c.append.new.host)

pub returns-in-Ok-clause-store : goal.returns-in-Ok-clause-store
returns-in-Ok-clause-store g c = λ told content store.
    let e = c.in-Ok.ensures in
    append_store c.args.self.log c.args.self.first c.args.frame.now (g.H.Host.desk c.args.host.now) (g.H.Host.desk c.append.new.host) (c.append.ensures.any_moment told) content store c.in-Ok.log (e.added told) e.log (e.describes told) (e.settled told)

pub returns-in-Err-Full-clause-now : goal.returns-in-Err-Full-clause-now
returns-in-Err-Full-clause-now g c = λ told content store. append_now c.args.self.log c.args.self.first c.args.frame.now (g.H.Host.desk c.args.host.now) (g.H.Host.desk c.append.new.host) (c.append.ensures.any_moment told) content store (g.met.H.Host.reads_now told c.append.new.host)

pub returns-in-Err : goal.returns-in-Err
returns-in-Err g c = record {
  opened = c.append.ensures.opened;
  counts = c.append.ensures.counts;
  any_moment = λ told. append_since c.args.self.log c.args.self.first c.args.frame.now (g.H.Host.desk c.args.host.now) (g.H.Host.desk c.append.new.host) (c.append.ensures.any_moment told);
  now = λ told content store. append_now c.args.self.log c.args.self.first c.args.frame.now (g.H.Host.desk c.args.host.now) (g.H.Host.desk c.append.new.host) (c.append.ensures.any_moment told) content store (g.met.H.Host.reads_now told c.append.new.host);
  said = λ told. (c.append.ensures.any_moment told).said;
  others = λ told. append_others c.args.self.log c.args.self.first c.args.frame.now (g.H.Host.desk c.args.host.now) (g.H.Host.desk c.append.new.host) (c.append.ensures.any_moment told);
  limit = tt;
  store = λ told. tt;
  keeps = λ told. tt;
  room = λ told. tt;
  stop = search rules;
  memory = search rules;
  full = search rules;
}
