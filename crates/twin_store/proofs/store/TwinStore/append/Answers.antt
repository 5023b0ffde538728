use Rattle.twin_store.proofs.Adding.{append_moments, append_says}
use Rattle.twin_store.proofs.store.TwinStore.append.Goals as goal

pub returns-in-Ok-clause-any_moment : goal.returns-in-Ok-clause-any_moment
returns-in-Ok-clause-any_moment g c = λ told. append_moments c.args.self.log (g.H.Host.desk c.args.host.now) c.requires.file.number (c.requires.current told) (c.requires.ended told) c.args.frame.now (g.H.Host.desk c.append.new.host) (c.append.ensures.any_moment told) (c.requires.settled told)

pub returns-in-Ok-clause-added : goal.returns-in-Ok-clause-added
returns-in-Ok-clause-added g c = λ told. append_says c.args.self.log (g.H.Host.desk c.args.host.now) c.requires.file.number (c.requires.current told) (c.requires.ended told) c.args.frame.now (g.H.Host.desk c.append.new.host) (c.append.ensures.any_moment told) (c.in-Ok.ensures.added told)

pub returns-in-Err-Full-clause-any_moment : goal.returns-in-Err-Full-clause-any_moment
returns-in-Err-Full-clause-any_moment g c = λ told. append_moments c.args.self.log (g.H.Host.desk c.args.host.now) c.requires.file.number (c.requires.current told) (c.requires.ended told) c.args.frame.now (g.H.Host.desk c.append.new.host) (c.append.ensures.any_moment told) (c.requires.settled told)

pub returns-in-Err-Failed-clause-any_moment : goal.returns-in-Err-Failed-clause-any_moment
returns-in-Err-Failed-clause-any_moment g c = λ told. append_moments c.args.self.log (g.H.Host.desk c.args.host.now) c.requires.file.number (c.requires.current told) (c.requires.ended told) c.args.frame.now (g.H.Host.desk c.append.new.host) (c.append.ensures.any_moment told) (c.requires.settled told)
