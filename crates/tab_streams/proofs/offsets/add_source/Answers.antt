use Rattle.tab_streams.proofs.Writing.{source_set}
use Rattle.tab_streams.proofs.offsets.add_source.Goals as goal

pub returns-clause-ok : goal.returns-clause-ok
returns-clause-ok c =
    source_set c.args.source c.args.stream c.args.sources.now.entries c.insert.new.self.entries c.set.new.self c.new-streams.result c.insert.ensures.was_ordered c.requires c.new-streams.ensures c.in_ok-insert.ensures.entries c.args.offset c.in_ok-set.ensures.ok
