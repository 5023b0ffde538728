use Rattle.tab_streams.proofs.Placing.{set_keeps}
use Rattle.tab_streams.proofs.partitions.set.Goals as goal

pub returns-clause-rise : goal.returns-clause-rise
returns-clause-rise c = set_keeps c.put.result c.args.offset c.args.offsets.now.items c.put.new.offsets.items c.put.ensures.ok c.put.ensures.err c.requires
