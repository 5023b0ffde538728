use Rattle.std.proofs.Common.{arith}
use Rattle.publish_core.proofs.WholeSets.{more_differ}
use Rattle.publish_core.proofs.filled.is_first_alone.Goals as goal

pub returns-in_default-2 : goal.returns-in_default-2
returns-in_default-2 c = more_differ c.args.tombstones.now (omega arith)
