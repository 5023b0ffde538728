use Rattle.publish_core.proofs.WholeSets.{not_filled}
use Rattle.publish_core.proofs.filled.is_filled.Goals as goal

pub returns-else-is_empty-2 : goal.returns-else-is_empty-2
returns-else-is_empty-2 c =
    not_filled c.args.ids.now c.args.tombstones.now c.args.span c.ids_of-own.result.now c.ids_of-covering.result.now c.is_empty.result c.is_empty-2.result c.ids_of-covering.ensures c.is_empty.ensures
    c.if-is_empty.false c.ids_of-own.ensures c.is_empty-2.ensures c.if-is_empty-2.false
