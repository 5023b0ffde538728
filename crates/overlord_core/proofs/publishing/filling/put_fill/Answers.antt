use Rattle.publish_core.specs.Kinds.{filling_of}
use Rattle.overlord_core.proofs.Plans.{chunks_apart_in, ids_apart_in}
use Rattle.overlord_core.proofs.publishing.filling.put_fill.Goals as goal

pub put_fill_rows-added-requires-clause-chunks_apart : goal.put_fill_rows-added-requires-clause-chunks_apart
put_fill_rows-added-requires-clause-chunks_apart c = chunks_apart_in (filling_of c.args.filling) c.args.plan c.args.core.now c.requires

pub put_fill_rows-added-requires-clause-ids_apart : goal.put_fill_rows-added-requires-clause-ids_apart
put_fill_rows-added-requires-clause-ids_apart c = ids_apart_in (filling_of c.args.filling) c.args.plan c.args.core.now c.requires
