use Rattle.overlord_core.specs.Commits.{after_append_plan}
use Rattle.overlord_core.proofs.Plans.{ids_apart}
use Rattle.overlord_core.proofs.publishing.appending.put_append.Goals as goal

pub put_append_rows-requires : goal.put_append_rows-requires
put_append_rows-requires c = ids_apart (after_append_plan c.args.plan c.args.core.now) c.requires
