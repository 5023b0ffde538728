use Rattle.lock_posse.proofs.KeyLemmas.{lost_over}
use Rattle.lock_posse.proofs.table.Posses.least_lost.Goals as goal

pub least_over-requires : goal.least_over-requires
least_over-requires c = lost_over c.args.task.now c.args.source.now c.args.span
