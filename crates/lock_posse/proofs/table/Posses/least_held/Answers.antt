use Rattle.lock_posse.proofs.KeyLemmas.{held_over}
use Rattle.lock_posse.proofs.table.Posses.least_held.Goals as goal

pub least_over-requires : goal.least_over-requires
least_over-requires c = held_over c.args.task.now c.args.source.now c.args.span c.args.lock_kind c.start-start.ensures.ordered
