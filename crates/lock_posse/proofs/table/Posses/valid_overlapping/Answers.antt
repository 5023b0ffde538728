use Rattle.lock_posse.proofs.KeyLemmas.{valid_over}
use Rattle.lock_posse.proofs.table.Posses.valid_overlapping.Goals as goal

pub numbers_over-requires : goal.numbers_over-requires
numbers_over-requires c = valid_over c.args.source.now c.args.span
