use Rattle.laws_sequences.proofs.TickedIds.{ticked_ids_are_new}
use Rattle.laws_sequences.proofs.ticks.ticked_ids_are_new.Goals as goal

pub returns : goal.returns
returns c = ticked_ids_are_new
