use Rattle.laws_sequences.proofs.TickedIds.{ticked_tasks_are_rows}
use Rattle.laws_sequences.proofs.ticks.ticked_tasks_are_rows.Goals as goal

pub returns : goal.returns
returns c = ticked_tasks_are_rows
