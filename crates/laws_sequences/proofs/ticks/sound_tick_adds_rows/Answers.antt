use Rattle.laws_sequences.proofs.TickedIds.{sound_tick_adds_rows}
use Rattle.laws_sequences.proofs.ticks.sound_tick_adds_rows.Goals as goal

pub returns : goal.returns
returns c = sound_tick_adds_rows
