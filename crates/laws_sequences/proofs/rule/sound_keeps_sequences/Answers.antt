use Rattle.laws_sequences.proofs.SequencesKept.{sound_keeps_sequences}
use Rattle.laws_sequences.proofs.rule.sound_keeps_sequences.Goals as goal

pub returns : goal.returns
returns c = sound_keeps_sequences
