use Rattle.laws_sequences.proofs.SequencesKept.{sequences_stay_sound}
use Rattle.laws_sequences.proofs.rule.sequences_stay_sound.Goals as goal

pub returns : goal.returns
returns c = sequences_stay_sound
