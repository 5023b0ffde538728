use Rattle.laws_sequences.proofs.SequencesKept.{commands_keep_sequences}
use Rattle.laws_sequences.proofs.rule.commands_keep_sequences.Goals as goal

pub returns : goal.returns
returns c = commands_keep_sequences
