use Rattle.laws_sequences.proofs.NameTexts.{sequence_names_tell}
use Rattle.laws_sequences.proofs.names.sequence_names_tell.Goals as goal

pub returns : goal.returns
returns c = sequence_names_tell
