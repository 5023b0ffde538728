use Rattle.laws_sequences.proofs.Reaching.{sequences_go_on}
use Rattle.laws_sequences.proofs.commands.sequences_go_on.Goals as goal

pub returns : goal.returns
returns c = sequences_go_on
