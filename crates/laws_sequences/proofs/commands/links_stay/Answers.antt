use Rattle.laws_sequences.proofs.Reaching.{links_stay}
use Rattle.laws_sequences.proofs.commands.links_stay.Goals as goal

pub returns : goal.returns
returns c = links_stay
