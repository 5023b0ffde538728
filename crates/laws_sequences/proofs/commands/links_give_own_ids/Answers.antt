use Rattle.laws_sequences.proofs.Reaching.{links_give_own_ids}
use Rattle.laws_sequences.proofs.commands.links_give_own_ids.Goals as goal

pub returns : goal.returns
returns c = links_give_own_ids
