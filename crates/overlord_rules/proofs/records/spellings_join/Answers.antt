use Rattle.overlord_rules.proofs.Joining.{joined_again}
use Rattle.overlord_rules.proofs.records.spellings_join.Goals as goal

pub returns : goal.returns
returns c = joined_again
