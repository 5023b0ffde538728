use Rattle.laws_sequences.proofs.NameTexts.{replica_names_tell}
use Rattle.laws_sequences.proofs.names.replica_names_tell.Goals as goal

pub returns : goal.returns
returns c = replica_names_tell
