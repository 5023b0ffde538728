use Rattle.cases_streams.proofs.WorkedSequences.{tick_adds_new_ids}
use Rattle.cases_streams.proofs.sequences.tick_adds_new_ids.Goals as goal

pub returns : goal.returns
returns c = tick_adds_new_ids
