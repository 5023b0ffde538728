use Rattle.cases_streams.proofs.WorkedPublishes.{reached_is_seen}
use Rattle.cases_streams.proofs.publishes.reached_is_seen.Goals as goal

pub returns : goal.returns
returns c = reached_is_seen
