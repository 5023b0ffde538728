use Rattle.cases_streams.proofs.WorkedPublishes.{publishes_are_answered}
use Rattle.cases_streams.proofs.publishes.publishes_are_answered.Goals as goal

pub returns : goal.returns
returns c = publishes_are_answered
