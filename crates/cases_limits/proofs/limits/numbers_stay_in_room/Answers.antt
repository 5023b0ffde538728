use Rattle.cases_limits.proofs.WorkedLimits.{numbers_stay_in_room}
use Rattle.cases_limits.proofs.limits.numbers_stay_in_room.Goals as goal

pub returns : goal.returns
returns c = numbers_stay_in_room
