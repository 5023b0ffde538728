use Rattle.cases_limits.proofs.WorkedLimits.{full_day_has_room}
use Rattle.cases_limits.proofs.limits.full_day_has_room.Goals as goal

pub returns : goal.returns
returns c = full_day_has_room
