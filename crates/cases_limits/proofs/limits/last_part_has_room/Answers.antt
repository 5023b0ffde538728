use Rattle.cases_limits.proofs.WorkedLimits.{last_part_has_room}
use Rattle.cases_limits.proofs.limits.last_part_has_room.Goals as goal

pub returns : goal.returns
returns c = last_part_has_room
