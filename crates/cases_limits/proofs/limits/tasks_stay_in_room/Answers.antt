use Rattle.cases_limits.proofs.WorkedLimits.{tasks_stay_in_room}
use Rattle.cases_limits.proofs.limits.tasks_stay_in_room.Goals as goal

pub returns : goal.returns
returns c = tasks_stay_in_room
