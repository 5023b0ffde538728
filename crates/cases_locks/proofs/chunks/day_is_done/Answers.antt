use Rattle.cases_locks.proofs.DayLaws.{day_is_done}
use Rattle.cases_locks.proofs.chunks.day_is_done.Goals as goal

pub returns : goal.returns
returns c = day_is_done
