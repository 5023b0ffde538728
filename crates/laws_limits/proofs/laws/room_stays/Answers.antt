use Rattle.laws_limits.proofs.Rooms.{room_stays}
use Rattle.laws_limits.proofs.laws.room_stays.Goals as goal

pub returns : goal.returns
returns c = room_stays
