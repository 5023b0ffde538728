use Rattle.laws_limits.proofs.Rooms.{tables_stay_in_room}
use Rattle.laws_limits.proofs.laws.tables_stay_in_room.Goals as goal

pub returns : goal.returns
returns c = tables_stay_in_room
