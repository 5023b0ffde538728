use Rattle.laws_limits.proofs.Rooms.{reached_have_room}
use Rattle.laws_limits.proofs.laws.reached_have_room.Goals as goal

pub returns : goal.returns
returns c = reached_have_room
