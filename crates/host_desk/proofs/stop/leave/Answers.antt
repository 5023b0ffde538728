use Rattle.host_desk.specs.Replay.{items_of}
use Rattle.host_desk.proofs.Stops.{settled}
use Rattle.host_desk.proofs.stop.leave.Goals as goal

pub returns-in_ok-left-in-Sync : goal.returns-in_ok-left-in-Sync
returns-in_ok-left-in-Sync c = settled c.args.left.now.items c.in-Sync.file c.args.call.now c.in_ok-left-in-Sync.field-0 c.args.fill (items_of c.args.seen.now) c.in-Sync.done c.in-Sync.is c.if-done.true c.in_ok-left-in-Sync.ensures
