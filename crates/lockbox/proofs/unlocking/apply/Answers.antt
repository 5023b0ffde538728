use Rattle.lockbox.proofs.Fresh.{decided_new}
use Rattle.lockbox.proofs.unlocking.apply.Goals as goal

pub change-requires : goal.change-requires
change-requires c = decided_new c.args.posses.now c.args.granted.now c.args.task.now c.requires
