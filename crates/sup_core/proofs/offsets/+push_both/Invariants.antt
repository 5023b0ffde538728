use Rattle.std.proofs.Common.{length}
use Rattle.sup_core.proofs.offsets.+push_both.Given as goal

abbrev pub decreases-push_both : goal.decreases-push_both
decreases-push_both l = length l.told.now
