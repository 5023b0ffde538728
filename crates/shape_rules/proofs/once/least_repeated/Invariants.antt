use Rattle.std.proofs.Common.{length}
use Rattle.seg_names.specs.Ids.{same_id}
use Rattle.shape_rules.proofs.Repeated.{IsGathered}
use Rattle.shape_rules.proofs.once.least_repeated.Given as goal

abbrev pub invariant-loop-entry : goal.invariant-loop-entry
invariant-loop-entry l = IsGathered same_id l.fn.ids.items l.left.items l.later l.least

abbrev pub decreases-loop-entry : goal.decreases-loop-entry
decreases-loop-entry l = length l.left.items
