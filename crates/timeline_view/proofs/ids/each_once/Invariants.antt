use Rattle.std.proofs.Common.{take, true}
use Rattle.timeline_view.specs.Chunks.{AreIdsIn}
use Rattle.timeline_view.proofs.ids.each_once.Given as goal

abbrev pub invariant-loop-id : goal.invariant-loop-id
invariant-loop-id l = AreIdsIn (λ a. true) (take l.id-index l.ids) l.found.items
