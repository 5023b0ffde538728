use Rattle.std.proofs.Common.{take}
use Rattle.timeline_kept.proofs.Dressed.{Dresses}
use Rattle.timeline_kept.proofs.rows.parts_of.Given as goal

abbrev pub invariant-loop-stretch : goal.invariant-loop-stretch
invariant-loop-stretch l = Dresses l.rows (take l.stretch-index l.stretch-items) l.list
