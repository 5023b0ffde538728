use Rattle.std.proofs.Common.{take, ◌≡◌}
use Rattle.timeline_view.specs.Turns.{turns_from}
use Rattle.timeline_view.proofs.turns.turns_of.Given as goal

abbrev pub invariant-loop-place : goal.invariant-loop-place
invariant-loop-place l = l.turns.items ≡ turns_from 0 (take l.place l.marks)
