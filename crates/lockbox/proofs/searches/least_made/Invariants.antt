use Rattle.std.proofs.Common.{◌≡◌, take}
use Rattle.std.specs.Prelude.{fold}
use Rattle.lockbox.specs.Searches.{found_step}
use Rattle.lockbox.proofs.searches.least_made.Given as goal

abbrev pub invariant-loop-row : goal.invariant-loop-row
invariant-loop-row l = l.least ≡ fold (found_step l.wanted l.task l.want) l.fn.best (take l.row-index l.made)
