use Rattle.std.proofs.Common.{◌≡◌, drop}
use Rattle.sup_core.specs.ByNames.{abandoned_each}
use Rattle.sup_core.proofs.naming.abandon_each.Given as goal

-- what the names that are left make of the sequences is what all make of the first ones
abbrev pub invariant-loop-name : goal.invariant-loop-name
invariant-loop-name l = abandoned_each (drop l.name-index l.names) l.sequences ≡ abandoned_each l.names l.fn.sequences
