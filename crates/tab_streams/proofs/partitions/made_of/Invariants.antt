use Rattle.std.proofs.Common.{◌≡◌, [], take}
use Rattle.tab_streams.specs.ByName.{Rise, set_offsets}
use Rattle.tab_streams.proofs.partitions.made_of.Given as goal

-- the offsets so far are set, and their partitions ascend
abbrev pub invariant-loop-offset : goal.invariant-loop-offset
invariant-loop-offset l = (l.made.items ≡ set_offsets [] (take l.offset-index l.offsets)) × Rise l.made.items
