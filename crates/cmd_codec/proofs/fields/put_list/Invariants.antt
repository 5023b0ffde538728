use Rattle.std.proofs.Common.{◌≡◌, ◌++◌, length, take}
use Rattle.std.specs.Int.{w16, to_be_bytes}
use Rattle.std.specs.List.{flat_map}
use Rattle.cmd_codec.proofs.fields.put_list.Given as goal

-- the count and the items passed are put
abbrev pub invariant-loop-item : goal.invariant-loop-item
invariant-loop-item g l = l.out.items ≡ l.fn.out.items ++ (to_be_bytes w16 (length l.items) ++ flat_map g.T.Write.field (take l.item-index l.items))
