use Rattle.std.proofs.Common.{◌≡◌, ◌++◌, length, take}
use Rattle.std.specs.List.{AllByRecursion, flat_map}
use Rattle.cmd_codec.specs.Fields.{short}
use Rattle.snap_codec.proofs.fields.put_list.Given as goal

-- the count and the items passed are put, and these fit
abbrev pub invariant-loop-item : goal.invariant-loop-item
invariant-loop-item g l = record {
  bytes : l.out.items ≡ l.fn.out.items ++ (short (length l.items) ++ flat_map g.T.Write.field (take l.item-index l.items));
  kept : AllByRecursion g.T.Write.Fits (take l.item-index l.items);
}
