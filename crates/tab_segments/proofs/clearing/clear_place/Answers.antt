use Rattle.std.proofs.Common.{◌≡◌, Some, slice_get, rules}
use Rattle.tab_segments.proofs.Unused.{index_less}
use Rattle.tab_segments.proofs.clearing.clear_place.Goals as goal

pub loop-at-preserved : goal.loop-at-preserved
loop-at-preserved c =
    let got : slice_get c.args.entries.now.items c.args.place ≡ Some c.in-Some.entry.now = search rules in
    index_less c.args.entries.now.items c.loop-at.keys.entries c.drop_lost_key.new.keys.entries c.args.place c.in-Some.entry.now got c.drop_lost_key.ensures.others c.drop_lost_key.ensures.own c.loop-at.invariant
