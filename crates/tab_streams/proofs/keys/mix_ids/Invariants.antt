use Rattle.std.proofs.Common.{◌≡◌, fold, take}
use Rattle.tab_streams.specs.Keys.{mix_id}
use Rattle.tab_streams.proofs.keys.mix_ids.Given as goal

abbrev pub invariant-loop-id : goal.invariant-loop-id
invariant-loop-id l = l.mixed ≡ fold mix_id l.digest (take l.id-index l.ids)
