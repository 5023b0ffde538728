use Rattle.std.proofs.Common.{◌≡◌, fold, take}
use Rattle.tab_streams.specs.Keys.{mix_range}
use Rattle.tab_streams.proofs.keys.mix_parts.Given as goal

abbrev pub invariant-loop-range : goal.invariant-loop-range
invariant-loop-range l = l.mixed ≡ fold mix_range l.digest (take l.range-index l.parts)
