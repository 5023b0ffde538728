use Rattle.std.proofs.Common.{◌≡◌, drop}
use Rattle.book_rows.specs.Offsets.{compare}
use Rattle.stream_offsets.proofs.comparing.compare.Given as goal

-- of the others the same is told as of all
abbrev pub invariant-loop-range : goal.invariant-loop-range
invariant-loop-range l =
    compare l.streams.offsets l.source l.ranges.stream (drop l.range-index l.ranges.parts) ≡ compare l.streams.offsets l.source l.ranges.stream l.ranges.parts
