use Rattle.std.proofs.Common.{◌≡◌, drop}
use Rattle.book_rows.specs.Offsets.{advance}
use Rattle.stream_offsets.proofs.advancing.advance.Given as goal

-- what the others make of the offsets is what all make of the first ones
abbrev pub invariant-loop-range : goal.invariant-loop-range
invariant-loop-range l = (
    record l.streams { offsets = advance l.streams.offsets l.source l.ranges.stream (drop l.range-index l.ranges.parts) }
    ≡ record l.fn.streams { offsets = advance l.fn.streams.offsets l.source l.ranges.stream l.ranges.parts }
    )
