use Rattle.std.proofs.Common.{take, ◌≡◌}
use Rattle.timeline_view.specs.Chunks.{covers_of}
use Rattle.timeline_view.proofs.chunk_parts.covers_of.Given as goal

abbrev pub invariant-loop-row : goal.invariant-loop-row
invariant-loop-row l = l.covers.items ≡ covers_of (take l.row-index l.rows)
