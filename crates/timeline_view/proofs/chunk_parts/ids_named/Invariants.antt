use Rattle.std.proofs.Common.{take, ◌≡◌}
use Rattle.timeline_view.specs.Chunks.{named_ids}
use Rattle.timeline_view.proofs.chunk_parts.ids_named.Given as goal

abbrev pub invariant-loop-row : goal.invariant-loop-row
invariant-loop-row l = l.ids.items ≡ named_ids (take l.row-index l.rows)
