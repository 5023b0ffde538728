use Rattle.std.proofs.Common.{take}
use Rattle.book_rows.specs.Shown.{used_rows}
use Rattle.timeline_view.specs.Chunks.{ArePartsOf}
use Rattle.timeline_view.proofs.chunk_parts.timeline.Given as goal

abbrev pub invariant-loop-stretch : goal.invariant-loop-stretch
invariant-loop-stretch l = ArePartsOf (used_rows l.segments.segments l.source) (take l.stretch-index l.stretch-items) l.parts.items
