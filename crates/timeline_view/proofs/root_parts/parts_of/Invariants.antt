use Rattle.timeline_view.specs.Contents.{Between}
use Rattle.timeline_view.proofs.root_parts.parts_of.Given as goal

abbrev pub invariant-loop-place : goal.invariant-loop-place
invariant-loop-place l = Between l.layout.stretches.now l.layout.marks.now l.layout.turns.now l.place l.next l.keys.entries l.parts.items
