use Rattle.std.proofs.Common.{◌≤◌}
use Rattle.timeline_view.specs.Contents.{Within}
use Rattle.timeline_view.proofs.root_parts.pass_turns.Given as goal

abbrev pub invariant-loop-at : goal.invariant-loop-at
invariant-loop-at l = (l.at ≤ l.fn.places.1) × Within l.layout.stretches.now l.layout.marks.now l.layout.turns.now l.stretch l.at l.keys.entries l.parts.items l.from
