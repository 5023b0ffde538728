use Rattle.std.proofs.Common.{take}
use Rattle.apart_spans.specs.Apart.{Bounds}
use Rattle.apart_spans.proofs.hull.Given as goal

-- all the spans so far lie within
abbrev pub invariant-loop-span : goal.invariant-loop-span
invariant-loop-span l = Bounds l.all (take l.span-index l.spans)
