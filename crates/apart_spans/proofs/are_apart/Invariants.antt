use Rattle.std.proofs.Common.{drop, ◌∷◌, ◌≡◌}
use Rattle.apart_spans.specs.Apart.{are_apart}
use Rattle.apart_spans.proofs.are_apart.Given as goal

-- whether the last span and those still to be passed are apart is what is asked of all
abbrev pub invariant-loop-span : goal.invariant-loop-span
invariant-loop-span l = are_apart (l.last ∷ drop l.span-index l.rest) ≡ are_apart l.spans
