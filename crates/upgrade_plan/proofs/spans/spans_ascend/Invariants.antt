use Rattle.std.proofs.Common.{drop, ◌∷◌, ◌≡◌}
use Rattle.upgrade_plan.specs.BySpan.{spans_ascend}
use Rattle.upgrade_plan.proofs.spans.spans_ascend.Given as goal

-- whether the last id and those still to be passed are in order is what is asked of all
abbrev pub invariant-loop-id : goal.invariant-loop-id
invariant-loop-id l = spans_ascend (l.last ∷ drop l.id-index l.rest) ≡ spans_ascend l.ids
