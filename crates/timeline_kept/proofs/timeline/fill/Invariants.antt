use Rattle.std.proofs.Common.{drop}
use Rattle.timeline_kept.specs.Filling.{IsFilled}
use Rattle.timeline_kept.specs.Shown.{given_over, shown_at}
use Rattle.timeline_kept.proofs.timeline.fill.Given as goal

abbrev pub invariant-loop-span : goal.invariant-loop-span
invariant-loop-span l = IsFilled l.start (given_over l.spans (shown_at l.fresh) (shown_at l.list)) l.list l.fresh (drop l.span-index l.spans) l.at l.out
