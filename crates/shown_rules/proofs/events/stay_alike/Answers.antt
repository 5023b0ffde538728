use Rattle.std.proofs.Common.{subst}
use Rattle.std.specs.Bool.{Decides}
use Rattle.shown_rules.specs.Stages.{StayAlike}
use Rattle.shown_rules.proofs.Matching.{moved_decides}
use Rattle.shown_rules.proofs.events.stay_alike.Goals as goal

pub returns : goal.returns
returns c =
    moved_decides c.args.left.items c.sort_events.new.events.items c.args.right.items c.sort_events-2.new.events.items c.in_ok-alike.alike c.sort_events.ensures.moved c.sort_events-2.ensures.moved
    (subst (λ xs. Decides c.in_ok-alike.alike (StayAlike xs c.sort_events-2.new.events.items)) c.as_slice.ensures.value
    (subst (λ ys. Decides c.in_ok-alike.alike (StayAlike c.as_slice.result.now ys)) c.as_slice-2.ensures.value c.in_ok-alike.ensures))
