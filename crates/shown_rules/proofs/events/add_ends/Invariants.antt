use Rattle.std.proofs.Common.{drop, ◌≡◌}
use Rattle.shown_rules.specs.Cuts.{with_ends}
use Rattle.shown_rules.proofs.events.add_ends.Given as goal

-- the ends so far, with those still to come, are all
abbrev pub invariant-loop-event : goal.invariant-loop-event
invariant-loop-event l = with_ends l.cuts (drop l.event-index l.events) ≡ with_ends l.fn.cuts l.events
