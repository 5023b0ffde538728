use Rattle.std.proofs.Common.{drop, map, ◌++◌, ◌≡◌}
use Rattle.shown_rules.specs.Founds.{found_of}
use Rattle.shown_rules.specs.Stages.{found}
use Rattle.shown_rules.proofs.events.all_found.Given as goal

-- what is found so far, with what is still to come, is all
abbrev pub invariant-loop-event : goal.invariant-loop-event
invariant-loop-event l = map found_of l.found.items ++ found l.open (drop l.event-index l.events) ≡ found l.fn.open l.events
