use Rattle.std.proofs.Common.{drop, map, ◌++◌, ◌≡◌}
use Rattle.shown_rules.specs.History.{takes_since}
use Rattle.shown_rules.proofs.history.add_replaced.Given as goal

-- the events so far, with those still to come, are all
abbrev pub invariant-loop-span : goal.invariant-loop-span
invariant-loop-span l = l.events.items ++ map (takes_since l.place l.source) (drop l.span-index l.spans) ≡ l.fn.events.items ++ map (takes_since l.place l.source) l.spans
