use Rattle.std.proofs.Common.{drop, map, ◌++◌, ◌≡◌}
use Rattle.shown_rules.specs.History.{adds_root}
use Rattle.shown_rules.proofs.history.add_adds.Given as goal

-- the events so far, with those still to come, are all
abbrev pub invariant-loop-id : goal.invariant-loop-id
invariant-loop-id l = l.events.items ++ map (adds_root l.place l.source) (drop l.id-index l.ids) ≡ l.fn.events.items ++ map (adds_root l.place l.source) l.ids
