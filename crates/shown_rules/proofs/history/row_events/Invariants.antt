use Rattle.std.proofs.Common.{drop, ◌++◌, ◌≡◌}
use Rattle.shown_rules.specs.History.{all_row_stages}
use Rattle.shown_rules.proofs.history.row_events.Given as goal

-- the events so far, with those still to come, are all
abbrev pub invariant-loop-row : goal.invariant-loop-row
invariant-loop-row l = l.events.items ++ all_row_stages (drop l.row-index l.rows) ≡ all_row_stages l.rows
