use Rattle.std.proofs.Common.{drop, ◌++◌, ◌≡◌}
use Rattle.shown_rules.specs.History.{all_publication_stages}
use Rattle.shown_rules.proofs.history.publication_events.Given as goal

-- the events so far, with those still to come, are all
abbrev pub invariant-loop-place : goal.invariant-loop-place
invariant-loop-place l = l.events.items ++ all_publication_stages l.place (drop l.place l.publications) ≡ all_publication_stages 0 l.publications
