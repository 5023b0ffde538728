use Rattle.std.proofs.Common.{rules}
use Rattle.shown_rules.proofs.Ranked.{in_order}
use Rattle.shown_rules.proofs.events.sort_events.Goals as goal

pub returns-clause-sorted : goal.returns-clause-sorted
returns-clause-sorted c = in_order _ c.in_ok-sort_by_key.ensures.sorted (λ a r q k. search rules)
