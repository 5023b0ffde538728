use Rattle.apart_spans.proofs.Hulls.{meets_hull}
use Rattle.tab_pending.proofs.Spans.{none_across}
use Rattle.tab_pending.proofs.upgrade_queries.first_across.Goals as goal

pub first_within-requires : goal.first_within-requires
first_within-requires c s on = meets_hull _ s c.args.spans.now c.in-Some.ensures.bounds on

pub returns-in-None : goal.returns-in-None
returns-in-None c = none_across c.args.locks.now c.args.spans.now c.args.upgrades.now c.in-None.ensures.none
