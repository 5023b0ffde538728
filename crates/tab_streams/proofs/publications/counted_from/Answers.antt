use Rattle.std.proofs.Common.{arith, sym}
use Rattle.tab_streams.proofs.Repeats.{none_forgets, none_past}
use Rattle.tab_streams.proofs.publications.counted_from.Goals as goal

pub returns-else-may_be_forgotten-clause-none : goal.returns-else-may_be_forgotten-clause-none
returns-else-may_be_forgotten-clause-none c = none_forgets c.args.like.now c.args.entries.now (sym c.if-may_be_forgotten.ensures)

pub number_between-requires-clause-none : goal.number_between-requires-clause-none
number_between-requires-clause-none c = none_past c.args.like.now c.count.result 0 c.args.entries.now c.requires (omega (arith, c.count.ensures))
