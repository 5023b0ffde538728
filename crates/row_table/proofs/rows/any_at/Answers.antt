use Rattle.row_table.proofs.LeastLemmas.{none_met}
use Rattle.row_table.proofs.rows.any_at.Goals as goal

pub returns-clause-missing : goal.returns-clause-missing
returns-clause-missing g c = none_met (g.Q.Query.passes c.args.query.now) c.args.rows.now.entries c.any_number.result c.len-count.ensures.ordered c.any_number.ensures.all
