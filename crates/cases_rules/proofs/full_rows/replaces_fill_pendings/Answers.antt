use Rattle.cases_rules.proofs.FullTableLaws.{replaces_fill_pendings}
use Rattle.cases_rules.proofs.full_rows.replaces_fill_pendings.Goals as goal

pub returns : goal.returns
returns c = replaces_fill_pendings
