use Rattle.std.proofs.Common.{rules}
use Rattle.sup_core.proofs.table.has_groups.Goals as goal

pub returns : goal.returns
returns c = record { source_is = c.bytes-source.ensures.name; groups_fit = search rules }
