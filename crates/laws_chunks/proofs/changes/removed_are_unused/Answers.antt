use Rattle.laws_chunks.proofs.ReorderedRows.{removed_are_unused}
use Rattle.laws_chunks.proofs.changes.removed_are_unused.Goals as goal

pub returns : goal.returns
returns c = removed_are_unused
