use Rattle.laws_chunks.proofs.OtherTables.{others_keep}
use Rattle.laws_chunks.proofs.changes.others_keep.Goals as goal

pub returns : goal.returns
returns c = others_keep
