use Rattle.laws_unsound.proofs.Whole.{full_table_is_found}
use Rattle.laws_unsound.proofs.unsound.full_table_is_found.Goals as goal

pub returns : goal.returns
returns c = full_table_is_found
