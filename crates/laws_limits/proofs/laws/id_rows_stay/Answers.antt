use Rattle.laws_limits.proofs.IdRows.{id_rows_stay}
use Rattle.laws_limits.proofs.laws.id_rows_stay.Goals as goal

pub returns : goal.returns
returns c = id_rows_stay
