use Rattle.laws_offsets.proofs.StoredAfter.{reset_stores_listed}
use Rattle.laws_offsets.proofs.lookups.reset_stores_listed.Goals as goal

pub returns : goal.returns
returns c = reset_stores_listed
