use Rattle.laws_offsets.proofs.StoredAfter.{publish_stores_ends}
use Rattle.laws_offsets.proofs.lookups.publish_stores_ends.Goals as goal

pub returns : goal.returns
returns c = publish_stores_ends
