use Rattle.laws_keys.proofs.SegmentChunks.{ids_stay_in_chunks}
use Rattle.laws_keys.proofs.keys.ids_stay_in_chunks.Goals as goal

pub returns : goal.returns
returns c = ids_stay_in_chunks
