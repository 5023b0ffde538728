use Rattle.iv_time.proofs.RoundTrip.{reads_back}
use Rattle.iv_time.proofs.laws.reads_back_itself.Goals as goal

pub returns : goal.returns
returns c = reads_back
