use Rattle.std.proofs.Common.{refl}
use Rattle.cases_streams.proofs.offsets.reset_is_taken.Goals as goal

pub returns : goal.returns
returns c = (refl, refl, refl, refl, refl)
