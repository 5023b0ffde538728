use Rattle.laws_parts.proofs.Determined.{timeline_is_determined}
use Rattle.laws_parts.proofs.parts.timeline_is_determined.Goals as goal

pub returns : goal.returns
returns c = timeline_is_determined
