use Rattle.laws_parts.proofs.Determined.{contents_are_determined}
use Rattle.laws_parts.proofs.parts.contents_are_determined.Goals as goal

pub returns : goal.returns
returns c = contents_are_determined
