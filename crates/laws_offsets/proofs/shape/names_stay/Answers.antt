use Rattle.laws_offsets.proofs.NamedSources.{names_stay}
use Rattle.laws_offsets.proofs.shape.names_stay.Goals as goal

pub returns : goal.returns
returns c = names_stay
