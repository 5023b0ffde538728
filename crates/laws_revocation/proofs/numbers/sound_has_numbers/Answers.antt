use Rattle.laws_revocation.proofs.Numbering.{sound_has_numbers}
use Rattle.laws_revocation.proofs.numbers.sound_has_numbers.Goals as goal

pub returns : goal.returns
returns c = sound_has_numbers
