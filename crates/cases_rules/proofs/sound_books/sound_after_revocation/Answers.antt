use Rattle.cases_rules.proofs.SoundBookLaws.{sound_after_revocation}
use Rattle.cases_rules.proofs.sound_books.sound_after_revocation.Goals as goal

pub returns : goal.returns
returns c = sound_after_revocation
