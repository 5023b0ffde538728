use Rattle.cases_rules.proofs.SoundStreamLaws.{sound_under_lock}
use Rattle.cases_rules.proofs.sound_books.sound_under_lock.Goals as goal

pub returns : goal.returns
returns c = sound_under_lock
