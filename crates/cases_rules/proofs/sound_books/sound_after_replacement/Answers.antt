use Rattle.cases_rules.proofs.SoundReplacedLaws.{sound_after_replacement}
use Rattle.cases_rules.proofs.sound_books.sound_after_replacement.Goals as goal

pub returns : goal.returns
returns c = sound_after_replacement
