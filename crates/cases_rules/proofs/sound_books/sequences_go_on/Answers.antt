use Rattle.cases_rules.proofs.SoundBookLaws.{sequences_go_on}
use Rattle.cases_rules.proofs.sound_books.sequences_go_on.Goals as goal

pub returns : goal.returns
returns c = sequences_go_on
