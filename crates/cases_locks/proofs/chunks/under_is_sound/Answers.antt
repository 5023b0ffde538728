use Rattle.cases_locks.proofs.MeaningCaseLaws.{under_is_sound}
use Rattle.cases_locks.proofs.chunks.under_is_sound.Goals as goal

pub returns : goal.returns
returns c = under_is_sound
