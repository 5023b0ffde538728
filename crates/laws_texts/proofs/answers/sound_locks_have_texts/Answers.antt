use Rattle.laws_texts.proofs.EachCommand.{sound_locks_have_texts}
use Rattle.laws_texts.proofs.answers.sound_locks_have_texts.Goals as goal

pub returns : goal.returns
returns c = sound_locks_have_texts
