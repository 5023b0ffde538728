use Rattle.laws_shown.proofs.Reading.{sound_reads_what_was_there}
use Rattle.laws_shown.proofs.carrying.sound_reads_what_was_there.Goals as goal

pub returns : goal.returns
returns c = sound_reads_what_was_there
