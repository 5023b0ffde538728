use Rattle.laws_runs.proofs.SoundRuns.{lines_keep_sound}
use Rattle.laws_runs.proofs.books.lines_keep_sound.Goals as goal

pub returns : goal.returns
returns c = lines_keep_sound
