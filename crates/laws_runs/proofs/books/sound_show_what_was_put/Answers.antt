use Rattle.laws_runs.proofs.SoundRuns.{sound_show_what_was_put}
use Rattle.laws_runs.proofs.books.sound_show_what_was_put.Goals as goal

pub returns : goal.returns
returns c = sound_show_what_was_put
