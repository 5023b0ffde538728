use Rattle.laws_runs.proofs.SoundRuns.{runs_show_what_was_put}
use Rattle.laws_runs.proofs.books.runs_show_what_was_put.Goals as goal

pub returns : goal.returns
returns c = runs_show_what_was_put
