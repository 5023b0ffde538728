use Rattle.laws_runs.proofs.SoundRuns.{runs_lead_to_sound}
use Rattle.laws_runs.proofs.books.runs_lead_to_sound.Goals as goal

pub returns : goal.returns
returns c = runs_lead_to_sound
