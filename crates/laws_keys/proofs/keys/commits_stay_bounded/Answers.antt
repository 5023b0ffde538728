use Rattle.laws_keys.proofs.Commits.{commits_stay_bounded}
use Rattle.laws_keys.proofs.keys.commits_stay_bounded.Goals as goal

pub returns : goal.returns
returns c = commits_stay_bounded
