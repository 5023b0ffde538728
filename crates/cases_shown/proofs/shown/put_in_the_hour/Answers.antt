use Rattle.cases_shown.proofs.WorkedShown.{put_in_the_hour}
use Rattle.cases_shown.proofs.shown.put_in_the_hour.Goals as goal

pub returns : goal.returns
returns c = put_in_the_hour
