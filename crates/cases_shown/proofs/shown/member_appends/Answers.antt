use Rattle.cases_shown.proofs.WorkedShown.{member_appends}
use Rattle.cases_shown.proofs.shown.member_appends.Goals as goal

pub returns : goal.returns
returns c = member_appends
