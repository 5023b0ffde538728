use Rattle.cases_shown.proofs.WorkedShown.{counted_where_distinct}
use Rattle.cases_shown.proofs.shown.counted_where_distinct.Goals as goal

pub returns : goal.returns
returns c = counted_where_distinct
