use Rattle.std.specs.Map.{values_of}
use Rattle.tab_tasks.proofs.WaitingRows.{listed_clean}
use Rattle.tab_tasks.proofs.waiting.cleaned.Goals as goal

pub returns : goal.returns
returns c = λ b h. rw c.clean.ensures (listed_clean (values_of c.args.rows.now.entries) c.args.places.now.items b h)
