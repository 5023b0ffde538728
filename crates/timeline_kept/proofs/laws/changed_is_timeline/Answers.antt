use Rattle.timeline_kept.proofs.Keeping.{changed_is_timeline}
use Rattle.timeline_kept.proofs.laws.changed_is_timeline.Goals as goal

pub returns : goal.returns
returns c = changed_is_timeline
