use Rattle.std.proofs.Common.{◌∙◌, sym}
use Rattle.timeline_view.proofs.ChunkIds.{last_at}
use Rattle.timeline_view.proofs.ids.last_is.Goals as goal

pub returns-in-Some : goal.returns-in-Some
returns-in-Some c = c.is_same.ensures ∙ sym (last_at c.args.ids.now c.args.id.now c.in-Some.last.now c.in-Some.ensures.value)
