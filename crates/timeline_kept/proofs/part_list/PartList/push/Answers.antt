use Rattle.std.proofs.Common.{[], ap, ◌∙◌, ◌++◌, ◌∷◌}
use Rattle.timeline_kept.specs.PartLists.{with_chunk}
use Rattle.timeline_kept.proofs.Placing.{chunks_pushed}
use Rattle.timeline_kept.proofs.part_list.PartList.push.Goals as goal

pub returns-in-Ok-clause-ok : goal.returns-in-Ok-clause-ok
returns-in-Ok-clause-ok c =
    chunks_pushed c.self.inside.parts.items c.push_to.new.items.items c.self.inside.chunks.items c.push.new.self.items c.args.part c.args.chunk c.in-Ok.ensures.ok c.in_ok-push.ensures.items c.self.invariant
    ∙ ap (λ ps. ps ++ with_chunk c.args.part c.args.chunk ∷ []) c.self.view_is
