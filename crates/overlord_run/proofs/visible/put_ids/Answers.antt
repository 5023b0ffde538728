use Rattle.std.proofs.Common.{List, ap, sym, ◌∙◌}
use Rattle.seg_names.specs.declared.seg_id.SegId.{SegId}
use Rattle.timeline_view.proofs.Reading.{insert_is}
use Rattle.overlord_run.specs.Visible.{put_all}
use Rattle.overlord_run.proofs.PutIds.{last_put}
use Rattle.overlord_run.proofs.visible.put_ids.Goals as goal

pub loop-id-preserved : goal.loop-id-preserved
loop-id-preserved c =
    let left = c.pop.new.self.items in
    let seen = c.loop-id.seen.keys in
    ap (put_all left) (c.in_ok-insert.ensures.keys ∙ insert_is c.in-Some.id seen)
    ∙ (sym (last_put left c.in-Some.id seen) ∙ (ap (λ (ids : List SegId). put_all ids seen) (sym c.in-Some.ensures.items) ∙ c.loop-id.invariant))
